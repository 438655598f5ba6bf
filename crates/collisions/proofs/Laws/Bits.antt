-- The half of an entry: its place, and a bit for each set.
use Prim.Native.Nat.{ℕ, ◌+◌, ◌*◌, ◌/◌, ◌%◌, ◌<◌}
use mathlib.Core.Path.{◌≡◌, refl, sym, ap, ◌∙◌}
use mathlib.Core.Logic.{◌⊎◌, inl, inr}
use mathlib.Core.Bool.{Bool, true, false}
use native.Mathlib.Omega.{arith}
use lib.Dec.{eqb}
use borrow.Author.Tests.{eqb-false, eq-eqb, ne_eqb}
use Rattle.grammar.specs.Numbers.{most_words}
use Rattle.collisions.specs.Names.{labels_bit, references_bit, set_bit, IsSet, has_bit}
use Rattle.collisions.specs.declared.names.Set.{Set}
use Rattle.collisions.specs.declared.names.Set.TheVariants.{Labels, References}
use Rattle.collisions.specs.Order.{Joined}

pub labels_set : IsSet labels_bit
labels_set = record { is = inl refl }

pub references_set : IsSet references_bit
references_set = record { is = inr refl }

abbrev Either : ℕ → Type 0
Either w = (w ≡ labels_bit) ⊎ (w ≡ references_bit)

some : {w : ℕ} → Either w → 0 < w
some (inl e) = omega arith
some (inr e) = omega arith

pub set_is : (s : Set) → IsSet (set_bit s)
set_is Labels = labels_set
set_is References = references_set

-- The bit of a set, which was asked for.
module _ (s : Set) {w : ℕ} (e : w ≡ set_bit s) where
  pub bit_is : (h : ℕ) → eqb (h / w % 2) 1 ≡ has_bit (set_bit s) h
  unfolding has_bit
  bit_is h = rw e refl

-- A bit more.
module _ (h : ℕ) where
  more_place : {w : ℕ} → Either w → (h + w) % most_words ≡ h % most_words
  more_place (inl e) = rw e (omega arith)
  more_place (inr e) = rw e (omega arith)

  more_here : {w : ℕ} → Either w → has_bit w h ≡ false → has_bit w (h + w) ≡ true
  unfolding has_bit
  more_here (inl e) f = rw e (let z = eqb-false (h / labels_bit % 2) 1 (rw e at f) in eq-eqb ((h + labels_bit) / labels_bit % 2) 1 (omega arith))
  more_here (inr e) f =
      rw e (let z = eqb-false (h / references_bit % 2) 1 (rw e at f) in eq-eqb ((h + references_bit) / references_bit % 2) 1 (omega arith))

  more_other : {w v : ℕ} → Either w → Either v → has_bit w h ≡ false → (v ≡ w → ⊥) → has_bit v (h + w) ≡ has_bit v h
  unfolding has_bit
  more_other (inl e) (inl g) f d = absurd (d (omega arith))
  more_other (inl e) (inr g) f d =
      rw (e, g)
      (let z = eqb-false (h / labels_bit % 2) 1 (rw e at f) in
      let y : h ≡ references_bit * (h / labels_bit / 2) + h % labels_bit = omega arith in
      let p : h / references_bit ≡ h / labels_bit / 2 = omega arith in
      let q : (h + labels_bit) / references_bit ≡ h / labels_bit / 2 = omega arith in
      ap (λ x. eqb (x % 2) 1) (q ∙ sym p))
  more_other (inr e) (inl g) f d =
      rw (e, g)
      (let q : (h + references_bit) / labels_bit % 2 ≡ h / labels_bit % 2 = omega arith in ap (λ x. eqb x 1) q)
  more_other (inr e) (inr g) f d = absurd (d (omega arith))

  more_fits : {w : ℕ} → Either w → has_bit w h ≡ false → h < 65536 → h + w < 65536
  unfolding has_bit
  more_fits (inl e) f l = let z = eqb-false (h / labels_bit % 2) 1 (rw e at f) in omega arith
  more_fits (inr e) f l = let z = eqb-false (h / references_bit % 2) 1 (rw e at f) in omega arith

module _ (h : ℕ) (s : Set) {b : Bool} (e : b ≡ has_bit (set_bit s) h) (t : b ≡ false) {w : ℕ} (is : w ≡ set_bit s) where
  not_yet : has_bit (set_bit s) h ≡ false
  not_yet = cc

  pub joined_now : Joined h (set_bit s) (h + w)
  joined_now =
      rw is
      record {
        place = more_place h (set_is s).is;
        here = more_here h (set_is s).is not_yet;
        other = λ v u d. more_other h (set_is s).is u.is not_yet d;
      }

  pub joined_fits : h < 65536 → h + w < 65536
  joined_fits l = rw is (more_fits h (set_is s).is not_yet l)

-- The half of a new entry.
module _ {at : ℕ} (low : at < most_words) where
  none : {w : ℕ} → Either w → has_bit w at ≡ false
  unfolding has_bit
  none (inl e) = rw e (ne_eqb (at / labels_bit % 2) 1 (λ z. omega arith))
  none (inr e) = rw e (ne_eqb (at / references_bit % 2) 1 (λ z. omega arith))

  pub new_place : {w : ℕ} → IsSet w → (at + w) % most_words ≡ at
  new_place s = more_place at s.is ∙ (let e : at % most_words ≡ at = omega arith in e)

  pub new_here : {w : ℕ} → IsSet w → has_bit w (at + w) ≡ true
  new_here s = more_here at s.is (none s.is)

  pub new_other : {w v : ℕ} → IsSet w → IsSet v → (v ≡ w → ⊥) → has_bit v (at + w) ≡ false
  new_other s u d = more_other at s.is u.is (none s.is) d ∙ none u.is

pub new_fits : {at w : ℕ} → at < most_words → IsSet w → at + w < 65536
new_fits {at} l s = more_fits at s.is (none l s.is) (omega arith)
