-- How an option meets others, one by one.
use Prim.Native.Nat.{ℕ, zero, suc, ◌+◌, ◌*◌, ◌<◌, ◌≤◌}
use mathlib.Core.Path.{◌≡◌, refl, sym, ap, ◌∙◌}
use mathlib.Core.List.{List, [], ◌∷◌, ◌++◌}
use mathlib.Core.Bool.{Bool, true, false}
use native.Mathlib.Omega.{arith}
use native.Mathlib.Numerals.{add-one}
use lib.ListN.{length, get_or, drop}
use lib.Dec.{eqb}
use borrow.Author.Tests.{eq-eqb, ne_eqb, eqb-true, eqb-false}
use Rattle.std.proofs.lemmas.List.{drop_all}
use Rattle.grammar.specs.Tree.{OptionDecl}
use Rattle.grammar.specs.Lists.{first}
use Rattle.grammar.specs.Laws.Parse.{either}
use Rattle.planned.specs.Layout.{half, option_of, options_from}
use Rattle.splices.specs.Options.{met_by, met_first, meets, or_else, standing_options, GivenAt}
use Rattle.splices.specs.declared.options.Meets.{Meets}
use Rattle.splices.specs.declared.options.Meets.TheVariants.{New, Same, Other}

module _ (p o : OptionDecl) (os : List OptionDecl) where
  pub meets_other : (p.name ≡ o.name → ⊥) → meets (p ∷ os) o ≡ meets os o
  unfolding meets first
  meets_other h = rw (ne_eqb p.name o.name h, first) refl

  pub meets_named : p.name ≡ o.name → meets (p ∷ os) o ≡ met_by (eqb p.value o.value)
  unfolding meets first met_first
  meets_named h = rw (eq-eqb p.name o.name h, first) refl

pub meets_none : (o : OptionDecl) → meets [] o ≡ New
unfolding meets first met_first
meets_none o = refl

pub meets_append : (xs ys : List OptionDecl) (o : OptionDecl) → meets (xs ++ ys) o ≡ or_else (meets xs o) (meets ys o)
meets_append [] ys o = rw (meets_none o) refl
meets_append (p ∷ xs) ys o =
    either (eqb p.name o.name)
    (λ e.
    let h = eqb-true p.name o.name e in
    meets_named p o (xs ++ ys) h ∙ sym (rw (meets_named p o xs h) (decides (eqb p.value o.value) (meets ys o))))
    (λ e.
    let h = eqb-false p.name o.name e in
    meets_other p o (xs ++ ys) h ∙ meets_append xs ys o ∙ sym (rw (meets_other p o xs h) refl))
  where
    decides : (b : Bool) (m : Meets) → or_else (met_by b) m ≡ met_by b
    decides true m = refl
    decides false m = refl

-- Those in front of the i-th have other names.
pub record Unmet (os : List OptionDecl) (name value i : ℕ) : Type 0 where
  pub same : meets os (record { name = name; value = value }) ≡ meets (drop i os) (record { name = name; value = value })

module _ {os : List OptionDecl} {name value i : ℕ} (u : Unmet os name value i) where
  pub among_none : length os ≤ i → New ≡ meets os (record { name = name; value = value })
  among_none l = sym (u.same ∙ rw (drop_all i os l) (meets_none (record { name = name; value = value })))

  module _ {ws : List ℕ} {place : ℕ → ℕ → Type 0} (given : GivenAt ws place os) (l : i < length os) {p w : ℕ} (at : place i p)
      (is : w ≡ get_or ws p 0) where
    pub among_other : (w ≡ name → ⊥) → Unmet os name value (i + 1)
    among_other m = record { same = u.same ∙ rw (given.each i p l at, add-one i) (meets_other _ _ _ λ e. m (is ∙ e)) }

    module _ (e : w ≡ name) {v : ℕ} (x : v ≡ get_or ws (p + 1) 0) where
      among_named : meets os (record { name = name; value = value }) ≡ met_by (eqb v value)
      among_named = u.same ∙ rw (given.each i p l at) (meets_named _ _ _ (sym is ∙ e)) ∙ ap (λ k. met_by (eqb k value)) (sym x)

      pub among_same : v ≡ value → Same ≡ meets os (record { name = name; value = value })
      among_same s = sym (among_named ∙ rw (eq-eqb v value s) refl)

      pub among_differs : (v ≡ value → ⊥) → Other ≡ meets os (record { name = name; value = value })
      among_differs s = sym (among_named ∙ rw (ne_eqb v value s) refl)

-- Options that are listed, and options that stand, are at the places of their indices.
module _ (ws : List ℕ) (end d : ℕ) where
  listed_each : (bs : List ℕ) (n from i : ℕ) → i < length (options_from ws end d bs from n) → drop i (options_from ws end d bs from n)
      ≡ option_of ws end d (half bs (from + i)) ∷ drop (suc i) (options_from ws end d bs from n)
  unfolding options_from
  listed_each bs zero from i l = absurd (omega arith)
  listed_each bs (suc n) from zero l = let e : from + 0 ≡ from = omega arith in rw e refl
  listed_each bs (suc n) from (suc i) l = let e : from + suc i ≡ suc from + i = omega arith in rw e (listed_each bs n (suc from) i (omega arith))

  pub listed_at : (bs : List ℕ) (from n : ℕ) {i p : ℕ} → p ≡ half bs (from + i) → i < length (options_from ws end d bs from n)
      → drop i (options_from ws end d bs from n) ≡ option_of ws end d p ∷ drop (suc i) (options_from ws end d bs from n)
  listed_at bs from n {i} is l = rw is (listed_each bs n from i l)

  standing_each : (n at i : ℕ) → i < length (standing_options ws end d at n) → drop i (standing_options ws end d at n)
      ≡ option_of ws end d (at + 2 * i) ∷ drop (suc i) (standing_options ws end d at n)
  unfolding standing_options
  standing_each zero at i l = absurd (omega arith)
  standing_each (suc n) at zero l = let e : at + 2 * 0 ≡ at = omega arith in rw e refl
  standing_each (suc n) at (suc i) l = let e : at + 2 * suc i ≡ 2 + at + 2 * i = omega arith in rw e (standing_each n (2 + at) i (omega arith))

  pub standing_at : (at n : ℕ) {i p : ℕ} → p ≡ at + 2 * i → i < length (standing_options ws end d at n)
      → drop i (standing_options ws end d at n) ≡ option_of ws end d p ∷ drop (suc i) (standing_options ws end d at n)
  standing_at at n {i} is l = rw is (standing_each n at i l)

  pub standing_count : (at n : ℕ) → length (standing_options ws end d at n) ≡ n
  unfolding standing_options
  standing_count at zero = refl
  standing_count at (suc n) = ap suc (standing_count (2 + at) n)
