-- Trees that are written one after the other, and a node whose front stays as it is while what is in it is written.
use Prim.Native.Nat.{ℕ, ◌+◌, ◌-◌, ◌*◌, ◌<◌, ◌≤◌}
use mathlib.Core.Path.{◌≡◌, refl, sym, ◌∙◌}
use mathlib.Core.List.{List, [], ◌∷◌, ◌++◌}
use mathlib.Core.Bool.{Bool}
use native.Mathlib.Omega.{arith}
use lib.ListN.{length, take, drop}
use Rattle.std.proofs.Common.{length-append}
use Rattle.grammar.specs.Stands.{Spans, Stands}
use Rattle.grammar.specs.Form.{first_form}
use Rattle.grammar.specs.Encode.{encode_element_in, encode_alternative_in, encode_block_in, encode_rule}
use Rattle.grammar.specs.Encode.{encode_element, encode_alternative, encode_block}
use Rattle.grammar.specs.Tree.{body_depth}
use Rattle.grammar.specs.Lists.{each, all}
use Rattle.grammar.specs.Valid.{ok_element_in, ok_alternative_in, ok_block_in, ok_rule}
use Rattle.grammar.specs.Found.{Found, FoundMany}
use Rattle.grammar.specs.Laws.Stands.{stands_length, stands_split, stands_slice}
use Rattle.grammar.specs.Laws.Opened.{first_spans, first_found, rest_found}
use Rattle.writing.specs.Wrote.{Wrote}
use Rattle.writing.specs.Laws.Wrote.{wrote_nothing, wrote_then}
use Rattle.convert.specs.declared.walk.Place.{Place}
use Rattle.convert.specs.Widened.{Roomy, Copied, WidenedOne, WidenedMany}

module _ {ws : List ℕ} {end : ℕ} {A : Type 0} {enc enc' : A → List ℕ} {ok : A → Bool} where
  widened_none : {n : ℕ} {out : List ℕ} {p : Place} → n ≡ 0 → p.at ≤ end → 8 * p.to ≤ 9 * p.at → WidenedMany ws end enc enc' ok n p out out p
  widened_none {n} {out} {p} e h g =
      record {
        long = refl;
        within = h;
        eighth = g;
        passed = λ as' z s c. past as' z s (c ∙ e);
        to_is = λ as' z s c. here as' (c ∙ e);
        wrote = λ as' z s c. none as' (c ∙ e);
      }
    where
      past : (as' : List A) (z : ℕ) → Spans ws end (each enc) (all ok) p.at as' z → length as' ≡ 0 → p.at ≡ z
      past [] z s c = let l = stands_length s.stands in omega arith
      past (a ∷ as') z s c = absurd (omega arith)

      here : (as' : List A) → length as' ≡ 0 → p.to ≡ p.to + length (each enc' as')
      here [] c = omega arith
      here (a ∷ as') c = absurd (omega arith)

      none : (as' : List A) → length as' ≡ 0 → Wrote out out p.to (each enc' as')
      none [] c = wrote_nothing out p.to
      none (a ∷ as') c = absurd (omega arith)

  module _ {n : ℕ} {p p₁ : Place} {out m : List ℕ} (some : n ≡ 0 → ⊥) (o : WidenedOne ws end enc enc' ok p out m p₁) where
    widened_more : {out' : List ℕ} {p' : Place} → WidenedMany ws end enc enc' ok (n - 1) p₁ m out' p'
        → WidenedMany ws end enc enc' ok n p out out' p'
    widened_more {out'} {p'} c =
        record { long = c.long ∙ o.long; within = c.within; eighth = c.eighth; passed = past; to_is = here; wrote = more }
      where
        past : (as' : List A) (z : ℕ) → Spans ws end (each enc) (all ok) p.at as' z → length as' ≡ n → p'.at ≡ z
        past [] z s e = absurd (some (sym e))
        past (a ∷ as') z s e = let f = first_spans s in c.passed as' z (rw (o.passed a f.0 f.1) f.2) (omega arith)

        here : (as' : List A) (z : ℕ) → Spans ws end (each enc) (all ok) p.at as' z → length as' ≡ n → p'.to ≡ p.to + length (each enc' as')
        here [] z s e = absurd (some (sym e))
        here (a ∷ as') z s e =
            let f = first_spans s in
            let x = o.to_is a f.0 f.1 in
            let y = c.to_is as' z (rw (o.passed a f.0 f.1) f.2) (omega arith) in
            let l = length-append (enc' a) (each enc' as') in
            omega arith

        more : (as' : List A) (z : ℕ) → Spans ws end (each enc) (all ok) p.at as' z → length as' ≡ n → Wrote out out' p.to (each enc' as')
        more [] z s e = absurd (some (sym e))
        more (a ∷ as') z s e =
            let f = first_spans s in
            wrote_then (o.to_is a f.0 f.1) (o.wrote a f.0 f.1) (c.wrote as' z (rw (o.passed a f.0 f.1) f.2) (omega arith))

module _ (ws : List ℕ) (end : ℕ) {A : Type 0} (enc enc' : A → List ℕ) (ok : A → Bool) where
  -- With i of n trees written: to write the others would be to write all.
  pub record Widening (n : ℕ) (p₀ : Place) (out₀ : List ℕ) (i : ℕ) (p : Place) (out : List ℕ) : Type 0 where
    pub long : length out ≡ length out₀
    pub roomy : Roomy end out p
    pub left : FoundMany ws end enc ok (n - i) p.at
    pub rest : (out' : List ℕ) (p' : Place) → WidenedMany ws end enc enc' ok (n - i) p out out' p'
        → WidenedMany ws end enc enc' ok n p₀ out₀ out' p'

module _ {ws : List ℕ} {end : ℕ} {A : Type 0} {enc enc' : A → List ℕ} {ok : A → Bool} {n : ℕ} where
  pub widening_all : {out : List ℕ} {p : Place} → FoundMany ws end enc ok n p.at → Roomy end out p
      → Widening ws end enc enc' ok n p out 0 p out
  widening_all f r =
      let e : n - 0 ≡ n = omega arith in
      record { long = refl; roomy = r; left = rw e f; rest = λ out' p' c. rw e at c }

  module _ {p₀ : Place} {out₀ : List ℕ} {i : ℕ} {p : Place} {out : List ℕ} (g : Widening ws end enc enc' ok n p₀ out₀ i p out) where
    pub widening_done : n ≤ i → WidenedMany ws end enc enc' ok n p₀ out₀ out p
    widening_done e = let r = g.roomy in g.rest out p (widened_none (omega arith) r.within r.eighth)

    pub widening_found : i < n → Found ws end enc ok p.at
    widening_found some = first_found g.left (λ e. omega arith)

    pub widening_roomy : Roomy end out p
    widening_roomy = g.roomy

    pub widening_more : i < n → {out' : List ℕ} {p' : Place} → WidenedOne ws end enc enc' ok p out out' p'
        → Widening ws end enc enc' ok n p₀ out₀ (i + 1) p' out'
    widening_more h {out'} {p'} o =
        let some : n - i ≡ 0 → ⊥ = λ e. omega arith in
        let e : n - (i + 1) ≡ n - i - 1 = omega arith in
        let r = g.roomy in
        let l = o.long in
        record {
          long = o.long ∙ g.long;
          roomy = record { within = o.within; eighth = o.eighth; room = let m = r.room in omega arith };
          left = rw e (rest_found g.left some o.passed);
          rest = λ out'' p'' c. g.rest out'' p'' (widened_more some o (rw e at c));
        }

pub ruleset widening = (widening_all, widening_done, widening_found, widening_roomy, widening_more)

module _ (ws : List ℕ) (end : ℕ) where
  abbrev pub ElementsWidening : (d n : ℕ) (p₀ : Place) (out₀ : List ℕ) (i : ℕ) (p : Place) (out : List ℕ) → Type 0
  ElementsWidening d =
      Widening ws end (encode_element_in first_form (encode_block_in first_form d)) (encode_element (encode_block d))
      (ok_element_in first_form (ok_block_in first_form d))

  abbrev pub AlternativesWidening : (d n : ℕ) (p₀ : Place) (out₀ : List ℕ) (i : ℕ) (p : Place) (out : List ℕ) → Type 0
  AlternativesWidening d =
      Widening ws end (encode_alternative_in first_form (encode_block_in first_form d)) (encode_alternative (encode_block d))
      (ok_alternative_in first_form (ok_block_in first_form d))

  abbrev pub RulesWidening : (n : ℕ) (p₀ : Place) (out₀ : List ℕ) (i : ℕ) (p : Place) (out : List ℕ) → Type 0
  RulesWidening =
      Widening ws end (encode_rule (encode_block_in first_form body_depth)) (encode_rule (encode_block body_depth))
      (ok_rule (ok_block_in first_form body_depth))

-- The front of what stands at a place.
pub front_slice : {ws : List ℕ} {end at q there : ℕ} (xs ys : List ℕ) → end ≤ length ws → Stands ws end (xs ++ ys) at q → there ≡ at + length xs
    → take (there - at) (drop at ws) ≡ xs
front_slice {ws} {end} {at} {there = there} xs ys h s e =
    let (p, x, y) = stands_split xs ys s in
    let l = stands_length x in
    let m : there - at ≡ length xs = omega arith in
    rw m (stands_slice (omega arith) x)

-- A node in both forms: a front that is the same in both, and several trees behind it.
module _ (ws : List ℕ) (end : ℕ) {A B : Type 0} (enc' : A → List ℕ) (one one' : B → List ℕ) (fine : B → Bool) where
  pub record Node (at n there : ℕ) (a : A) (z : ℕ) : Type 0 where
    pub front : List ℕ
    pub inner : List B
    pub newest : enc' a ≡ front ++ each one' inner
    pub slice : take (there - at) (drop at ws) ≡ front
    pub long : there ≡ at + length front
    pub spans : Spans ws end (each one) (all fine) there inner z
    pub count : length inner ≡ n

  pub node_widened : (enc : A → List ℕ) (ok : A → Bool) {n there : ℕ} {p p₁ p' : Place} {out m out' : List ℕ}
      → ((a : A) (z : ℕ) → Spans ws end enc ok p.at a z → Node p.at n there a z)
      → Copied ws there out m p p₁
      → WidenedMany ws end one one' fine n p₁ m out' p'
      → WidenedOne ws end enc enc' ok p out out' p'
  node_widened enc ok {n} {there} {p} {p₁} {p'} {out} {m} {out'} f c w =
      record {
        long = w.long ∙ c.wrote.long;
        within = w.within;
        eighth = w.eighth;
        passed = λ a z s. let x = f a z s in w.passed x.inner z (rw c.at_is x.spans) x.count;
        to_is = λ a z s.
            let x = f a z s in
            let y = w.to_is x.inner z (rw c.at_is x.spans) x.count in
            let l = length-append x.front (each one' x.inner) in
            let e = c.to_is in
            let g = x.long in
            rw x.newest (omega arith);
        wrote = λ a z s.
            let x = f a z s in
            let e : p₁.to ≡ p.to + length x.front = let g = x.long in let t = c.to_is in omega arith in
            rw x.newest (wrote_then e (rw x.slice at c.wrote) (w.wrote x.inner z (rw c.at_is x.spans) x.count));
      }
