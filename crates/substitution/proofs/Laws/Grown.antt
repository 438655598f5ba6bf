-- A list that is beyond its limits stays so: a step leaves no less.
use Prim.Native.Nat.{ℕ, suc, ◌<◌, ◌≤◌}
use mathlib.Core.Path.{◌≡◌, refl, ap}
use mathlib.Core.Logic.{◌⊎◌, ⊎_elim}
use mathlib.Core.List.{List, [], ◌∷◌, ◌++◌, map}
use mathlib.Core.Option.{Option, none, some}
use mathlib.Core.Bool.{Bool, true, false, not, and-false}
use native.Mathlib.Omega.{arith}
use lib.ListN.{length, length-append, take, drop}
use lib.Dec.{leb}
use borrow.Author.Tests.{lt-leb}
use Rattle.grammar.specs.Tree.{OptionDecl, Block, AlternativeOf, RuleOf}
use Rattle.grammar.specs.Lists.{total}
use Rattle.reference.specs.Substitute.{Decided, decided, declined, overfull, ◌and_then◌, require, found, decide_each, Planned, in_slot_of}
use Rattle.reference.specs.Substitute.{union_options, splice_alternative, splice_satellite, split_optional, labels_collide}
use Rattle.reference.specs.Substitute.{implicit_bindings_collide, remaining_actions_reference, without, label_collision, binding_collision, option_collision}
use Rattle.reference.specs.Substitute.{dangling_reference, Limits, is_within}
use Rattle.planned.specs.Laws.Counts.{options_all, options_all_lem}
use Rattle.steps.specs.Step.{step_by}
use Rattle.splices.proofs.Laws.OptionsUnion.{union_longer}

module _ (d : ℕ) (p : Planned d) (i : ℕ) where
  splice_grows : (a : AlternativeOf (Block d)) {q : Planned d} → splice_alternative d p i a ≡ decided q → length p.options ≤ length q.options
  unfolding splice_alternative
  splice_grows a {q} =
      go (not (labels_collide d (without i p.elements) a.elements)) (not (implicit_bindings_collide d (without i p.elements) a.elements))
      (union_options p.options a.options) refl
    where
      go : (x y : Bool) (o : Option (List OptionDecl)) → union_options p.options a.options ≡ o
          → (require label_collision x λ _.
          require binding_collision y λ _.
          found option_collision o and_then λ os.
          decided (in_slot_of p os a.id (take i p.elements ++ (a.elements ++ drop (suc i) p.elements))))
          ≡ decided q
          → length p.options ≤ length q.options
      go true true (some os) f e =
          let g : in_slot_of p os a.id (take i p.elements ++ (a.elements ++ drop (suc i) p.elements)) ≡ q = cc in
          let l = ap (λ r. length r.options) g in
          let m = union_longer p.options a.options f in
          omega arith
      go true true none f e = absurd (let z : ◌≡◌ {A = ℕ} 0 1 = cc in omega arith)
      go true false o f e = absurd (let z : ◌≡◌ {A = ℕ} 0 1 = cc in omega arith)
      go false y o f e = absurd (let z : ◌≡◌ {A = ℕ} 0 1 = cc in omega arith)

-- A decision for each item: the first one's.
record FirstOf {A B : Type 0} (f : A → Decided B) (a : A) (bs : List B) : Type 0 where
  one : B
  more : List B
  is : f a ≡ decided one
  are : one ∷ more ≡ bs

first_of : {A B : Type 0} (f : A → Decided B) (a : A) (as' : List A) {bs : List B} → decide_each f (a ∷ as') ≡ decided bs → FirstOf f a bs
unfolding decide_each
first_of {B = B} f a as' {bs} = go (f a) refl
  where
    then : (b : B) → f a ≡ decided b → (y : Decided (List B)) → (y and_then λ bs. decided (b ∷ bs)) ≡ decided bs → FirstOf f a bs
    then b e (decided cs) g = record { one = b; more = cs; is = e; are = cc }
    then b e (declined c) g = absurd (let z : ◌≡◌ {A = ℕ} 0 1 = cc in omega arith)
    then b e overfull g = absurd (let z : ◌≡◌ {A = ℕ} 0 1 = cc in omega arith)

    go : (x : Decided B) → f a ≡ x → (x and_then λ b. decide_each f as' and_then λ bs. decided (b ∷ bs)) ≡ decided bs → FirstOf f a bs
    go (decided b) e g = then b e (decide_each f as') g
    go (declined c) e g = absurd (let z : ◌≡◌ {A = ℕ} 0 1 = cc in omega arith)
    go overfull e g = absurd (let z : ◌≡◌ {A = ℕ} 0 1 = cc in omega arith)

-- A step leaves an alternative, and as many options.
pub record NoLess (d : ℕ) (p : Planned d) (ps : List (Planned d)) : Type 0 where
  pub alternatives : 1 ≤ length ps
  pub options : length p.options ≤ options_all ps

module _ (d : ℕ) (p : Planned d) (i : ℕ) where
  split_grows : (b : Bool) {ps : List (Planned d)} → require dangling_reference b (λ _. decided (split_optional p i)) ≡ decided ps → NoLess d p ps
  unfolding split_optional total
  split_grows true {ps} e =
      let f : split_optional p i ≡ ps = cc in
      let l = ap length f in
      let m = ap options_all f in
      record { alternatives = omega arith; options = omega arith }
  split_grows false e = absurd (let z : ◌≡◌ {A = ℕ} 0 1 = cc in omega arith)

  body_grows : (b : Bool) (body : List (AlternativeOf (Block d))) {ps : List (Planned d)} → (body ≡ [] → ⊥)
      → require dangling_reference b (λ _. decide_each (splice_alternative d p i) body) ≡ decided ps
      → NoLess d p ps
  unfolding total
  body_grows true [] h e = absurd (h refl)
  body_grows true (a ∷ as') {ps} h e =
      let f = first_of (splice_alternative d p i) a as' e in
      let g = splice_grows d p i a f.is in
      let l = ap length f.are in
      let m = ap options_all f.are in
      record { alternatives = omega arith; options = omega arith }
  body_grows false body h e = absurd (let z : ◌≡◌ {A = ℕ} 0 1 = cc in omega arith)

  pub step_grows : (t : RuleOf (Block (suc d))) (optional : Bool) {ps : List (Planned d)} → (optional ≡ false → t.body ≡ [] → ⊥)
      → step_by d p i t optional ≡ decided ps
      → NoLess d p ps
  unfolding splice_satellite
  step_grows t true h e = split_grows (not (remaining_actions_reference d p.elements i t.name)) e
  step_grows t false h e = body_grows (not (remaining_actions_reference d p.elements i t.name)) t.body (h refl) e

-- What is beyond its limits stays so.
pub stays_beyond : (d : ℕ) (p : Planned d) (out ps : List (Planned d)) (limits : Limits) (qs : List (Planned d)) → 1 ≤ length qs → length p.options ≤ options_all qs
    → (limits.alternatives < length (out ++ (p ∷ ps))) ⊎ (limits.options < options_all (out ++ (p ∷ ps)))
    → is_within d limits (out ++ (qs ++ ps)) ≡ false
unfolding is_within total
stays_beyond d p out ps limits qs l m =
    ⊎_elim
    (λ k.
    let a = length-append out (p ∷ ps) in
    let b = length-append out (qs ++ ps) in
    let c = length-append qs ps in
    rw (lt-leb (length (out ++ (qs ++ ps))) limits.alternatives (omega arith)) refl)
    (λ k.
    let a = options_all_lem out (p ∷ ps) in
    let b = options_all_lem out (qs ++ ps) in
    let c = options_all_lem qs ps in
    rw (lt-leb (options_all (out ++ (qs ++ ps))) limits.options (omega arith))
    (rw (and-false (leb (total (map (λ q. length q.elements) (out ++ (qs ++ ps)))) limits.elements))
    (and-false (leb (length (out ++ (qs ++ ps))) limits.alternatives))))
