-- A substitution as a chain of turns on lists of elements: what split and splice leave of them.
use Rattle.std.specs.Prelude.{ℕ, suc, ◌≡◌, refl}
use Rattle.std.proofs.Common.{sym, ap, ◌∙◌, subst, subst₂}
use mathlib.Core.List.Memᴰ
use mathlib.Core.List.{List, [], ◌∷◌, ◌++◌, map, map-append, Memᴰ}
use Rattle.std.proofs.Math.Option.{some}
use Rattle.grammar.specs.Tree.{call, Element, leaf, AlternativeOf, Block, RuleOf}
use Rattle.grammar.specs.Numbers.{once, optional_greedy}
use Rattle.reference.specs.Analysis.{Grammar}
use Rattle.reference.specs.Substitute.{decided, Limits, plain_head, Planned, step}
use Rattle.reference.specs.Plan.{as_it_is, as_they_are}
use Rattle.laws.specs.Demands.Step.{StartTold, CornerAt, Spliced, spliced_none, spliced_one, MadeFrom}
use Rattle.laws.specs.Demands.Step as Step
use Rattle.laws.specs.Demands.Substitution.{Steps, no_steps_left, one_more}
use Rattle.laws.specs.Planning.Steps.{stepped}

module _ (d : ℕ) where
  abbrev pub Items : Type 0
  Items = List (Element (Block d))

  -- The elements of planned alternatives.
  abbrev pub items_of : List (Planned d) → List Items
  items_of = map λ p. p.elements

-- The elements that a substitution starts with are those of the body's alternatives.
pub as_they_were : (d : ℕ) (as' : Block (suc d)) {es : Items d} → Memᴰ es (items_of d (as_they_are as'))
    → (a : AlternativeOf (Block d)) × Memᴰ a as' × (a.elements ≡ es)
unfolding as_they_are
as_they_were d as' m =
    let (p, n, e) = Memᴰ.of_map (λ p. p.elements) (as_they_are as') m in
    let (a, k, f) = Memᴰ.of_map as_it_is as' n in
    (a, k, ap (λ p. p.elements) f ∙ e)

pub start_told_lem : {B : Type 0} (as' : List (AlternativeOf B)) → StartTold as'
unfolding as_they_are
start_told_lem {B} as' = record { same = same as'; untouched = λ p m. ap (λ q. q.verbatim) (sym (Memᴰ.of_map as_it_is as' m).2) }
  where
    same : (as' : List (AlternativeOf B)) → map (λ p. record {
      id = p.origin;
      carried = p.carried;
      flag = p.flag;
      options = p.options;
      elements = p.elements;
    }) (map as_it_is as') ≡ as'
    same [] = refl
    same (a ∷ as') = ap (λ l. a ∷ l) (same as')

module _ (d : ℕ) (rs : List (RuleOf (Block (suc d)))) (g : Grammar) (cycle : List ℕ) (hub : ℕ) where
  -- What takes the place of one alternative.
  pub data Turn (es : Items d) : List (Items d) → Type 0 where
    -- An optional call: present, then absent.
    split : {i t : ℕ} (x : CornerAt g cycle es i t) → x.head.quantifier ≡ optional_greedy
        → Turn es ((x.front ++ (leaf (plain_head x.head) (call x.site) ∷ x.rest)) ∷ (x.front ++ x.rest) ∷ [])
    -- A call of another rule: each of its alternatives.
    splice : {i t : ℕ} (x : CornerAt g cycle es i t) → x.head.quantifier ≡ once → (t ≡ hub → ⊥) → (r : RuleOf (Block (suc d)))
        → Memᴰ r rs → r.id ≡ t
        → Turn es (map (λ s. x.front ++ (s.elements ++ x.rest)) r.body)

  -- One step of the substitution.
  pub data Moved : List (Items d) → List (Items d) → Type 0 where
    here : {es : Items d} {news rest : List (Items d)} → Turn es news → Moved (es ∷ rest) (news ++ rest)
    later : {es : Items d} {ps qs : List (Items d)} → Moved ps qs → Moved (es ∷ ps) (es ∷ qs)

  -- Any number of them, counted.
  pub data Moves : List (Items d) → ℕ → List (Items d) → Type 0 where
    still : {ps : List (Items d)} → Moves ps 0 ps
    onward : {ps qs ks : List (Items d)} {n : ℕ} → Moved ps qs → Moves qs n ks → Moves ps (suc n) ks

  spliced_items : {p : Planned d} {front rest : Items d} {as' : List (AlternativeOf (Block d))} {qs : List (Planned d)}
      → Spliced d p front rest as' qs
      → items_of d qs ≡ map (λ s. front ++ (s.elements ++ rest)) as'
  spliced_items spliced_none = refl
  spliced_items {front = front} {rest = rest} (spliced_one {a = a} o s) = ap (λ l. (front ++ (a.elements ++ rest)) ∷ l) (spliced_items s)

  turned : {p : Planned d} {qs : List (Planned d)} → MadeFrom d rs g cycle hub p qs → Turn p.elements (items_of d qs)
  turned (Step.split x q) = split x q
  turned {p} (Step.splice x q ne r m e s) = subst (Turn p.elements) (sym (spliced_items s)) (splice x q ne r m e)

  moved : (front : List (Planned d)) {p : Planned d} {made : List (Planned d)} (rest : List (Planned d)) → MadeFrom d rs g cycle hub p made
      → Moved (items_of d (front ++ (p ∷ rest))) (items_of d (front ++ (made ++ rest)))
  moved [] {p} {made} rest m = subst (Moved (items_of d (p ∷ rest))) (sym (map-append (λ q. q.elements) made rest)) (here (turned m))
  moved (q ∷ front) rest m = later (moved front rest m)

  step_moves : (ps qs : List (Planned d)) → step d rs g cycle hub ps ≡ some (decided qs) → Moved (items_of d ps) (items_of d qs)
  step_moves ps qs e =
      let s = stepped d rs g cycle hub ps qs e in
      subst₂ (λ a b. Moved (items_of d a) (items_of d b)) s.whole s.result (moved s.front s.rest s.is_made)

  pub steps_move : {limits : Limits} {n : ℕ} {ps qs : List (Planned d)} → Steps limits d rs g cycle hub n ps qs
      → Moves (items_of d ps) n (items_of d qs)
  steps_move no_steps_left = still
  steps_move (one_more {ps = ps} {qs = qs} e w s) = onward (step_moves ps qs e) (steps_move s)
