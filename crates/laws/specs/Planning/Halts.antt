-- A step gives a list, or declines for one of its own clauses.
use Rattle.std.specs.Prelude.{ℕ, suc, Bool, true, false, not}
use mathlib.Core.List.{List, [], ◌∷◌, ◌++◌}
use Rattle.std.proofs.Math.Option.{Option, none, some}
use Rattle.grammar.specs.Tree.{AlternativeOf, Block, RuleOf}
use Rattle.reference.specs.Analysis.{Grammar, rule_with_id}
use Rattle.reference.specs.Substitute.{Clause, dangling_reference, label_collision, binding_collision, option_collision, Decided, decided}
use Rattle.reference.specs.Substitute.{declined, overfull, ◌and_then◌, require, found, decide_each, PlannedCorner, optional, satellite}
use Rattle.reference.specs.Substitute.{blocked, settled, planned_corner, without, split_optional, union_options, Planned}
use Rattle.reference.specs.Substitute.{remaining_actions_reference, labels_collide, implicit_bindings_collide, splice_alternative}
use Rattle.reference.specs.Substitute.{splice_satellite, replacement, step}
use Rattle.laws.specs.Demands.Decision.{OfStep, dangling, labels, bindings, options}
use Rattle.laws.specs.Demands.Decision as decision

abbrev pub Halts : {A : Type 0} → Decided A → Type 0
Halts (decided a) = Unit {0}
Halts (declined c) = OfStep c
Halts overfull = ⊥

halts_then : {A B : Type 0} (x : Decided A) (f : A → Decided B) → Halts x → ((a : A) → Halts (f a)) → Halts (x and_then f)
halts_then (decided a) f p h = h a
halts_then (declined c) f p h = p
halts_then overfull f p h = p

halts_require : {A : Type 0} (c : Clause) (t : Bool) (f : Unit {0} → Decided A) → OfStep c → Halts (f tt) → Halts (require c t f)
halts_require c true f p h = h
halts_require c false f p h = p

halts_found : {A : Type 0} (c : Clause) (o : Option A) → OfStep c → Halts (found c o)
halts_found c none p = p
halts_found c (some a) p = tt

halts_each : {A B : Type 0} (f : A → Decided B) → ((a : A) → Halts (f a)) → (as' : List A) → Halts (decide_each f as')
unfolding decide_each
halts_each f h [] = tt
halts_each f h (a ∷ as') =
    halts_then (f a) (λ b. decide_each f as' and_then λ bs. decided (b ∷ bs)) (h a)
    (λ b. halts_then (decide_each f as') (λ bs. decided (b ∷ bs)) (halts_each f h as') (λ bs. tt))

module _ (d : ℕ) where
  splice_halts : (p : Planned d) (i : ℕ) (s : AlternativeOf (Block d)) → Halts (splice_alternative d p i s)
  unfolding splice_alternative
  splice_halts p i s =
      halts_require label_collision (not (labels_collide d (without i p.elements) s.elements)) _ labels
      (halts_require binding_collision (not (implicit_bindings_collide d (without i p.elements) s.elements)) _ bindings
      (halts_then (found option_collision (union_options p.options s.options)) _
      (halts_found option_collision (union_options p.options s.options) options) (λ os. tt)))

  abbrev pub Halting : Option (Decided (List (Planned d))) → Type 0
  Halting none = Unit {0}
  Halting (some r) = Halts r

  replacement_halts : (rs : List (RuleOf (Block (suc d)))) (p : Planned d) (c : PlannedCorner) → Halting (replacement d rs p c)
  unfolding replacement splice_satellite
  replacement_halts rs p (optional i t) = go (rule_with_id rs t)
    where
      go : (o : Option (RuleOf (Block (suc d)))) → Halting (elim o as (λ x. Option (Decided (List (Planned d)))) [
        | none ↦ none
        | some r ↦ some (require dangling_reference (not (remaining_actions_reference d p.elements i r.name)) λ _. decided
            (split_optional p i))
      ])
      go none = tt
      go (some r) = halts_require dangling_reference (not (remaining_actions_reference d p.elements i r.name)) _ dangling tt
  replacement_halts rs p (satellite i t) = go (rule_with_id rs t)
    where
      go : (o : Option (RuleOf (Block (suc d))))
          → Halting (elim o as (λ x. Option (Decided (List (Planned d)))) [ none ↦ none | some r ↦ some (splice_satellite d p i r) ])
      go none = tt
      go (some r) =
          halts_require dangling_reference (not (remaining_actions_reference d p.elements i r.name)) _ dangling
          (halts_each (splice_alternative d p i) (splice_halts p i) r.body)
  replacement_halts rs p blocked = decision.blocked
  replacement_halts rs p settled = tt

  pub step_halts : (rs : List (RuleOf (Block (suc d)))) (g : Grammar) (cycle : List ℕ) (hub : ℕ) (ps : List (Planned d))
      → Halting (step d rs g cycle hub ps)
  unfolding step
  step_halts rs g cycle hub [] = tt
  step_halts rs g cycle hub (p ∷ ps) =
      go (replacement d rs p (planned_corner g cycle hub p.elements)) (replacement_halts rs p (planned_corner g cycle hub p.elements))
      (step d rs g cycle hub ps) (step_halts rs g cycle hub ps)
    where
      go : (o : Option (Decided (List (Planned d)))) → Halting o → (o' : Option (Decided (List (Planned d)))) → Halting o'
          → Halting (elim o as (λ y. Option (Decided (List (Planned d)))) [
            | some r ↦ some (r and_then λ qs. decided (qs ++ ps))
            | none ↦ elim o' as (λ y. Option (Decided (List (Planned d))))
                [ none ↦ none | some r ↦ some (r and_then λ qs. decided (p ∷ qs)) ]
          ])
      go none f none f' = tt
      go none f (some r) f' = halts_then r (λ qs. decided (p ∷ qs)) f' (λ qs. tt)
      go (some r) f o' f' = halts_then r (λ qs. decided (qs ++ ps)) f (λ qs. tt)
