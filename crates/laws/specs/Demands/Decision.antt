-- What is promised of the decision on one cycle, plan_cycle's (SPECIFICATION 7.4, 7.5, 8.10, 8.11, 9.1, 10): each answer is
-- given for its reason alone: 8.
use Rattle.std.specs.Prelude.{ℕ, suc, ◌≤◌, ◌<◌, ◌*◌, ◌%◌, max, ◌≡◌, true, false, length}
use mathlib.Core.List.{List, map, Memᴰ}
use Rattle.std.proofs.Math.Option.{some, none}
use Rattle.grammar.specs.Lists.{keep, total, member}
use Rattle.grammar.specs.Tree.{Block, RuleOf}
use Rattle.grammar.specs.Corners.{Corners}
use Rattle.reference.specs.Analysis.{Grammar}
use Rattle.reference.specs.Substitute.{Clause, no_hub, hub_with_arguments, satellite_not_inlinable, budget, dangling_reference}
use Rattle.reference.specs.Substitute.{blocked_corner}
use Rattle.reference.specs.Substitute.{label_collision, binding_collision, option_collision, no_steps, not_directly_rewritable}
use Rattle.reference.specs.Substitute.{Limits, Planned, Decided, decided, declined, overfull, step}
use Rattle.reference.specs.Plan.{choose_hub, satellite_is_inlinable, planned_hub_is_directly_rewritable, removable_satellites, CyclePlan}
use Rattle.reference.specs.Plan.{as_they_are}
use Rattle.laws.specs.Demands.Substitution.{Beyond, Steps}

-- The clauses for which a step declines.
pub data OfStep : Clause → Type 0 where
  dangling : OfStep dangling_reference
  blocked : OfStep blocked_corner
  labels : OfStep label_collision
  bindings : OfStep binding_collision
  options : OfStep option_collision

module _ (limits : Limits) (c : Corners) (d : ℕ) (rs : List (RuleOf (Block (suc d)))) (g : Grammar) (preserved cycle : List ℕ) where
  -- The larger of 64 and the square of the number of outermost alternatives of all members (SPECIFICATION 8.10).
  abbrev pub budget_of : ℕ
  budget_of =
      let count = total (map (λ r. length r.body) (keep (λ r. member r.id cycle) rs)) in
      max (count * count) limits.budget_floor

  -- The hub that was chosen.
  pub record Chosen (hub : RuleOf (Block (suc d))) : Type 0 where
    pub is_rule : Memᴰ hub rs
    pub is_chosen : choose_hub g cycle d rs preserved ≡ some hub.id

  -- Another rule of the cycle.
  pub record Satellite (hub r : RuleOf (Block (suc d))) : Type 0 where
    pub is_rule : Memᴰ r rs
    pub in_cycle : member r.id cycle ≡ true
    pub not_hub : r.id ≡ hub.id → ⊥

  -- Its substitution begins: it has no arguments, and every other rule of the cycle can be inlined.
  pub record Begun (hub : RuleOf (Block (suc d))) : Type 0 where
    pub chosen : Chosen hub
    pub no_arguments : hub.flags % 2 ≡ 0
    pub inlinable : (r : RuleOf (Block (suc d))) → Satellite hub r → satellite_is_inlinable d r ≡ true

  -- So many steps, no more than the budget has, lead from the hub's alternatives to a list.
  pub record Leads (hub : RuleOf (Block (suc d))) (n : ℕ) (ps : List (Planned d)) : Type 0 where
    pub begun : Begun hub
    pub path : Steps limits d rs g cycle hub.id n (as_they_are hub.body) ps
    pub within : n ≤ budget_of

  -- One step at least, and no work is left.
  pub record Settles (hub : RuleOf (Block (suc d))) (n : ℕ) (ps : List (Planned d)) : Type 0 where
    pub leads : Leads hub n ps
    pub some_steps : n ≡ 0 → ⊥
    pub no_work : step d rs g cycle hub.id ps ≡ none

  -- The plan that this makes; it removes what removable_satellites lists.
  abbrev pub plan_with : RuleOf (Block (suc d)) → ℕ → List (Planned d) → CyclePlan d
  plan_with hub n ps =
      record { hub = hub.id; alternatives = ps; removable = removable_satellites g d rs hub.id ps cycle preserved; steps = n }

  -- Every decision, in the order of the tests (SPECIFICATION 10.20); 7 is a step within the budget that leads beyond the limits.
  pub data Decision : Decided (CyclePlan d) → Type 0 where
    none_chosen : choose_hub g cycle d rs preserved ≡ none → Decision (declined no_hub)
    arguments : {hub : RuleOf (Block (suc d))} → Chosen hub → (hub.flags % 2 ≡ 0 → ⊥) → Decision (declined hub_with_arguments)
    not_inlinable : {hub r : RuleOf (Block (suc d))} → Chosen hub → hub.flags % 2 ≡ 0 → Satellite hub r → satellite_is_inlinable d r ≡ false
        → Decision (declined satellite_not_inlinable)
    spent : {hub : RuleOf (Block (suc d))} {ps : List (Planned d)} → Leads hub budget_of ps → (step d rs g cycle hub.id ps ≡ none → ⊥)
        → Decision (declined budget)
    stuck : {hub : RuleOf (Block (suc d))} {n : ℕ} {ps : List (Planned d)} {why : Clause} → Leads hub n ps → n < budget_of
        → step d rs g cycle hub.id ps ≡ some (declined why) → OfStep why → Decision (declined why)
    full : {hub : RuleOf (Block (suc d))} {n : ℕ} {ps next : List (Planned d)} → Leads hub n ps → n < budget_of
        → step d rs g cycle hub.id ps ≡ some (decided next) → Beyond limits next → Decision overfull
    unmoved : {hub : RuleOf (Block (suc d))} → Begun hub → step d rs g cycle hub.id (as_they_are hub.body) ≡ none
        → Decision (declined no_steps)
    unfit : {hub : RuleOf (Block (suc d))} {n : ℕ} {ps : List (Planned d)} → Settles hub n ps
        → planned_hub_is_directly_rewritable c g cycle hub.id d ps ≡ false → Decision (declined not_directly_rewritable)
    plan : {hub : RuleOf (Block (suc d))} {n : ℕ} {ps : List (Planned d)} → Settles hub n ps
        → planned_hub_is_directly_rewritable c g cycle hub.id d ps ≡ true
        → Decision (decided (plan_with hub n ps))
