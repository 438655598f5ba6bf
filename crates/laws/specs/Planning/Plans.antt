-- What a decided plan was made from.
use Rattle.std.specs.Prelude.{ℕ, suc, ◌≤◌, ◌≡◌, refl, true, false, ◌||◌}
use Rattle.std.proofs.Common.{sym, ap, ◌∙◌, subst, true≢false, eq-eqb}
use mathlib.Core.List.{List, Memᴰ}
use Rattle.std.proofs.Math.Option.{none}
use Rattle.grammar.specs.Lists.{member}
use Rattle.grammar.specs.Laws.Lists.{member_in}
use Rattle.grammar.specs.Laws.Parse.{either, never}
use Rattle.grammar.specs.Tree.{Block, RuleOf}
use Rattle.grammar.specs.Corners.{Corners}
use Rattle.reference.specs.Analysis.{Grammar}
use Rattle.reference.specs.Substitute.{Decided, decided, Limits, step}
use Rattle.reference.specs.Plan.{planned_hub_is_directly_rewritable, removable_satellites, CyclePlan, as_they_are, plan_cycle}
use Rattle.laws.specs.Demands.Substitution.{Steps}
use Rattle.laws.specs.Demands.Decision.{Decision, budget_of, none_chosen, arguments, not_inlinable, spent, stuck, full, unmoved, unfit}
use Rattle.laws.specs.Demands.Decision.{plan}
use Rattle.laws.specs.Planning.Decisions.{decided_inj}
use Rattle.laws.specs.Planning.Turns.{items_of, Moves, steps_move}
use Rattle.laws.specs.Planning.PlanCycle.{candidate, decision}
use Rattle.laws.specs.Planning.Removed.{removable_satellite}

module _ (c : Corners) (d : ℕ) (rs : List (RuleOf (Block (suc d)))) (g : Grammar) (preserved cycle : List ℕ) where
  -- A plan for a cycle: its hub, a rule of the cycle; the substitution; the tests passed; what may be removed.
  pub record Made (plan : CyclePlan d) : Type 0 where
    pub hub : RuleOf (Block (suc d))
    pub is_rule : Memᴰ hub rs
    pub is_hub : hub.id ≡ plan.hub
    pub in_cycle : Memᴰ hub.id cycle
    pub limits : Limits
    pub path : Steps limits d rs g cycle hub.id plan.steps (as_they_are hub.body) plan.alternatives
    pub moves : Moves d rs g cycle hub.id (items_of d (as_they_are hub.body)) plan.steps (items_of d plan.alternatives)
    pub settled : step d rs g cycle hub.id plan.alternatives ≡ none
    pub some_steps : plan.steps ≡ 0 → ⊥
    pub is_fit : planned_hub_is_directly_rewritable c g cycle hub.id d plan.alternatives ≡ true
    pub removed : plan.removable ≡ removable_satellites g d rs hub.id plan.alternatives cycle preserved

  -- From the decision.
  pub plan_made : (limits : Limits) (plan : CyclePlan d) → plan_cycle limits c g d rs preserved cycle ≡ decided plan → Made plan
  plan_made limits p e = go (plan_cycle limits c g d rs preserved cycle) (decision c d rs g preserved cycle limits) e
    where
      go : (o : Decided (CyclePlan d)) → Decision limits c d rs g preserved cycle o → o ≡ decided p → Made p
      go o (plan {hub = hub} s fit) f =
          let x = s.leads in
          let chosen = x.begun.chosen in
          subst Made (decided_inj f)
          (record {
            hub = hub;
            is_rule = chosen.is_rule;
            is_hub = refl;
            in_cycle = (candidate c d rs g preserved cycle hub.id chosen.is_chosen).0;
            limits = limits;
            path = x.path;
            moves = steps_move d rs g cycle hub.id x.path;
            settled = s.no_work;
            some_steps = s.some_steps;
            is_fit = fit;
            removed = refl;
          })
      go o (none_chosen x) f = never (cc)
      go o (arguments x y) f = never (cc)
      go o (not_inlinable x y z w) f = never (cc)
      go o (spent x y) f = never (cc)
      go o (stuck x y z w) f = never (cc)
      go o (full x y z w) f = never (cc)
      go o (unmoved x y) f = never (cc)
      go o (unfit x y) f = never (cc)

  -- It has no more steps than its budget.
  pub plan_within : (limits : Limits) (plan : CyclePlan d) → plan_cycle limits c g d rs preserved cycle ≡ decided plan
      → plan.steps ≤ budget_of limits c d rs g preserved cycle
  plan_within limits p e = go (plan_cycle limits c g d rs preserved cycle) (decision c d rs g preserved cycle limits) e
    where
      go : (o : Decided (CyclePlan d)) → Decision limits c d rs g preserved cycle o → o ≡ decided p
          → p.steps ≤ budget_of limits c d rs g preserved cycle
      go o (plan s fit) f = subst (λ p. p.steps ≤ budget_of limits c d rs g preserved cycle) (decided_inj f) s.leads.within
      go o (none_chosen x) f = never (cc)
      go o (arguments x y) f = never (cc)
      go o (not_inlinable x y z w) f = never (cc)
      go o (spent x y) f = never (cc)
      go o (stuck x y z w) f = never (cc)
      go o (full x y z w) f = never (cc)
      go o (unmoved x y) f = never (cc)
      go o (unfit x y) f = never (cc)

-- The hub is not among the rules that may go.
pub hub_stays_lem : (c : Corners) (d : ℕ) (rs : List (RuleOf (Block (suc d)))) (g : Grammar) (preserved cycle : List ℕ) {plan : CyclePlan d}
    → Made c d rs g preserved cycle plan → member plan.hub plan.removable ≡ false
hub_stays_lem c d rs g preserved cycle {plan} x =
    either (member plan.hub plan.removable)
    (λ u.
    let gone = removable_satellites g d rs x.hub.id plan.alternatives cycle preserved in
    let m = member_in gone (subst (λ is. member x.hub.id is ≡ true) x.removed (subst (λ i. member i plan.removable ≡ true)
    (sym x.is_hub) u)) in
    let (_, s) = removable_satellite g d rs x.hub.id plan.alternatives cycle preserved m in
    absurd (true≢false (sym (ap (λ b. b || member x.hub.id preserved) (eq-eqb x.hub.id x.hub.id refl)) ∙ s)))
    (λ u. u)
