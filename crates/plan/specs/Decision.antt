-- What is decided of a cycle, against the definition (SPECIFICATION 7 to 10).
use Rattle.std.specs.Prelude.{ℕ, ◌%◌, ◌<◌, ◌≡◌, List, Bool, not, get_or, eqb, Result, Ok, Err}
use Rattle.grammar.specs.Tree.{Rule, body_depth, inner_depth}
use Rattle.grammar.specs.Found.{RuleSpans}
use Rattle.grammar.specs.Corners.{Corners}
use Rattle.reference.specs.Substitute.{Decided, decided}
use Rattle.reference.specs.Plan.{CyclePlan, plan_cycle, with_rule, substituting, last_tests}
use Rattle.records.specs.declared.rules.Rules.{Rules}
use Rattle.reach.specs.Rows.{RowOf}
use Rattle.analysis.specs.Facts.{Among}
use Rattle.analysis.specs.declared.rounds.Marks.{Marks}
use Rattle.planned.specs.Layout.{settled}
use Rattle.planned.specs.List.{Laid, AllIn}
use Rattle.turns.specs.Midway.{limits_of}
use Rattle.turns.specs.Turn.{UnplannedBy}
use Rattle.turns.specs.declared.limits.Limits.{Limits}
use Rattle.substitution.specs.declared.turning.Done.{Done}
use Rattle.plan.specs.declared.plan.Plan.{Plan}
use Rattle.turns.specs.declared.turn.Unplanned.{Unplanned}
use Rattle.plan.specs.Known.{CycleKnown, HubKnown, known_rules, known_grammar}

module _ (ws : List ℕ) (end : ℕ) (ids : List ℕ) (n : ℕ) (bs : List ℕ) where
  -- A plan of the definition: its hub by place, its alternatives in the work area, its removable rules as a row.
  pub record PlanAs (plan : CyclePlan inner_depth) (p : Plan) : Type 0 where
    pub inside : p.hub < n
    pub hub : plan.hub ≡ get_or ids p.hub 0
    pub laid : Laid bs p.l
    pub listed : AllIn ws end inner_depth bs p.l
    pub alternatives : plan.alternatives ≡ settled ws end inner_depth bs p.l
    pub removable : RowOf ids n plan.removable p.removable
    pub steps : plan.steps ≡ p.steps

  pub record PlannedBy (m : Decided (CyclePlan inner_depth)) (p : Plan) : Type 0 where
    pub plan : CyclePlan inner_depth
    pub is : m ≡ decided plan
    pub same : PlanAs plan p

  abbrev pub DecidedAs : Decided (CyclePlan inner_depth) → Result Plan Unplanned → Type 0
  DecidedAs m (Ok p) = PlannedBy m p
  DecidedAs m (Err e) = UnplannedBy m e

-- Whether the rule at a place takes arguments.
pub record TakesArguments (ws : List ℕ) (end at : ℕ) (r : Bool) : Type 0 where
  pub is : (t : Rule) (q : ℕ) → RuleSpans ws end body_depth at t q → eqb (t.flags % 2) 0 ≡ not r

module _ (ws : List ℕ) (end : ℕ) (rules : Rules) (reading : Corners) (calls : List (List ℕ)) (marks : Marks) (kept members : List ℕ) where
  -- The decision is the definition's, for all that is known.
  pub record PlanOf (limits : Limits) (bs : List ℕ) (r : Result Plan Unplanned) : Type 0 where
    pub is : (x : CycleKnown ws end rules reading calls marks kept members)
        → DecidedAs ws end rules.ids rules.n bs
        (plan_cycle (limits_of limits) reading (known_grammar x) inner_depth (known_rules x) x.preserved x.cycle) r

  -- From the hub on.
  pub record PlanWith (limits : Limits) (hub : ℕ) (bs : List ℕ) (r : Result Plan Unplanned) : Type 0 where
    pub is : (x : CycleKnown ws end rules reading calls marks kept members) (a : Among (known_rules x) hub)
        → DecidedAs ws end rules.ids rules.n bs
        (with_rule (limits_of limits) reading (known_grammar x) inner_depth (known_rules x) x.preserved x.cycle
        (get_or rules.ids hub 0) a.rule) r

  -- From the substitution on.
  pub record PlanMade (limits : Limits) (hub : ℕ) (bs : List ℕ) (r : Result Plan Unplanned) : Type 0 where
    pub is : (h : HubKnown ws end rules reading calls marks kept members hub) (a : Among (known_rules h.known) hub)
        → DecidedAs ws end rules.ids rules.n bs
        (substituting (limits_of limits) reading (known_grammar h.known) inner_depth (known_rules h.known) h.known.preserved
        h.known.cycle (get_or rules.ids hub 0) a.rule) r

  -- Behind the substitution, whatever the limits were.
  pub record PlanLast (hub : ℕ) (done : Done) (bs : List ℕ) (r : Result Plan Unplanned) : Type 0 where
    pub is : (limits : Limits) (x : CycleKnown ws end rules reading calls marks kept members)
        → DecidedAs ws end rules.ids rules.n bs
        (last_tests (limits_of limits) reading (known_grammar x) inner_depth (known_rules x) x.preserved x.cycle
        (get_or rules.ids hub 0) (record { alternatives = settled ws end inner_depth bs done.l; steps = done.steps })) r
