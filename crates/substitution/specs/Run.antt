-- What a whole substitution comes to.
use Rattle.std.specs.Prelude.{ℕ, ◌≡◌, List, Option, Some, None, Result, Ok, Err}
use Rattle.grammar.specs.Tree.{inner_depth}
use Rattle.reference.specs.Substitute.{Decided, decided, Planned, Substituted}
use Rattle.reference.specs.Plan.{as_they_are}
use Rattle.analysis.specs.Facts.{Among}
use Rattle.hub.specs.Grounds.{rules_of}
use Rattle.planned.specs.Layout.{settled}
use Rattle.planned.specs.List.{Laid, AllIn}
use Rattle.turns.specs.Turns.{substitution}
use Rattle.turns.specs.Turn.{UnplannedBy}
use Rattle.turns.specs.Ground.{Ground, task_of}
use Rattle.turns.specs.Midway.{limits_of, Ready, Midway}
use Rattle.steps.specs.declared.cycle.Cycle.{Cycle}
use Rattle.turns.specs.declared.limits.Limits.{Limits}
use Rattle.turns.specs.declared.state.State.{State}
use Rattle.substitution.specs.declared.turning.Done.{Done}
use Rattle.turns.specs.declared.turn.Unplanned.{Unplanned}

-- The list that is left, in which all is settled, is the definition's.
pub record DoneWith (ws : List ℕ) (end : ℕ) (bs : List ℕ) (m : Decided (Substituted inner_depth)) (r : Done) : Type 0 where
  pub laid : Laid bs r.l
  pub listed : AllIn ws end inner_depth bs r.l
  pub is : m ≡ decided (record { alternatives = settled ws end inner_depth bs r.l; steps = r.steps })

-- Nothing was in need of work, and nothing is stored.
pub record Untouched (m : Decided (Substituted inner_depth)) : Type 0 where
  pub list : List (Planned inner_depth)
  pub is : m ≡ decided (record { alternatives = list; steps = 0 })

abbrev pub MadeTo : (ws : List ℕ) (end : ℕ) (bs : List ℕ) → Decided (Substituted inner_depth)
    → Result (Option Done) Unplanned → Type 0
MadeTo ws end bs m (Ok (Some r)) = DoneWith ws end bs m r
MadeTo ws end bs m (Ok None) = Untouched m
MadeTo ws end bs m (Err e) = UnplannedBy m e

-- The substitution of the hub that stands among the rules, with so many steps allowed.
pub record MadeOf (ws : List ℕ) (end : ℕ) (names places : List ℕ) (c : Cycle) (limits : Limits) (budget : ℕ) (bs : List ℕ)
    (r : Result (Option Done) Unplanned) : Type 0 where
  pub is : (b : Ground ws end names places c) (a : Among (rules_of ws end b.rules b.standing) c.hub)
      → MadeTo ws end bs (substitution (task_of b (limits_of limits)) budget 0 (as_they_are a.rule.body)) r

-- A state of it.
pub record Going (ws : List ℕ) (end : ℕ) (names places : List ℕ) (c : Cycle) (limits : Limits) (budget : ℕ) (bs : List ℕ) (st : State)
    : Type 0 where
  pub is : (b : Ground ws end names places c) (a : Among (rules_of ws end b.rules b.standing) c.hub) (y : Ready ws end bs st 0 0 0)
      → Midway ws end bs st (task_of b (limits_of limits)) budget (as_they_are a.rule.body) y
