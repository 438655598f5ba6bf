-- A hub's list that is beyond its limits before a step: what comes of each alternative, and of the whole.
use Rattle.std.specs.Prelude.{ℕ, ◌<◌, ◌≤◌, ◌≡◌, ◌⊎◌, List, Bool, false, length, get_or, Option, Result, Ok, Err}
use Rattle.grammar.specs.Tree.{Alternative, inner_depth}
use Rattle.grammar.specs.Found.{AlternativeSpans}
use Rattle.reference.specs.Substitute.{Decided, decided, Planned}
use Rattle.reference.specs.Substitute as R
use Rattle.reference.specs.Plan.{as_it_is, as_they_are}
use Rattle.analysis.specs.Facts.{Among}
use Rattle.hub.specs.Grounds.{rules_of}
use Rattle.planned.specs.Layout.{meaning}
use Rattle.planned.specs.Laws.Counts.{options_all}
use Rattle.planned.specs.declared.list.Listed.{Listed}
use Rattle.splices.specs.declared.splice.Size.{Size}
use Rattle.steps.specs.Corner.{MemberIn}
use Rattle.steps.specs.Decide.{DeclinedBy}
use Rattle.steps.specs.Step.{step_by}
use Rattle.substitution.specs.Size.{RuleCounted}
use Rattle.turns.specs.Ground.{Ground, task_of}
use Rattle.turns.specs.Turns.{Task, Replaced, IsSettled, substitution}
use Rattle.substitution.specs.Run.{MadeTo}
use Rattle.steps.specs.declared.cycle.Cycle.{Cycle}
use Rattle.steps.specs.declared.corner.Place.{Place}
use Rattle.steps.specs.declared.decide.Clause.{Clause}
use Rattle.steps.specs.declared.decide.Clause.TheVariants.{Budget}
use Rattle.turns.specs.declared.turn.Unplanned.{Unplanned}
use Rattle.turns.specs.declared.turn.Unplanned.TheVariants.{Declined, Overfull}
use Rattle.substitution.specs.declared.turning.Done.{Done}

-- The hub's own list has too many alternatives or options. It cannot have too many elements where so many may be as a sheet
-- has words.
pub record HubBeyond (ws : List ℕ) (end : ℕ) (places : List ℕ) (c : Cycle) (limits : R.Limits) : Type 0 where
  pub size : Size
  pub counted : RuleCounted ws end (get_or places c.hub 0) size
  pub beyond : (limits.alternatives < size.a) ⊎ (limits.options < size.o)

module _ (d left : ℕ) (p : Planned d) (m : Decided (List (Planned d))) where
  -- What is put in the place of an alternative ends the substitution: no step is left, or it is a decline.
  pub record Stops (n : Clause) : Type 0 where
    pub spent : left ≡ 0 → n ≡ Budget
    pub declines : (left ≡ 0 → ⊥) → DeclinedBy m n

  -- A step is left, and nothing gets less by it.
  pub record Grows : Type 0 where
    pub some : left ≡ 0 → ⊥
    pub ps : List (Planned d)
    pub is : m ≡ decided ps
    pub alternatives : 1 ≤ length ps
    pub options : length p.options ≤ options_all ps

  abbrev pub LookOf : Unplanned → Type 0
  LookOf (Declined n) = Stops n
  LookOf Overfull = Grows

module _ {d : ℕ} (t : Task d) (left : ℕ) (p : Planned d) where
  -- An alternative is in need of work.
  pub record InNeed (r : Unplanned) : Type 0 where
    pub by : Decided (List (Planned d))
    pub replaced : Replaced t p by
    pub to : LookOf d left p by r

  abbrev pub LookTo : Result (Unit {0}) Unplanned → Type 0
  LookTo (Ok u) = IsSettled t p
  LookTo (Err e) = InNeed e

-- A member is met, and one that is spliced is not the hub.
pub record Reached (c : Cycle) (n : ℕ) (p : Place) (optional : Bool) : Type 0 where
  pub member : MemberIn c n p
  pub other : optional ≡ false → p.target ≡ c.hub → ⊥

module _ (ws : List ℕ) (end : ℕ) (names places : List ℕ) (c : Cycle) (left : ℕ) where
  -- The step at a member that is met in the alternative in hand.
  pub record StepLooked (before after : List ℕ) (h : Listed) (p : Place) (optional : Bool) (r : Unplanned) : Type 0 where
    pub is : (b : Ground ws end names places c) (a : Among (rules_of ws end b.rules b.standing) p.target)
        → LookOf inner_depth left (meaning ws end inner_depth before h)
        (step_by inner_depth (meaning ws end inner_depth before h) p.index a.rule optional) r
    pub long : length after ≡ length before

  -- The alternative in hand.
  pub record HandLooked (before after : List ℕ) (h : Listed) (r : Result (Unit {0}) Unplanned) : Type 0 where
    pub is : (b : Ground ws end names places c) (limits : R.Limits) → LookTo (task_of b limits) left (meaning ws end inner_depth before h) r
    pub long : length after ≡ length before

  -- The hub's alternative at a place, as it is.
  pub record LookedAt (at : ℕ) (before after : List ℕ) (r : Result (Unit {0}) Unplanned) : Type 0 where
    pub is : (b : Ground ws end names places c) (limits : R.Limits) (a : Alternative) (q : ℕ) → AlternativeSpans ws end inner_depth at a q
        → LookTo (task_of b limits) left (as_it_is a) r
    pub long : length after ≡ length before

  -- The whole, by any limits that the hub's own list is beyond.
  pub record Unstored (bs : List ℕ) (r : Result (Option Done) Unplanned) : Type 0 where
    pub is : (limits : R.Limits) → HubBeyond ws end places c limits → (b : Ground ws end names places c)
        → (a : Among (rules_of ws end b.rules b.standing) c.hub)
        → MadeTo ws end bs (substitution (task_of b limits) left 0 (as_they_are a.rule.body)) r
