-- What one turn of the substitution comes to.
use Rattle.std.specs.Prelude.{ℕ, ◌+◌, ◌*◌, ◌<◌, ◌≤◌, ◌≡◌, ◌⊎◌, List, Bool, true, false, length, get_or, Result, Ok, Err}
use Rattle.grammar.specs.Tree.{Rule, inner_depth, body_depth}
use Rattle.grammar.specs.Found.{RuleSpans, FoundRule}
use Rattle.reference.specs.Numbers.{most_alternatives}
use Rattle.reference.specs.Substitute.{Planned, Decided, overfull}
use Rattle.planned.specs.Layout.{meaning}
use Rattle.planned.specs.declared.list.Listed.{Listed}
use Rattle.turns.specs.Turns.{Task, Replaced, substitution}
use Rattle.steps.specs.Decide.{DeclinedBy}
use Rattle.steps.specs.Step.{step_by, RuleNamed, RuleUnreferring, CallIn}
use Rattle.turns.specs.Ground.{Ground, task_of}
use Rattle.turns.specs.Midway.{Ready, With, Midway, Holding, limits_of, pending_count}
use Rattle.steps.specs.declared.cycle.Cycle.{Cycle}
use Rattle.steps.specs.declared.corner.Place.{Place}
use Rattle.turns.specs.declared.limits.Limits.{Limits}
use Rattle.turns.specs.declared.state.State.{State}
use Rattle.steps.specs.declared.decide.Clause.{Clause}
use Rattle.steps.specs.declared.decide.Clause.TheVariants.{Budget, BlockedCorner}
use Rattle.turns.specs.declared.turn.Unplanned.{Unplanned}
use Rattle.turns.specs.declared.turn.Unplanned.TheVariants.{Declined, Overfull}

-- There is no plan: by a decline, or by refusal 7.
abbrev pub UnplannedBy : {A : Type 0} → Decided A → Unplanned → Type 0
UnplannedBy m (Declined c) = DeclinedBy m c
UnplannedBy m Overfull = m ≡ overfull

-- The substitution goes on, or is over.
abbrev pub TurnTo : (ws : List ℕ) (end : ℕ) (bs : List ℕ) (t : Task inner_depth) (budget : ℕ) (start : List (Planned inner_depth))
    → Result State Unplanned → Type 0
TurnTo ws end bs t budget start (Ok st) = (y : Ready ws end bs st 0 0 0) → Midway ws end bs st t budget start y
TurnTo ws end bs t budget start (Err e) = UnplannedBy (substitution t budget 0 start) e

-- The element at an index of the alternative x is a call of the rule at a place, which has a name; a satellite refers to nothing.
pub data Called (ws : List ℕ) (end : ℕ) (bs : List ℕ) (x : Listed) (index name at : ℕ) (optional : Bool) : Type 0 where
  called : at + 4 ≤ end → FoundRule ws end at → RuleNamed ws end inner_depth at name
      → (optional ≡ false → RuleUnreferring ws end inner_depth at)
      → (optional ≡ true → CallIn (meaning ws end inner_depth bs x).elements index)
      → Called ws end bs x index name at optional

-- A step on the alternative x, whose element at an index is a call of the rule at a place.
pub record SteppedTo (ws : List ℕ) (end : ℕ) (before after : List ℕ) (st : State) (x : Listed) (index at : ℕ) (optional : Bool)
    (limits : Limits) (r : Result State Unplanned) : Type 0 where
  pub ready : (next : State) → r ≡ Ok next → Ready ws end after next 0 0 0
  pub spent : (next : State) → r ≡ Ok next → next.budget + 1 ≡ st.budget
  pub is : (t : Task inner_depth) (budget : ℕ) (start : List (Planned inner_depth)) → t.limits ≡ limits_of limits
      → (w : With ws end before st x) → Holding ws end before st t budget start x w
      → (rule : Rule) (q : ℕ) → RuleSpans ws end body_depth at rule q
      → Replaced t (meaning ws end inner_depth before x) (step_by inner_depth (meaning ws end inner_depth before x) index rule optional)
      → TurnTo ws end after t budget start r
  pub long : length after ≡ length before

-- Steps left, then alternatives to be looked at.
abbrev pub turns_left : (ws : List ℕ) (end : ℕ) (bs : List ℕ) → State → ℕ
turns_left ws end bs st = st.budget * (2 * most_alternatives) + pending_count ws end bs st

-- A turn.
pub record TurnedTo (ws : List ℕ) (end : ℕ) (names places : List ℕ) (c : Cycle) (limits : Limits) (before after : List ℕ) (st : State)
    (r : Result State Unplanned) : Type 0 where
  pub ready : (next : State) → r ≡ Ok next → Ready ws end after next 0 0 0
  pub less : (next : State) → r ≡ Ok next → turns_left ws end after next < turns_left ws end before st
  pub is : (b : Ground ws end names places c) (budget : ℕ) (start : List (Planned inner_depth)) (y : Ready ws end before st 0 0 0)
      → Midway ws end before st (task_of b (limits_of limits)) budget start y
      → TurnTo ws end after (task_of b (limits_of limits)) budget start r
  pub long : length after ≡ length before

-- A member is called.
pub record CalledAt (ws : List ℕ) (end : ℕ) (bs ns ps : List ℕ) (x : Listed) (p : Place) (optional : Bool) : Type 0 where
  pub within : p.index < x.ne
  pub names : p.target < length ns
  pub places : p.target < length ps
  pub is : Called ws end bs x p.index (get_or ns p.target 0) (get_or ps p.target 0) optional

-- A member's corner is in the way: the budget is asked first.
pub record StuckAt (budget : ℕ) (r : Clause) : Type 0 where
  pub spent : budget ≡ 0 → r ≡ Budget
  pub blocked : (budget ≡ 0 → ⊥) → r ≡ BlockedCorner

-- What is done about the alternative that was taken.
pub record ActedOn (ws : List ℕ) (end : ℕ) (names places : List ℕ) (c : Cycle) (limits : Limits) (before after : List ℕ) (st : State)
    (x : Listed) (r : Result State Unplanned) : Type 0 where
  pub ready : (next : State) → r ≡ Ok next → Ready ws end after next 0 0 0
  pub less : (next : State) → r ≡ Ok next
      → (next.budget + 1 ≡ st.budget) ⊎ ((next.budget ≡ st.budget) × (pending_count ws end after next ≡ pending_count ws end before st))
  pub is : (b : Ground ws end names places c) (budget : ℕ) (start : List (Planned inner_depth)) (w : With ws end before st x)
      → Holding ws end before st (task_of b (limits_of limits)) budget start x w
      → TurnTo ws end after (task_of b (limits_of limits)) budget start r
  pub long : length after ≡ length before
