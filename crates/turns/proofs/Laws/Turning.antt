-- One turn: an alternative is taken, and something is done about it.
use Prim.Native.Nat.{ℕ, ◌+◌, ◌≤◌, ◌<◌}
use mathlib.Core.Path.{◌≡◌, ◌∙◌}
use mathlib.Core.Logic.{◌⊎◌, inl, inr}
use mathlib.Core.List.{List}
use native.Mathlib.Omega.{arith}
use Rattle.grammar.specs.Tree.{inner_depth}
use Rattle.reference.specs.Numbers.{most_alternatives}
use Rattle.planned.specs.Laws.Counts.{alternatives_in_lem}
use Rattle.turns.specs.Ground.{task_of}
use Rattle.turns.specs.Midway.{Shut, shut, opened, Ready, With, limits_of, pending_count, TakenFrom, listed_of}
use Rattle.turns.specs.Turn.{ActedOn, TurnedTo, turns_left}
use Rattle.steps.specs.declared.cycle.Cycle.{Cycle}
use Rattle.turns.specs.declared.limits.Limits.{Limits}
use Rattle.turns.specs.declared.state.State.{State}
use Rattle.turns.specs.declared.taken.Taken.{Taken}
use Rattle.std.specs.Prelude.{Result}
use Rattle.turns.specs.declared.turn.Unplanned.{Unplanned}

-- No more is to be looked at than a list may have.
few_pending : {ws : List ℕ} {end : ℕ} {bs : List ℕ} {st : State} → Ready ws end bs st 0 0 0 → pending_count ws end bs st ≤ most_alternatives
few_pending {ws} {end} {bs} {st} r =
    let n = alternatives_in_lem ws end inner_depth bs st.l r.laid in
    let a = r.alternatives in
    let f = r.few_alternatives in
    omega arith

module _ {ws : List ℕ} {end : ℕ} {before mid : List ℕ} {st : State} {t : Taken} (r : Shut (Ready ws end before st 0 0 0))
    (k : TakenFrom ws end before mid st t) where
  pub taken_shut : Shut (With ws end mid t.st (listed_of t.x))
  taken_shut = shut (k.with (opened r))

  pub turned : {names places : List ℕ} {c : Cycle} {limits : Limits} {after : List ℕ} {v : Result State Unplanned}
      → ActedOn ws end names places c limits mid after t.st (listed_of t.x) v → TurnedTo ws end names places c limits before after st v
  turned {limits = limits} {after} a =
      record {
        ready = a.ready;
        less = λ next e. fewer next (a.ready next e) (a.less next e);
        is = λ b most start y m. a.is b most start (k.with y) (k.holds (task_of b (limits_of limits)) most start y m);
        long = a.long ∙ k.long;
      }
    where
      fewer : (next : State) → Ready ws end after next 0 0 0
          → (next.budget + 1 ≡ t.st.budget)
          ⊎ ((next.budget ≡ t.st.budget) × (pending_count ws end after next ≡ pending_count ws end mid t.st))
          → turns_left ws end after next < turns_left ws end before st
      fewer next y (inl e) = let p = few_pending y in let s = k.same_budget in let f = k.fewer (opened r) in omega arith
      fewer next y (inr e) =
          let a = e.0 in
          let b = e.1 in
          let s = k.same_budget in
          let f = k.fewer (opened r) in
          omega arith

pub ruleset turning = (taken_shut, turned)
