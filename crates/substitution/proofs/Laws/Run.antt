-- The substitution from its first turn to its last.
use Prim.Native.Nat.{ℕ, ◌<◌}
use mathlib.Core.Path.{◌≡◌, refl, ap₂, ◌∙◌}
use mathlib.Core.List.{List, [], ◌++◌}
use mathlib.Core.Bool.{Bool, true, false}
use Rattle.grammar.specs.Tree.{inner_depth}
use Rattle.reference.specs.Plan.{as_they_are}
use Rattle.planned.specs.Layout.{stack}
use Rattle.turns.specs.Midway.{Shut, shut, opened, Ready, HasNext, NextIs}
use Rattle.turns.specs.Turn.{TurnedTo, turns_left}
use Rattle.substitution.specs.Run.{MadeOf, Going}
use Rattle.steps.specs.declared.cycle.Cycle.{Cycle}
use Rattle.turns.specs.declared.limits.Limits.{Limits}
use Rattle.turns.specs.declared.state.State.{State}
use Rattle.std.specs.Prelude.{Some, Result, Ok, Err}
use Rattle.std.proofs.lemmas.List.{nil_from_length}
use Rattle.turns.specs.declared.turn.Unplanned.{Unplanned}
use Rattle.turns.proofs.Laws.Turns.{substituted}
use Rattle.turns.proofs.Laws.Midway.{retold}

module _ {ws : List ℕ} {end : ℕ} {names places : List ℕ} {c : Cycle} {limits : Limits} {most : ℕ} where
  module _ {bs : List ℕ} {st : State} (r : Shut (Ready ws end bs st 0 0 0)) (g : Shut (Going ws end names places c limits most bs st)) where
    -- Nothing is left to look at.
    pub run_done : {k : Bool} → NextIs st k → k ≡ false
        → MadeOf ws end names places c limits most bs (Ok (Some (record { l = st.l; steps = st.steps })))
    unfolding as_they_are
    run_done n e =
        record {
          is = λ b a.
              let y = opened r in
              let m = (opened g).is b a y in
              let none : stack ws end inner_depth bs st.l ++ as_they_are y.remaining.trees ≡ [] =
              ap₂ (λ z ts. z ++ as_they_are ts) ((n.drained e).done refl ws end inner_depth bs y.laid) (rest y) in
              record { laid = y.laid; listed = y.listed; is = (substituted (retold refl none m.run)).is };
        }
      where
        rest : (y : Ready ws end bs st 0 0 0) → y.remaining.trees ≡ []
        rest y = nil_from_length y.remaining.trees (y.remaining.count ∙ n.left e)

    module _ {after : List ℕ} {v : Result State Unplanned} (t : TurnedTo ws end names places c limits bs after st v) where
      pub run_ready : {next : State} → v ≡ Ok next → Shut (Ready ws end after next 0 0 0)
      run_ready {next} e = shut (t.ready next e)

      pub run_on : {next : State} → v ≡ Ok next → Shut (Going ws end names places c limits most after next)
      run_on {next} e =
          let u = rw e at t in
          shut (record { is = λ b a y. u.is b most (as_they_are a.rule.body) (opened r) ((opened g).is b a (opened r)) y })

      pub run_ends : {n : Unplanned} → v ≡ Err n → MadeOf ws end names places c limits most after (Err n)
      run_ends e =
          let u = rw e at t in
          record { is = λ b a. u.is b most (as_they_are a.rule.body) (opened r) ((opened g).is b a (opened r)) }

pub next_has : {st : State} {k : Bool} → NextIs st k → k ≡ true → HasNext st
next_has n e = n.more e

pub turn_less : {ws : List ℕ} {end : ℕ} {names places : List ℕ} {c : Cycle} {limits : Limits} {before after : List ℕ} {st : State} {v : Result State Unplanned}
    → TurnedTo ws end names places c limits before after st v → {next : State} → v ≡ Ok next → turns_left ws end after next < turns_left ws end before st
turn_less t {next} e = t.less next e

pub ruleset running = (next_has, turn_less, run_done, run_ready, run_on, run_ends)
