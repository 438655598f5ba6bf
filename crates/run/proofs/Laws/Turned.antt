-- The returns of a turn, by what the search found.
use Prim.Native.Nat.{ℕ}
use Rattle.std.specs.Prelude.{Some, None, Ok, Err}
use mathlib.Core.Path.{◌≡◌}
use mathlib.Core.List.{List}
use Rattle.grammar.specs.Words.{words}
use Rattle.grammar.specs.Corners.{Corners}
use Rattle.turns.specs.Midway.{limits_of}
use Rattle.turns.specs.declared.limits.Limits.{Limits}
use Rattle.plan.specs.declared.plan.Plan.{Plan}
use Rattle.plan.specs.declared.search.Found.{Found}
use Rattle.plan.specs.declared.search.FoundPlan.{FoundPlan}
use Rattle.plan.specs.Search.{FoundOf}
use Rattle.run.specs.declared.state.State.{State}
use Rattle.words.specs.declared.numbers.Refusal.{Refusal}
use Rattle.run.specs.Midst.{Going}
use Rattle.run.specs.Turn.{Advancing, AdvancedOf, TurnedOf}
use Rattle.run.proofs.Laws.Known.{midst_room, midst_small, midst_known, found_none, found_large, found_refusal, found_planned}
use Rattle.run.proofs.Laws.Over.{turned_none, turned_large}

module _ {lim : Limits} {reading : Corners} {result trail : List ℕ} {calls corners : List (List ℕ)} {st : State} {bs : List ℕ} {r : Found}
    (o : FoundOf (words result) st.at.end st.at.rules reading calls corners st.ground.marks st.ground.kept lim bs r) where
  pub turn_none : r.answer ≡ Ok None
      → TurnedOf (limits_of lim) reading result trail calls corners st result trail calls corners (Ok None)
  turn_none e = record { is = λ s m. turned_none m (found_none m o e) }

  pub turn_large : {f : Refusal} → r.answer ≡ Err f
      → TurnedOf (limits_of lim) reading result trail calls corners st result trail calls corners (Err f)
  turn_large e = record { is = λ s m. rw (found_refusal m o e) (turned_large m (found_large m o e)) }

  module _ {f : FoundPlan} {p : Plan} (e : r.answer ≡ Ok (Some f)) (i : p ≡ f.plan) where
    pub turn_advancing : Going (limits_of lim) reading result trail calls corners st
        → Advancing (limits_of lim) reading result trail bs calls corners st p
    turn_advancing g = found_planned g.midst o e i

    pub turn_planned : {result' trail' : List ℕ} {calls' corners' : List (List ℕ)} {next : State}
        → AdvancedOf (limits_of lim) reading result trail bs calls corners st p result' trail' calls' corners' (Ok next)
        → TurnedOf (limits_of lim) reading result trail calls corners st result' trail' calls' corners' (Ok (Some next))
    unfolding found_planned
    turn_planned a = record { is = λ s m. a.is (found_planned m o e i) }

    pub turn_refused : {result' trail' : List ℕ} {calls' corners' : List (List ℕ)} {n : Refusal}
        → AdvancedOf (limits_of lim) reading result trail bs calls corners st p result' trail' calls' corners' (Err n)
        → TurnedOf (limits_of lim) reading result trail calls corners st result' trail' calls' corners' (Err n)
    unfolding found_planned
    turn_refused a = record { is = λ s m. a.is (found_planned m o e i) }

pub ruleset turnings = (midst_room, midst_small, midst_known, turn_none, turn_large, turn_planned, turn_refused)
