-- One turn of the loop over plans (SPECIFICATION 5.2): one plan more, or the run is over.
use Rattle.std.specs.Prelude.{ℕ, suc, ◌+◌, ◌<◌, ◌≤◌, ◌^◌, ◌≡◌, List, length}
use Rattle.std.specs.Prelude.{Option, Some, None, Result, Ok, Err, IfOk, MatchResult}
use Rattle.grammar.specs.Numbers.{trailer_words}
use Rattle.grammar.specs.Tree.{Sheet, inner_depth}
use Rattle.grammar.specs.Words.{words}
use Rattle.grammar.specs.Corners.{Corners}
use Rattle.reference.specs.Substitute as R
use Rattle.reference.specs.Plan.{CyclePlan}
use Rattle.reference.specs.Run.{planned, find_plan, eliminate_mutual_left_recursion, answer_run}
use Rattle.writing.specs.declared.counters.Counters.{Counters}
use Rattle.records.specs.declared.rules.Rules.{Rules}
use Rattle.turns.specs.declared.limits.Limits.{Limits}
use Rattle.plan.specs.declared.ground.Ground.{Ground}
use Rattle.plan.specs.declared.plan.Plan.{Plan}
use Rattle.plan.specs.Decision.{PlanAs}
use Rattle.apply.specs.declared.apply.Applied.{Applied}
use Rattle.renew.specs.Renewed.{RenewedOf}
use Rattle.renew.specs.declared.renew.Renewed.{Renewed}
use Rattle.words.specs.declared.numbers.Refusal.{Refusal}
use Rattle.run.specs.declared.state.State.{State}
use Rattle.run.specs.declared.state.Ended.{Ended}
use Rattle.run.specs.Ended.{Short, AnswerIs}
use Rattle.run.specs.Midst.{Begun, Midst}

-- The least budget is so small that the steps of a run fit 32 bits.
pub record Small (limits : Limits) : Type 0 where
  pub floor : limits.floor ≤ 2 ^ 24

-- Where a run is over: what the state has.
abbrev pub ended_with : State → Ended
ended_with st = record { plans = st.plans; steps = st.steps; words = st.at.to + trailer_words; entries = st.at.entries }

-- The state behind a plan that was applied.
abbrev pub behind_plan : (st : State) (a : Applied) (p : Plan) (ground : Ground) → State
behind_plan st a p ground =
    record {
      at = a;
      ground = ground;
      plans = st.plans + 1;
      steps = st.steps + p.steps;
    }

-- The run is over, with the definition's answer.
pub record Over (limits : R.Limits) (reading : Corners) (s : Sheet) (result trail : List ℕ) (r : Result Ended Refusal) : Type 0 where
  pub short : IfOk r Short
  pub is : AnswerIs result trail r (answer_run s (eliminate_mutual_left_recursion limits reading s))

module _ (limits : R.Limits) (reading : Corners) (s : Sheet) (result trail : List ℕ) (calls corners : List (List ℕ)) where
  -- One plan more, and it is not the last rule's: so many plans there may be.
  pub record OneMore (before next : State) : Type 0 where
    pub short : Short (ended_with next)
    pub midst : Midst limits reading s result trail calls corners next
    pub counted : next.plans ≡ suc before.plans
    pub few : before.plans < length s.rules

  abbrev pub TurnedTo : State → Result (Option State) Refusal → Type 0
  TurnedTo before (Ok (Some next)) = OneMore before next
  TurnedTo before (Ok None) = Over limits reading s result trail (Ok (ended_with before))
  TurnedTo before (Err e) = Over limits reading s result trail (Err e)

-- So it is for every sheet handed in.
pub record TurnedOf (limits : R.Limits) (reading : Corners) (result trail : List ℕ) (calls corners : List (List ℕ)) (before : State)
    (result' trail' : List ℕ) (calls' corners' : List (List ℕ)) (r : Result (Option State) Refusal) : Type 0 where
  pub is : (s : Sheet) → Midst limits reading s result trail calls corners before
      → TurnedTo limits reading s result' trail' calls' corners' before r

-- What is known after a plan that was applied.
pub record UpToDate (ws : List ℕ) (reading : Corners) (calls corners : List (List ℕ)) (st : State) (a : Applied) (p : Plan)
    (calls' corners' : List (List ℕ)) (r : State) : Type 0 where
  pub renewed : Renewed
  pub renews : RenewedOf ws a.end a.rules st.at.rules.n p.hub p.removable reading calls corners st.ground.marks st.ground.kept
      calls' corners' renewed
  pub is : r ≡ behind_plan st a p renewed.ground

module _ (limits : R.Limits) (reading : Corners) (result trail work : List ℕ) (calls corners : List (List ℕ)) (st : State) (p : Plan) where
  -- A run on its way, and the plan that was found.
  pub record Advancing : Type 0 where
    pub sheet : Sheet
    pub midst : Midst limits reading sheet result trail calls corners st
    pub cycle : List ℕ
    pub plan : CyclePlan inner_depth
    pub found : find_plan limits reading sheet.preserved midst.now.rules ≡ planned cycle plan
    pub same : PlanAs (words result) st.at.end st.at.rules.ids st.at.rules.n work plan p

  pub record AdvancedOf (result' trail' : List ℕ) (calls' corners' : List (List ℕ)) (r : Result State Refusal) : Type 0 where
    pub is : (x : Advancing) → MatchResult r (OneMore limits reading x.sheet result' trail' calls' corners' st)
        (λ e. Over limits reading x.sheet result' trail' (Err e))

-- The whole run of a unit: for the sheet that stands in the result, the definition's answer.
pub record RunOf (limits : R.Limits) (reading : Corners) (result : List ℕ) (end to : ℕ) (rules : Rules) (counters : Counters)
    (result' trail' : List ℕ) (r : Result Ended Refusal) : Type 0 where
  pub short : IfOk r Short
  pub is : (x : Begun result end to rules counters)
      → AnswerIs result' trail' r (answer_run x.sheet (eliminate_mutual_left_recursion limits reading x.sheet))

-- On its way from there, with n rules at the start.
pub record Onward (limits : R.Limits) (reading : Corners) (result₀ : List ℕ) (end to : ℕ) (rules : Rules) (counters : Counters)
    (result trail : List ℕ) (calls corners : List (List ℕ)) (st : State) : Type 0 where
  pub is : (x : Begun result₀ end to rules counters) → Midst limits reading x.sheet result trail calls corners st
