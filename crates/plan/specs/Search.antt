-- The search for the first cycle with a plan, against the definition (SPECIFICATION 5).
use Rattle.std.specs.Prelude.{ℕ, ◌<◌, ◌≤◌, ◌≡◌, List, [], length, get_or}
use Rattle.std.specs.Prelude.{Option, Some, None, Result, Ok, Err}
use Rattle.grammar.specs.Tree.{body_depth, inner_depth}
use Rattle.grammar.specs.Corners.{Corners}
use Rattle.reference.specs.Analysis.{left_corner_cycles}
use Rattle.reference.specs.Substitute.{Decided, overfull}
use Rattle.reference.specs.Plan.{CyclePlan, plan_cycle}
use Rattle.reference.specs.Run.{no_plan, planned, too_large, search_cycles, find_plan}
use Rattle.reference.specs.Run as R
use Rattle.records.specs.declared.rules.Rules.{Rules}
use Rattle.reach.specs.Rows.{RowOf}
use Rattle.reach.specs.Listed.{AllLeft}
use Rattle.analysis.specs.declared.rounds.Marks.{Marks}
use Rattle.hub.specs.Grounds.{Known, rules_of, grammar_at, IsCycle}
use Rattle.turns.specs.Midway.{limits_of}
use Rattle.steps.specs.Decide.{DeclinedByNumber}
use Rattle.turns.specs.declared.limits.Limits.{Limits}
use Rattle.plan.specs.declared.search.FoundPlan.{FoundPlan}
use Rattle.words.specs.declared.numbers.Refusal.{Refusal}
use Rattle.words.specs.declared.numbers.Refusal.TheVariants.{PlanTooLarge}
use Rattle.plan.specs.declared.search.Found.{Found}
use Rattle.plan.specs.Decision.{PlanAs}

-- The search ends with an answer.
pub record Ended (answer : Result (Option FoundPlan) Refusal) (declined : ℕ) (clauses : List ℕ) (r : Found) : Type 0 where
  pub is : r.answer ≡ answer
  pub count : r.declined ≡ declined
  pub list : r.clauses ≡ clauses

-- Rules that stand in a sheet, of which all is known by a reading of left corners, and the preserved ones as a row.
pub record RulesKnown (ws : List ℕ) (end : ℕ) (rules : Rules) (reading : Corners) (calls corners : List (List ℕ)) (marks : Marks)
    (kept : List ℕ) : Type 0 where
  pub known : Known ws end rules reading calls corners marks
  pub preserved : List ℕ
  pub keeps : RowOf rules.ids rules.n preserved kept

module _ {ws : List ℕ} {end : ℕ} {rules : Rules} {reading : Corners} {calls corners : List (List ℕ)} {marks : Marks} {kept : List ℕ}
    (x : RulesKnown ws end rules reading calls corners marks kept) where
  -- The definition's cycles.
  abbrev pub cycles_of : List (List ℕ)
  cycles_of =
      left_corner_cycles reading (grammar_at ws end rules x.known.standing) body_depth (rules_of ws end rules x.known.standing)

  module _ (limits : Limits) where
    -- The definition's decision for a cycle, the search through several, and the whole of it.
    abbrev pub decision_on : List ℕ → Decided (CyclePlan inner_depth)
    decision_on =
        plan_cycle (limits_of limits) reading (grammar_at ws end rules x.known.standing) inner_depth
        (rules_of ws end rules x.known.standing) x.preserved

    abbrev pub search_through : List (List ℕ) → R.Search
    search_through =
        search_cycles (limits_of limits) reading x.preserved (grammar_at ws end rules x.known.standing)
        (rules_of ws end rules x.known.standing)

    abbrev pub whole_search : R.Search
    whole_search = find_plan (limits_of limits) reading x.preserved (rules_of ws end rules x.known.standing)

    -- No cycle is left, and none has a plan.
    pub record NothingLeft (place : ℕ) : Type 0 where
      pub all : place ≡ length cycles_of
      pub is : whole_search ≡ no_plan

    -- The cycle at a place passes a limit, which is refusal 7.
    pub record FullAt (place : ℕ) (e : Refusal) : Type 0 where
      pub low : place < length cycles_of
      pub over : decision_on (get_or cycles_of place []) ≡ overfull
      pub is : whole_search ≡ too_large
      pub refusal : e ≡ PlanTooLarge

    module _ (bs : List ℕ) where
      -- The cycle at a place, with its plan.
      pub record PlannedAt (place : ℕ) (p : FoundPlan) : Type 0 where
        pub plan : CyclePlan inner_depth
        pub low : place < length cycles_of
        pub is : whole_search ≡ planned (get_or cycles_of place []) plan
        pub is_cycle : IsCycle ws end rules x.known.standing (get_or cycles_of place []) p.members
        pub same : PlanAs ws end rules.ids rules.n bs plan p.plan

      abbrev pub AnswerIs : ℕ → Result (Option FoundPlan) Refusal → Type 0
      AnswerIs place (Ok None) = NothingLeft place
      AnswerIs place (Ok (Some p)) = PlannedAt place p
      AnswerIs place (Err e) = FullAt place e

      -- The answer is the definition's; the cycles in front of it were declined by their clauses, with zeros behind them.
      pub record FoundAs (r : Found) : Type 0 where
        pub answer : AnswerIs r.declined r.answer
        pub declines : (k : ℕ) → k < r.declined → DeclinedByNumber (decision_on (get_or cycles_of k [])) (get_or r.clauses k 0)
        pub behind : (k : ℕ) → r.declined ≤ k → get_or r.clauses k 0 ≡ 0
        pub few : r.declined ≤ rules.n

-- So it is for all that is known.
pub record FoundOf (ws : List ℕ) (end : ℕ) (rules : Rules) (reading : Corners) (calls corners : List (List ℕ)) (marks : Marks)
    (kept : List ℕ) (limits : Limits) (bs : List ℕ) (r : Found) : Type 0 where
  pub is : (x : RulesKnown ws end rules reading calls corners marks kept) → FoundAs x limits bs r

module _ (ws : List ℕ) (end : ℕ) (rules : Rules) (reading : Corners) (calls : List (List ℕ)) (marks : Marks) (kept : List ℕ) where
  -- With rows by which the rules that are on a cycle reach each other.
  pub record JoinedKnown (closed : List (List ℕ)) : Type 0 where
    pub corners : List (List ℕ)
    pub known : RulesKnown ws end rules reading calls corners marks kept
    pub joined : AllLeft corners rules.n closed

  pub record TriedOf (closed : List (List ℕ)) (limits : Limits) (bs : List ℕ) (r : Found) : Type 0 where
    pub is : (x : JoinedKnown closed) → FoundAs x.known limits bs r
