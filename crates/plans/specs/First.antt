-- The search for the first plan of rules against the definition (SPECIFICATION 5), and its numbers.
use Rattle.std.specs.Prelude.{ℕ, ◌<◌, ◌≤◌, ◌≡◌, List, [], ◌∷◌, length, get_or}
use Rattle.std.specs.Prelude.{Option, Some, None, Result, Ok, Err}
use Rattle.grammar.specs.Tree.{Rule, body_depth, inner_depth}
use Rattle.grammar.specs.Corners.{Corners}
use Rattle.reference.specs.Analysis.{grammar_of}
use Rattle.reference.specs.Substitute.{Limits, standard, Decided, overfull}
use Rattle.reference.specs.Plan.{CyclePlan, plan_cycle}
use Rattle.reference.specs.Run as R
use Rattle.reference.specs.Run.{find_plan, no_plan, planned, too_large}
use Rattle.records.specs.declared.rules.Rules.{Rules}
use Rattle.reach.specs.Rows.{RowOf}
use Rattle.analysis.specs.Facts.{Standing}
use Rattle.steps.specs.Decide.{DeclinedByNumber}
use Rattle.turns.specs.declared.turn.Unplanned.{Unplanned}
use Rattle.turns.specs.declared.turn.Unplanned.TheVariants.{Overfull}
use Rattle.plan.specs.declared.plan.Plan.{Plan}
use Rattle.plan.specs.declared.search.FoundPlan.{FoundPlan}
use Rattle.words.specs.declared.numbers.Refusal.{Refusal}
use Rattle.words.specs.declared.numbers.Refusal.TheVariants.{PlanTooLarge}
use Rattle.plan.specs.declared.search.Found.{Found}
use Rattle.plan.specs.Decision.{PlanAs}
use Rattle.plans.specs.Nth.{cycles_of, choice_numbers, choice_row}

module _ (limits : Limits) (ws : List ℕ) (end : ℕ) (ids : List ℕ) (n : ℕ) (bs : List ℕ) (c : Corners) (rs : List Rule)
    (preserved : List ℕ) where
  -- The definition's decision for the cycle at a place, and its search.
  abbrev pub decision_at : ℕ → Decided (CyclePlan inner_depth)
  decision_at k = plan_cycle limits c (grammar_of body_depth rs) inner_depth rs preserved (get_or (cycles_of c rs) k [])

  abbrev pub searched : R.Search
  searched = find_plan limits c preserved rs

  -- No cycle is left, and none has a plan.
  pub record NoneFirst (place : ℕ) : Type 0 where
    pub all : place ≡ length (cycles_of c rs)
    pub is : searched ≡ no_plan

  -- The cycle at a place passes a limit, which is refusal 7.
  pub record FullFirst (place : ℕ) (e : Refusal) : Type 0 where
    pub low : place < length (cycles_of c rs)
    pub over : decision_at place ≡ overfull
    pub is : searched ≡ too_large
    pub refusal : e ≡ PlanTooLarge

  -- The cycle at a place, its members as a row, and its plan; the plan's list stands in the work area.
  pub record PlannedFirst (place : ℕ) (p : FoundPlan) : Type 0 where
    pub plan : CyclePlan inner_depth
    pub low : place < length (cycles_of c rs)
    pub is : searched ≡ planned (get_or (cycles_of c rs) place []) plan
    pub members : RowOf ids n (get_or (cycles_of c rs) place []) p.members
    pub same : PlanAs ws end ids n bs plan p.plan

  abbrev pub SearchAs : ℕ → Result (Option FoundPlan) Refusal → Type 0
  SearchAs place (Ok None) = NoneFirst place
  SearchAs place (Ok (Some p)) = PlannedFirst place p
  SearchAs place (Err e) = FullFirst place e

  -- The cycles in front of the answer's were declined by their clauses, with zeros behind them.
  pub record FirstAs (r : Found) : Type 0 where
    pub answer : SearchAs r.declined r.answer
    pub declines : (k : ℕ) → k < r.declined → DeclinedByNumber (decision_at k) (get_or r.clauses k 0)
    pub behind : (k : ℕ) → r.declined ≤ k → get_or r.clauses k 0 ≡ 0

-- So it is for rules that stand in a sheet, and preserved ids.
pub record FirstOf (ws : List ℕ) (end : ℕ) (preserved : List ℕ) (rules : Rules) (reading : Corners) (bs : List ℕ) (r : Found) : Type 0 where
  pub is : (s : Standing ws end rules)
      → FirstAs standard ws end rules.ids rules.n bs reading s.rows.found.trees preserved r

-- What a search comes to, as a choice among the cycles: the decision for the last one that was tried; none where each was declined.
abbrev pub choice_in : Result (Option FoundPlan) Refusal → Option (Result Plan Unplanned)
choice_in (Ok None) = None
choice_in (Ok (Some p)) = Some (Ok p.plan)
choice_in (Err e) = Some (Err Overfull)

-- In the numbers of that choice, with how many cycles were declined in the place of how many there are.
abbrev pub search_numbers : ℕ → Result (Option FoundPlan) Refusal → List ℕ
search_numbers k r = choice_numbers k (choice_in r)

-- The members of the cycle, and the rules that may go.
abbrev pub search_cycle : Result (Option FoundPlan) Refusal → List ℕ
search_cycle (Ok None) = 0 ∷ 0 ∷ []
search_cycle (Ok (Some p)) = p.members
search_cycle (Err e) = 0 ∷ 0 ∷ []

abbrev pub search_row : Result (Option FoundPlan) Refusal → List ℕ
search_row r = choice_row (choice_in r)
