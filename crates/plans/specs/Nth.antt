-- The decision for the nth cycle against the definition (SPECIFICATION 5 to 10), and its numbers.
use Rattle.std.specs.Prelude.{ℕ, ◌<◌, ◌≤◌, ◌-◌, min, ◌≡◌, List, [], ◌∷◌, length, get_or, replicate}
use Rattle.std.specs.Prelude.{Option, Some, None, Result, Ok, Err}
use Rattle.grammar.specs.Numbers.{word_end}
use Rattle.grammar.specs.Tree.{Rule, body_depth, inner_depth}
use Rattle.grammar.specs.Corners.{Corners}
use Rattle.reference.specs.Analysis.{grammar_of, left_corner_cycles}
use Rattle.reference.specs.Substitute.{standard, clause_number}
use Rattle.reference.specs.Plan.{plan_cycle}
use Rattle.records.specs.declared.rules.Rules.{Rules}
use Rattle.analysis.specs.Facts.{Standing}
use Rattle.steps.specs.Decide.{clause_of}
use Rattle.steps.specs.declared.decide.Clause.{Clause}
use Rattle.turns.specs.declared.turn.Unplanned.{Unplanned}
use Rattle.turns.specs.declared.turn.Unplanned.TheVariants.{Declined, Overfull}
use Rattle.plan.specs.declared.plan.Plan.{Plan}
use Rattle.plan.specs.Decision.{DecidedAs}
use Rattle.plans.specs.declared.nth.Nth.{Nth}
use Rattle.plans.specs.declared.told.Ending.{Ending}
use Rattle.plans.specs.declared.told.Ending.TheVariants as E

-- The definition's cycles of rules, by least id.
abbrev pub cycles_of : Corners → List Rule → List (List ℕ)
cycles_of c rs = left_corner_cycles c (grammar_of body_depth rs) body_depth rs

module _ (ws : List ℕ) (end : ℕ) (ids : List ℕ) (n : ℕ) (bs : List ℕ) (c : Corners) (rs : List Rule) (preserved : List ℕ) (nth : ℕ) where
  -- There is an nth cycle, and this is the definition's decision for it; the list of a plan stands in the work area.
  pub record NthDecided (d : Result Plan Unplanned) : Type 0 where
    pub low : nth < length (cycles_of c rs)
    pub is : DecidedAs ws end ids n bs
        (plan_cycle standard c (grammar_of body_depth rs) inner_depth rs preserved (get_or (cycles_of c rs) nth [])) d

  abbrev pub ChoiceAs : Option (Result Plan Unplanned) → Type 0
  ChoiceAs None = length (cycles_of c rs) ≤ nth
  ChoiceAs (Some d) = NthDecided d

  pub record NthAs (r : Nth) : Type 0 where
    pub cycles : r.cycles ≡ length (cycles_of c rs)
    pub choice : ChoiceAs r.choice

-- So it is for rules that stand in a sheet, and preserved ids.
pub record NthOf (ws : List ℕ) (end : ℕ) (preserved : List ℕ) (rules : Rules) (reading : Corners) (nth : ℕ) (bs : List ℕ) (r : Nth)
    : Type 0 where
  pub is : (s : Standing ws end rules)
      → NthAs ws end rules.ids rules.n bs reading s.rows.found.trees preserved nth r

-- A number as one of 32 bits; a larger one is told as the largest.
abbrev pub capped : ℕ → ℕ
capped n = min n (word_end - 1)

-- The number that tells how a decision ends.
abbrev pub ending_number : Ending → ℕ
ending_number E.Planned = 0
ending_number E.Declined = 1
ending_number E.TooLarge = 2
ending_number E.NoCycle = 3

-- The number of the clause by which a cycle is declined, 0 where it is not.
abbrev pub told_clause : Option Clause → ℕ
told_clause None = 0
told_clause (Some c) = clause_number (clause_of c)

-- In numbers: no refusal, so many cycles, how the decision ends; of a plan the hub's place, steps and alternatives, of a decline
-- its clause.
abbrev pub decision_numbers : ℕ → Result Plan Unplanned → List ℕ
decision_numbers k (Ok p) = 0 ∷ k ∷ ending_number E.Planned ∷ capped p.hub ∷ 0 ∷ capped p.steps ∷ capped p.l.out.a ∷ 0 ∷ []
decision_numbers k (Err (Declined c)) = 0 ∷ k ∷ ending_number E.Declined ∷ 0 ∷ clause_number (clause_of c) ∷ 0 ∷ 0 ∷ 0 ∷ []
decision_numbers k (Err Overfull) = 0 ∷ k ∷ ending_number E.TooLarge ∷ 0 ∷ 0 ∷ 0 ∷ 0 ∷ 0 ∷ []

-- The rules that may go.
abbrev pub decision_row : Result Plan Unplanned → List ℕ
decision_row (Ok p) = p.removable
decision_row (Err e) = 0 ∷ 0 ∷ []

abbrev pub choice_numbers : ℕ → Option (Result Plan Unplanned) → List ℕ
choice_numbers k None = 0 ∷ k ∷ ending_number E.NoCycle ∷ 0 ∷ 0 ∷ 0 ∷ 0 ∷ 0 ∷ []
choice_numbers k (Some d) = decision_numbers k d

abbrev pub choice_row : Option (Result Plan Unplanned) → List ℕ
choice_row None = 0 ∷ 0 ∷ []
choice_row (Some d) = decision_row d

abbrev pub nth_numbers : Nth → List ℕ
nth_numbers r = choice_numbers r.cycles r.choice

abbrev pub nth_row : Nth → List ℕ
nth_row r = choice_row r.choice

-- What is left in the work area, by what was decided: the list of a plan; else zeros.
abbrev pub left_by : Option (Result Plan Unplanned) → List ℕ → List ℕ
left_by (Some (Ok p)) list = list
left_by (Some (Err e)) list = replicate (length list) 0
left_by None list = replicate (length list) 0
