-- What callers in other languages are told of the plans of a sheet.
use Rattle.std.specs.Prelude.{ℕ, ◌≡◌, List, ◌∷◌, length, get_or, replicate}
use Rattle.grammar.specs.Tree.{Sheet}
use Rattle.grammar.specs.Ids.{rule_ids}
use Rattle.grammar.specs.Words.{words}
use Rattle.grammar.specs.Encode.{encode_rules}
use Rattle.grammar.specs.Reading.{Reading, refused, sheet}
use Rattle.grammar.specs.Corners.{Corners}
use Rattle.records.specs.Rules.{row}
use Rattle.plans.specs.Nth.{NthAs, nth_numbers, nth_row}
use Rattle.plans.specs.declared.nth.Nth.{Nth}
use Rattle.plans.specs.First.{FirstAs, search_numbers, search_cycle, search_row}
use Rattle.plan.specs.declared.search.Found.{Found}
use Rattle.reference.specs.Substitute.{standard}
use Rattle.grammar.specs.Numbers.{rule_limit}

-- Of a refusal: its number, and zeros; the work area is as the reader leaves it.
pub record RefusalTold (number : ℕ) (left after numbers removable : List ℕ) : Type 0 where
  pub numbers_are : numbers ≡ number ∷ replicate 7 0
  pub none : removable ≡ replicate 2 0
  pub work : after ≡ left

-- Without a plan the work area is zeros.
pub record Cleared (after numbers : List ℕ) : Type 0 where
  pub is : (get_or numbers 2 0 ≡ 0 → ⊥) → after ≡ replicate (length after) 0

-- Of a sheet: the decision for the nth cycle.
pub record NthToldOf (c : Corners) (nth : ℕ) (bs : List ℕ) (s : Sheet) (after numbers removable : List ℕ) : Type 0 where
  pub answer : Nth
  pub numbers_are : numbers ≡ nth_numbers answer
  pub removable_is : removable ≡ nth_row answer
  pub cleared : Cleared after numbers
  pub is : NthAs (words bs) (length (encode_rules s.rules)) (row (rule_ids s.rules)) (length s.rules) after c s.rules
      s.preserved nth answer

-- Of what the reader finds.
pub record NthTold (c : Corners) (nth : ℕ) (bs : List ℕ) (found : Reading) (left after numbers removable : List ℕ) : Type 0 where
  pub refusal : (n : ℕ) → found ≡ refused n → RefusalTold n left after numbers removable
  pub sheet : (s : Sheet) → found ≡ sheet s → NthToldOf c nth bs s after numbers removable

-- The same of the search for the first plan.
pub record FirstRefusal (number : ℕ) (left after numbers cycle removable clauses : List ℕ) : Type 0 where
  pub refusal : RefusalTold number left after numbers removable
  pub no_cycle : cycle ≡ replicate 2 0
  pub no_clauses : clauses ≡ replicate rule_limit 0

pub record FirstToldOf (c : Corners) (bs : List ℕ) (s : Sheet) (after numbers cycle removable clauses : List ℕ) : Type 0 where
  pub found : Found
  pub numbers_are : numbers ≡ search_numbers found.declined found.answer
  pub cycle_is : cycle ≡ search_cycle found.answer
  pub removable_is : removable ≡ search_row found.answer
  pub clauses_are : clauses ≡ found.clauses
  pub cleared : Cleared after numbers
  pub is : FirstAs standard (words bs) (length (encode_rules s.rules)) (row (rule_ids s.rules)) (length s.rules) after c s.rules
      s.preserved found

pub record FirstTold (c : Corners) (bs : List ℕ) (found : Reading) (left after numbers cycle removable clauses : List ℕ) : Type 0 where
  pub refusal : (n : ℕ) → found ≡ refused n → FirstRefusal n left after numbers cycle removable clauses
  pub sheet : (s : Sheet) → found ≡ sheet s → FirstToldOf c bs s after numbers cycle removable clauses
