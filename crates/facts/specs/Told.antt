-- What callers in other languages are told of a sheet: its facts and cycles as numbers and rows (SPECIFICATION 3.10).
use Rattle.std.specs.Prelude.{ℕ, zero, suc, ◌≡◌, List, [], ◌∷◌, length, get_or, replicate}
use Rattle.grammar.specs.Tree.{Rule, Sheet, body_depth}
use Rattle.grammar.specs.Ids.{rule_ids}
use Rattle.grammar.specs.Reading.{Reading, refused, sheet}
use Rattle.grammar.specs.Corners.{Corners, rust, textbook}
use Rattle.reference.specs.Analysis.{grammar_of, left_corner_cycles}
use Rattle.records.specs.Rules.{row}
use Rattle.records.specs.declared.rules.Rules.{Rules}
use Rattle.analysis.specs.Facts.{FactsOf, Standing}
use Rattle.reach.specs.Rows.{Behind}
use Rattle.reach.specs.Listed.{CycleRows}
use Rattle.analysis.specs.Rounds.{no_rows}
use Rattle.analysis.specs.declared.rounds.Marks.{Marks}

-- The reading of left corners: the original's for 0.
abbrev pub reading_of : ℕ → Corners
reading_of zero = rust
reading_of (suc k) = textbook

-- Four words as two rows.
abbrev pub marks_of : List ℕ → Marks
marks_of ms = record { nullable = get_or ms 0 0 ∷ get_or ms 1 0 ∷ []; stops = get_or ms 2 0 ∷ get_or ms 3 0 ∷ [] }

-- Of rules: their facts, and `count` cycles in the definition's order; zeros behind them.
pub record TellsRules (c : Corners) (rs : List Rule) (m : Marks) (count : ℕ) (calls corners cycles : List (List ℕ)) : Type 0 where
  pub facts : FactsOf c rs (row (rule_ids rs)) calls corners m
  pub calls_behind : Behind (length rs) no_rows calls
  pub corners_behind : Behind (length rs) no_rows corners
  pub cycles_listed : CycleRows (row (rule_ids rs)) (length rs) (left_corner_cycles c (grammar_of body_depth rs) body_depth rs) cycles count
  pub cycles_behind : Behind count no_rows cycles

-- Of the rules that stand in a sheet.
pub record RulesTold (ws : List ℕ) (end : ℕ) (rules : Rules) (c : Corners) (m : Marks) (count : ℕ) (calls corners cycles : List (List ℕ))
    : Type 0 where
  pub is : (s : Standing ws end rules) → TellsRules c s.rows.found.trees m count calls corners cycles

-- Of a sheet: 0, the numbers of rules and of cycles; and the rest.
pub record TellsSheet (c : Corners) (rs : List Rule) (numbers marks : List ℕ) (calls corners cycles : List (List ℕ)) : Type 0 where
  pub count : ℕ
  pub numbers_are : numbers ≡ 0 ∷ length rs ∷ count ∷ []
  pub told : TellsRules c rs (marks_of marks) count calls corners cycles

-- Of a refusal: its number, and zeros.
pub record TellsRefusal (number : ℕ) (numbers marks : List ℕ) (calls corners cycles : List (List ℕ)) : Type 0 where
  pub numbers_are : numbers ≡ number ∷ 0 ∷ 0 ∷ []
  pub marks_none : marks ≡ replicate 4 0
  pub calls_none : calls ≡ no_rows
  pub corners_none : corners ≡ no_rows
  pub cycles_none : cycles ≡ no_rows

-- Of what the reader finds.
pub record Tells (c : Corners) (found : Reading) (numbers marks : List ℕ) (calls corners cycles : List (List ℕ)) : Type 0 where
  pub refusal : (n : ℕ) → found ≡ refused n → TellsRefusal n numbers marks calls corners cycles
  pub sheet : (s : Sheet) → found ≡ sheet s → TellsSheet c s.rules numbers marks calls corners cycles
