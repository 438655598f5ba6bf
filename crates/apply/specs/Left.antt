-- How many words the rules that stay take.
use Rattle.std.specs.Prelude.{ℕ, ◌≡◌, List, length}
use Rattle.grammar.specs.Encode.{encode_rules}
use Rattle.records.specs.declared.rules.Rules.{Rules}
use Rattle.analysis.specs.Facts.{Standing}
use Rattle.drafts.specs.Kept.{kept_of}

-- Those from one place up to another that are not in the row.
pub record LeftTake (ws : List ℕ) (end : ℕ) (rules : Rules) (row : List ℕ) (from until n : ℕ) : Type 0 where
  pub is : (s : Standing ws end rules) → n ≡ length (encode_rules (kept_of row from until s.rows.found.trees))
