-- What the crates above rest on: a sheet that was read, and its rules as the reader's arrays have them.
use Rattle.std.specs.Prelude.{ℕ, ◌≤◌, ◌≡◌, List, true, length, replicate}
use Rattle.grammar.specs.Numbers.{work_bytes}
use Rattle.grammar.specs.Tree as tree
use Rattle.grammar.specs.Words.{words}
use Rattle.grammar.specs.Valid.{valid}
use Rattle.grammar.specs.Reading.{sheet}
use Rattle.words.specs.Room.{Room}
use Rattle.records.specs.Rules.{FoundRows}
use Rattle.records.specs.declared.rules.Rules.{Rules}
use Rattle.sheet.specs.Answer.{read_lent, work_after}

pub record WasRead (bs work : List ℕ) (end : ℕ) (rules : Rules) : Type 0 where
  pub tree : tree.Sheet
  pub is : read_lent bs work ≡ sheet tree
  pub good : valid tree ≡ true
  pub room : Room bs end
  pub rows : FoundRows (words bs) end rules
  pub trees : rows.found.trees ≡ (tree).rules
  pub lent : work_bytes ≤ length work
  pub cleared : work_after bs work ≡ replicate (length work) 0
