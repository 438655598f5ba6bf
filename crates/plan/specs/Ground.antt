-- What the decisions rest on: the preserved ids behind the rules.
use Rattle.std.specs.Prelude.{ℕ, ◌*◌, ◌≤◌, ◌≡◌, List, true, length}
use Rattle.grammar.specs.Words.{words}
use Rattle.grammar.specs.Lists.{rising}
use Rattle.records.specs.declared.rules.Rules.{Rules}
use Rattle.reach.specs.Rows.{RowOf}
use Rattle.hub.specs.Preserved.{between}

-- Ids that rise stand from a place up to a place of a sheet's words.
pub record KeptAt (bs : List ℕ) (from to : ℕ) : Type 0 where
  pub order : from ≤ to
  pub inside : 4 * to ≤ length bs
  pub rises : rising (between (words bs) from to) ≡ true

-- The row of the rules that have preserved ids.
pub record KeptOf (preserved : List ℕ) (rules : Rules) (r : List ℕ) : Type 0 where
  pub row : RowOf rules.ids rules.n preserved r
