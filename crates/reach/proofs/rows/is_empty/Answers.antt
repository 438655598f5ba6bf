use Rattle.std.proofs.Common.{rules}
use Rattle.reach.proofs.rows.is_empty.Goals as goal
use Rattle.reach.proofs.Laws.Rows.{zero_row, empty_row}

pub returns : goal.returns
returns c = empty_row (zero_row _ _ (search rules) (search rules))
