use Rattle.std.proofs.Common.{rules}
use Rattle.compose.proofs.last.write_end.Goals as goal
use Rattle.compose.proofs.Laws.Last.{lasts}

-- src/last.rt:40:1
pub returns : goal.returns
returns c = search (rules, lasts)
