use Rattle.std.proofs.Common.{rules}
use Rattle.sizes.proofs.tally.with_own.Goals as goal
use Rattle.sizes.proofs.Laws.Counting.{owns}

-- src/tally.rt:37:1
pub returns : goal.returns
returns c = search (rules, owns)
