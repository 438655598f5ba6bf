use Rattle.std.proofs.Common.{rules}
use Rattle.reach.proofs.rows.one.Goals as goal
use Rattle.reach.proofs.Laws.Rows.{one_low, one_high}

-- src/rows.rt:35:9
pub returns-then-j-lt-BITS : goal.returns-then-j-lt-BITS
returns-then-j-lt-BITS c = search (rules, one_low)

-- src/rows.rt:30:1
pub returns : goal.returns
returns c = search (rules, one_high)
