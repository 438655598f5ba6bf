use Rattle.std.proofs.Common.{rules}
use Rattle.reach.proofs.rows.has.Goals as goal
use Rattle.reach.proofs.Laws.Rows.{has_low, has_high}

-- src/rows.rt:24:9
pub returns-then-j-lt-BITS : goal.returns-then-j-lt-BITS
returns-then-j-lt-BITS c = search (rules, has_low)

-- src/rows.rt:19:1
pub returns : goal.returns
returns c = search (rules, has_high)
