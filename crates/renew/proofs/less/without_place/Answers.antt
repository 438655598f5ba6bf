use Rattle.std.proofs.Common.{rules}
use Rattle.renew.proofs.less.without_place.Goals as goal
use Rattle.renew.proofs.Laws.Words.{lesses}
use Rattle.renew.proofs.Laws.Less.{less_row}

pub returns-then-k-lt-BITS : goal.returns-then-k-lt-BITS
returns-then-k-lt-BITS c = less_row (search (rules, lesses))

pub returns : goal.returns
returns c = less_row (search (rules, lesses))
