use Rattle.std.proofs.Common.{rules}
use Rattle.planned.proofs.list.Sizes.empty.Goals as goal
use Rattle.planned.proofs.Laws.Reading.{tops}

-- src/list.rt:33:5
pub returns : goal.returns
returns c = search (rules, tops)
