use Rattle.std.proofs.Common.{rules}
use Rattle.planned.proofs.list.is_drained.Goals as goal
use Rattle.planned.proofs.Laws.Reading.{tops}

-- src/list.rt:91:1
pub returns : goal.returns
returns c = search (rules, tops)
