use Rattle.std.proofs.Common.{rules}
use Rattle.planned.proofs.list.take_top.Goals as goal
use Rattle.planned.proofs.Laws.Reading.{tops}

-- src/list.rt:101:9
pub record_at-x-requires : goal.record_at-x-requires
record_at-x-requires c = search (rules, tops)

-- src/list.rt:97:1
pub returns : goal.returns
returns c = search (rules, tops)
