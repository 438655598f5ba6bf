use Rattle.std.proofs.Common.{rules}
use Rattle.planned.proofs.read.read_settled.Goals as goal
use Rattle.planned.proofs.Laws.Reading.{reading}

-- src/read.rt:55:9
pub record_at-x-requires : goal.record_at-x-requires
record_at-x-requires c = search (rules, reading)

-- src/read.rt:51:1
pub returns : goal.returns
returns c = search (rules, reading)
