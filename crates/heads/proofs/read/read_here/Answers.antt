use Rattle.std.proofs.Common.{rules}
use Rattle.heads.proofs.read.read_here.Goals as goal
use Rattle.heads.proofs.Laws.Read.{reading}

-- src/read.rt:23:17
pub overflow_sub-result : goal.overflow_sub-result
overflow_sub-result c = search (rules, reading)

-- src/read.rt:24:17
pub overflow_sub-result-2 : goal.overflow_sub-result-2
overflow_sub-result-2 c = search (rules, reading)

-- src/read.rt:26:16
pub overflow_add-result : goal.overflow_add-result
overflow_add-result c = search (rules, reading)

-- src/read.rt:12:1
pub returns : goal.returns
returns c = search (rules, reading)
