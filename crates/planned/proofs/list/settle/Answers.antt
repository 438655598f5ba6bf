use Rattle.std.proofs.Common.{rules}
use Rattle.planned.proofs.list.settle.Goals as goal
use Rattle.planned.proofs.Laws.Settling.{settling}

-- src/list.rt:116:1
pub returns : goal.returns
returns c = search (rules, settling)
