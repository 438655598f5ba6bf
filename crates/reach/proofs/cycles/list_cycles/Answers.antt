use Rattle.std.proofs.Common.{rules}
use Rattle.reach.proofs.cycles.list_cycles.Goals as goal
use Rattle.reach.proofs.Laws.Written.{writing}

pub returns-in_default : goal.returns-in_default
returns-in_default c = search (rules, writing)

pub loop-k-preserved : goal.loop-k-preserved
loop-k-preserved c = search (rules, writing)

pub returns : goal.returns
returns c = search (rules, writing)
