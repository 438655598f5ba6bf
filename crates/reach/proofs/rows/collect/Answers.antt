use Rattle.std.proofs.Common.{rules}
use Rattle.reach.proofs.rows.collect.Goals as goal
use Rattle.reach.proofs.Laws.Filled.{collecting}

pub loop-i-init : goal.loop-i-init
loop-i-init g c = search (rules, collecting)
