use Rattle.std.proofs.Common.{rules}
use Rattle.analysis.proofs.names.Names.put.Goals as goal
use Rattle.analysis.proofs.Laws.Names.{puts}

pub loop-i-init : goal.loop-i-init
loop-i-init c = search (rules, puts)

pub loop-i-preserved : goal.loop-i-preserved
loop-i-preserved c = search (rules, puts)
