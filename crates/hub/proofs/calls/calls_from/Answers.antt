use Rattle.std.proofs.Common.{rules}
use Rattle.hub.proofs.calls.calls_from.Goals as goal
use Rattle.hub.proofs.Laws.Calls.{calling}

pub loop-i-init : goal.loop-i-init
loop-i-init c = search (rules, calling)

pub loop-i-preserved : goal.loop-i-preserved
loop-i-preserved c = search (rules, calling)
