use Rattle.std.proofs.Common.{rules}
use Rattle.reach.proofs.reach.closed.Goals as goal
use Rattle.reach.proofs.Laws.Reach.{sofar_none, closing}

pub loop-k-init : goal.loop-k-init
loop-k-init c = sofar_none (search rules)

pub loop-k-preserved : goal.loop-k-preserved
loop-k-preserved c = search (rules, closing)

pub returns : goal.returns
returns c = search (rules, closing)
