use Rattle.std.proofs.Common.{rules}
use Rattle.sizes.proofs.measure.measure.Goals as goal
use Rattle.sizes.proofs.Laws.Settled.{measuring}

-- src/measure.rt:111:5
pub loop-init : goal.loop-init
loop-init c = search (rules, measuring)

-- src/measure.rt:115:13
pub add-m-requires : goal.add-m-requires
add-m-requires c = search (rules, measuring)

-- src/measure.rt:111:5
pub loop-preserved : goal.loop-preserved
loop-preserved c = search (rules, measuring)

-- src/measure.rt:97:1
pub returns : goal.returns
returns c = search (rules, measuring)
