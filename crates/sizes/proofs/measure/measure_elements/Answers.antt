use Rattle.std.proofs.Common.{rules}
use Rattle.sizes.proofs.measure.measure_elements.Goals as goal
use Rattle.sizes.proofs.Laws.Elements.{adding}

-- src/measure.rt:58:5
pub loop-i-init : goal.loop-i-init
loop-i-init c = search (rules, adding)

-- src/measure.rt:58:5
pub loop-i-preserved : goal.loop-i-preserved
loop-i-preserved c = search (rules, adding)

-- src/measure.rt:44:1
pub returns : goal.returns
returns c = search (rules, adding)
