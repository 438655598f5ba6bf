use Rattle.std.proofs.Common.{rules}
use Rattle.splices.proofs.places.put_places.Goals as goal
use Rattle.splices.proofs.Laws.Places.{placing}

-- src/places.rt:34:9
pub element_end-p-requires : goal.element_end-p-requires
element_end-p-requires c = search (rules, placing)

-- src/places.rt:32:5
pub loop-i-preserved : goal.loop-i-preserved
loop-i-preserved c = search (rules, placing)

-- src/places.rt:15:1
pub returns : goal.returns
returns c = search (rules, placing)
