use Rattle.std.proofs.Common.{rules}
use Rattle.splices.proofs.options.put_new_options.Goals as goal
use Rattle.grammar.specs.Laws.Found.{rooms}
use Rattle.splices.proofs.Laws.OptionsPut.{putting}

-- src/options.rt:186:9
pub option_count-n-requires-clause-bounds : goal.option_count-n-requires-clause-bounds
option_count-n-requires-clause-bounds c = search (rules, rooms, putting)

-- src/options.rt:189:5
pub loop-j-init : goal.loop-j-init
loop-j-init c = search (rules, rooms, putting)

-- src/options.rt:189:5
pub loop-j-preserved : goal.loop-j-preserved
loop-j-preserved c = search (rules, rooms, putting)

-- src/options.rt:171:1
pub returns : goal.returns
returns c = search (rules, rooms, putting)
