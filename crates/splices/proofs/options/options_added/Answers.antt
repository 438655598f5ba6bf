use Rattle.std.proofs.Common.{rules}
use Rattle.splices.proofs.options.options_added.Goals as goal
use Rattle.grammar.specs.Laws.Found.{rooms}
use Rattle.splices.proofs.Laws.OptionsAdded.{adding}

-- src/options.rt:124:9
pub option_count-n-requires-clause-bounds : goal.option_count-n-requires-clause-bounds
option_count-n-requires-clause-bounds c = search (rules, adding, rooms)

-- src/options.rt:127:5
pub loop-j-init : goal.loop-j-init
loop-j-init c = search (rules, adding, rooms)

-- src/options.rt:134:17
pub returns-in-Other : goal.returns-in-Other
returns-in-Other c = search (rules, adding, rooms)

-- src/options.rt:127:5
pub loop-j-preserved : goal.loop-j-preserved
loop-j-preserved c = search (rules, adding, rooms)

-- src/options.rt:118:1
pub returns : goal.returns
returns c = search (rules, adding, rooms)
