use Rattle.std.proofs.Common.{rules}
use Rattle.splices.proofs.options.put_options.Goals as goal
use Rattle.splices.proofs.Laws.OptionsPut.{copying_first}

-- src/options.rt:213:5
pub put_new_options-requires-clause-bounds : goal.put_new_options-requires-clause-bounds
put_new_options-requires-clause-bounds c = search (rules, copying_first)

-- src/options.rt:213:5
pub put_new_options-requires-clause-options_fit : goal.put_new_options-requires-clause-options_fit
put_new_options-requires-clause-options_fit c = search (rules, copying_first)

-- src/options.rt:197:1
pub returns : goal.returns
returns c = search (rules, copying_first)
