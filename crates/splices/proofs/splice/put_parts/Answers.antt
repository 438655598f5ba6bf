use Rattle.std.proofs.Common.{rules}
use Rattle.splices.proofs.splice.put_parts.Goals as goal
use Rattle.grammar.specs.Laws.Found.{inner_found}
use Rattle.splices.proofs.Laws.SpliceOne.{parts_spliced}

-- src/splice.rt:85:9
pub put_elements-next-requires-clause-found_elements :
    goal.put_elements-next-requires-clause-found_elements
put_elements-next-requires-clause-found_elements c = search (rules, parts_spliced, inner_found)

-- src/splice.rt:86:9
pub put_options-back-requires-clause-options_fit :
    goal.put_options-back-requires-clause-options_fit
put_options-back-requires-clause-options_fit c = search (rules, parts_spliced)

-- src/splice.rt:66:1
pub returns : goal.returns
returns c = search (rules, parts_spliced)
