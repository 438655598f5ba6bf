use Rattle.std.proofs.Common.{rules}
use Rattle.splices.proofs.bring.hub_in_hand.Goals as goal
use Rattle.grammar.specs.Laws.Found.{inner_found}
use Rattle.splices.proofs.Laws.Bring.{brought}

-- src/bring.rt:22:13
pub put_places-requires-clause-found_elements : goal.put_places-requires-clause-found_elements
put_places-requires-clause-found_elements c = search (rules, inner_found)

-- src/bring.rt:13:1
pub returns : goal.returns
returns c = search (rules, brought)
