use Rattle.std.proofs.Common.{rules}
use Rattle.turns.proofs.state.take_hub.Goals as goal
use Rattle.turns.proofs.Laws.Midway.{taking}

-- src/state.rt:94:9
pub hub_in_hand-x-requires-clause-found_alternative :
    goal.hub_in_hand-x-requires-clause-found_alternative
hub_in_hand-x-requires-clause-found_alternative c = search (rules, taking)

-- src/state.rt:95:9
pub alternative_end-at-requires :
    goal.alternative_end-at-requires
alternative_end-at-requires c = search (rules, taking)

-- src/state.rt:87:1
pub returns : goal.returns
returns c = search (rules, taking)
