use Rattle.std.proofs.Common.{rules}
use Rattle.hub.proofs.corner.any_settled.Goals as goal
use Rattle.hub.proofs.Laws.Able.{trying}

-- src/corner.rt:84:13
pub alternative_head-head-requires-clause-bounds : goal.alternative_head-head-requires-clause-bounds
alternative_head-head-requires-clause-bounds c = search (rules, trying)

-- src/corner.rt:84:13
pub alternative_head-head-requires-clause-found_alternative :
    goal.alternative_head-head-requires-clause-found_alternative
alternative_head-head-requires-clause-found_alternative c = search (rules, trying)

-- src/corner.rt:87:12
pub settled_outside-requires-clause-found_elements :
    goal.settled_outside-requires-clause-found_elements
settled_outside-requires-clause-found_elements c = search (rules, trying)

-- src/corner.rt:88:13
pub returns-then-settled_outside : goal.returns-then-settled_outside
returns-then-settled_outside c = search (rules, trying)

-- src/corner.rt:90:9
pub alternative_end-p-requires :
    goal.alternative_end-p-requires
alternative_end-p-requires c = search (rules, trying)

-- src/corner.rt:83:5
pub loop-preserved : goal.loop-preserved
loop-preserved c = search (rules, trying)

-- src/corner.rt:76:1
pub returns : goal.returns
returns c = search (rules, trying)
