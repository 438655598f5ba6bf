use Rattle.std.proofs.Common.{rules}
use Rattle.hub.proofs.corner.settled_outside.Goals as goal
use Rattle.words.specs.Laws.Kinds.{silent_kind, named_kinds, sided_kinds}
use Rattle.hub.proofs.Laws.Corner.{seeking}

-- src/corner.rt:60:13
pub element_head-head-requires-clause-bounds : goal.element_head-head-requires-clause-bounds
element_head-head-requires-clause-bounds c = search (rules, seeking, named_kinds, sided_kinds)

-- src/corner.rt:60:13
pub element_head-head-requires-clause-found_element :
    goal.element_head-head-requires-clause-found_element
element_head-head-requires-clause-found_element c = search (rules, seeking, named_kinds, sided_kinds)

-- src/corner.rt:64:13
pub returns-in-Token : goal.returns-in-Token
returns-in-Token c = search (rules, seeking, named_kinds, sided_kinds)

-- src/corner.rt:67:13
pub returns-in-Call : goal.returns-in-Call
returns-in-Call c = search (rules, seeking, named_kinds, sided_kinds)

-- src/corner.rt:69:9
pub leaf_end-p-requires-clause-found_element : goal.leaf_end-p-requires-clause-found_element
leaf_end-p-requires-clause-found_element c = search (rules, seeking, named_kinds, sided_kinds)

-- src/corner.rt:59:5
pub loop-preserved : goal.loop-preserved
loop-preserved c = let silent = silent_kind c.in-Epsilon.is in search (rules, seeking)

-- src/corner.rt:44:1
pub returns : goal.returns
returns c = search (rules, seeking, named_kinds, sided_kinds)
