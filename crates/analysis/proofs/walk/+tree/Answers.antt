use Rattle.std.proofs.Common.{rules}
use Rattle.analysis.proofs.walk.+tree.Goals as goal
use Rattle.grammar.specs.Laws.Found.{rooms, inner}
use Rattle.words.specs.Laws.Kinds.{named_kinds}
use Rattle.analysis.proofs.Laws.Walks.{surveys, counted, block_lower}

-- src/walk.rt:175:9
pub alternative-alternative_head-head-requires-clause-bounds :
    goal.alternative-alternative_head-head-requires-clause-bounds
alternative-alternative_head-head-requires-clause-bounds t c = search (rules, inner, rooms, surveys, counted, block_lower)

-- src/walk.rt:177:9
pub alternative-elements-there-requires : goal.alternative-elements-there-requires
alternative-elements-there-requires t c = search (rules, inner, rooms, surveys, counted, block_lower)

-- src/walk.rt:156:1
pub alternative-returns : goal.alternative-returns
alternative-returns t c = search (rules, inner, rooms, surveys, counted)

-- src/walk.rt:213:13
pub alternatives-alternative-p-requires : goal.alternatives-alternative-p-requires
alternatives-alternative-p-requires t c = search (rules, inner, rooms, surveys, counted, block_lower)

-- src/walk.rt:212:5
pub alternatives-loop-preserved : goal.alternatives-loop-preserved
alternatives-loop-preserved t c = search (rules, inner, rooms, surveys, counted)

-- src/walk.rt:188:1
pub alternatives-returns : goal.alternatives-returns
alternatives-returns t c = search (rules, inner, rooms, surveys, counted)

-- src/walk.rt:44:9
pub element-element_head-head-requires-clause-bounds :
    goal.element-element_head-head-requires-clause-bounds
element-element_head-head-requires-clause-bounds t c = search (rules, inner, rooms, surveys, counted, block_lower, named_kinds)

-- src/walk.rt:49:9
pub element-returns-in-Token : goal.element-returns-in-Token
element-returns-in-Token t c = search (rules, inner, rooms, surveys, counted, named_kinds)

-- src/walk.rt:142:13
pub elements-element-p-requires : goal.elements-element-p-requires
elements-element-p-requires t c = search (rules, inner, rooms, surveys, counted, block_lower)

-- src/walk.rt:141:5
pub elements-loop-preserved : goal.elements-loop-preserved
elements-loop-preserved t c = search (rules, inner, rooms, surveys, counted)

-- src/walk.rt:117:1
pub elements-returns : goal.elements-returns
elements-returns t c = search (rules, inner, rooms, surveys, counted)

-- src/walk.rt:78:9
pub other_element-element_head-head-requires-clause-bounds :
    goal.other_element-element_head-head-requires-clause-bounds
other_element-element_head-head-requires-clause-bounds t c = search (rules, inner, rooms, surveys, counted, block_lower, named_kinds)

-- src/walk.rt:87:13
pub other_element-overflow_sub-depth : goal.other_element-overflow_sub-depth
other_element-overflow_sub-depth t c = search (rules, inner, rooms, surveys, counted, named_kinds)

-- src/walk.rt:84:13
pub other_element-alternatives-there-requires : goal.other_element-alternatives-there-requires
other_element-alternatives-there-requires t c = search (rules, inner, rooms, surveys, counted, block_lower, named_kinds)

-- src/walk.rt:98:9
pub other_element-returns-in-Block : goal.other_element-returns-in-Block
other_element-returns-in-Block t c = search (rules, inner, rooms, surveys, counted, named_kinds)

-- src/walk.rt:59:1
pub other_element-returns-in_default : goal.other_element-returns-in_default
other_element-returns-in_default t c = search (rules, inner, rooms, surveys, counted, named_kinds)
