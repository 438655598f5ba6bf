use Rattle.std.proofs.Common.{rules}
use Rattle.steps.proofs.corner.meet_item.Goals as goal
use Rattle.grammar.specs.Laws.Found.{rooms}
use Rattle.words.specs.Laws.Kinds.{is_call, named_kinds, sided_kinds}
use Rattle.steps.proofs.Laws.Corner.{items}

-- src/corner.rt:123:9
pub element_head-head-requires-clause-bounds : goal.element_head-head-requires-clause-bounds
element_head-head-requires-clause-bounds c = search (rules, rooms, items, named_kinds, sided_kinds)

-- src/corner.rt:127:9
pub returns-in-Token : goal.returns-in-Token
returns-in-Token c = search (rules, rooms, items, named_kinds, sided_kinds)

-- src/corner.rt:130:9
pub returns-in-Epsilon : goal.returns-in-Epsilon
returns-in-Epsilon c = search (rules, rooms, items, named_kinds, sided_kinds)

-- src/corner.rt:118:1
pub returns-in-Call : goal.returns-in-Call
returns-in-Call c = let four = is_call c.in-Call.is in search (rules, rooms, items)
