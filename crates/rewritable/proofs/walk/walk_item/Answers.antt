use Rattle.std.proofs.Common.{rules}
use Rattle.rewritable.proofs.walk.walk_item.Goals as goal
use Rattle.grammar.specs.Laws.Found.{rooms}
use Rattle.rewritable.proofs.Laws.Walks.{item_walks}

-- src/walk.rt:40:13
pub element_head-requires-clause-bounds : goal.element_head-requires-clause-bounds
element_head-requires-clause-bounds c = search (rules, item_walks, rooms)

-- src/walk.rt:41:9
pub returns-then-e : goal.returns-then-e
returns-then-e c = search (rules, item_walks, rooms)
