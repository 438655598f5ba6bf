use Rattle.std.proofs.Common.{rules}
use Rattle.rewritable.proofs.walk.walk_alternative.Goals as goal
use Rattle.rewritable.proofs.Laws.Walks.{wholes}

-- src/walk.rt:120:9
pub returns-then-a-eq0 : goal.returns-then-a-eq0
returns-then-a-eq0 c = search (rules, wholes)

-- src/walk.rt:132:9
pub walk_item-requires : goal.walk_item-requires
walk_item-requires c = search (rules, wholes)

-- src/walk.rt:103:1
pub returns : goal.returns
returns c = search (rules, wholes)
