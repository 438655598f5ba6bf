use Rattle.std.proofs.Common.{rules}
use Rattle.rewritable.proofs.walk.walk_rest.Goals as goal
use Rattle.rewritable.proofs.Laws.Walks.{rest_more, resting}

-- src/walk.rt:88:13
pub walk_item-requires : goal.walk_item-requires
walk_item-requires c = search (rules, resting, rest_more)

-- src/walk.rt:86:5
pub loop-i-preserved : goal.loop-i-preserved
loop-i-preserved c = search (rules, resting, rest_more)

-- src/walk.rt:64:1
pub returns : goal.returns
returns c = search (rules, resting, rest_more)
