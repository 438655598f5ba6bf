use Rattle.std.proofs.Common.{rules}
use Rattle.substitution.proofs.over.look_hand.Goals as goal
use Rattle.substitution.proofs.Laws.Over.{looks}

-- src/over.rt:90:11
-- src/over.rt:74:1
pub returns-in-Settled : goal.returns-in-Settled
returns-in-Settled c = search (rules, looks)

-- src/over.rt:74:1
pub returns-in-Blocked : goal.returns-in-Blocked
returns-in-Blocked c = search (rules, looks)

-- src/over.rt:74:1
pub returns-in-Optional : goal.returns-in-Optional
returns-in-Optional c = search (rules, looks)

-- src/over.rt:74:1
pub returns-in-Satellite : goal.returns-in-Satellite
returns-in-Satellite c = search (rules, looks)
