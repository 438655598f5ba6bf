use Rattle.std.proofs.Common.{rules}
use Rattle.turns.proofs.turn.act.Goals as goal
use Rattle.turns.proofs.Laws.Acting.{act_settled, acting}

-- src/turn.rt:234:11
-- src/turn.rt:237:32
pub step_at-requires-clause-called_at : goal.step_at-requires-clause-called_at
step_at-requires-clause-called_at c = search (rules, acting)

-- src/turn.rt:238:33
pub step_at-requires-in-Satellite-clause-called_at :
    goal.step_at-requires-in-Satellite-clause-called_at
step_at-requires-in-Satellite-clause-called_at c = search (rules, acting)

-- src/turn.rt:215:1
pub returns-in-Settled : goal.returns-in-Settled
returns-in-Settled c =
    let z = rw c.listed-x.ensures at c.find_corner.ensures in
    let p = rw c.listed-x.ensures at c.put_settled.ensures in
    act_settled _ z c.requires.shut c.in-Settled.is p

-- src/turn.rt:215:1
pub returns-in-Blocked : goal.returns-in-Blocked
returns-in-Blocked c = let z = rw c.listed-x.ensures at c.find_corner.ensures in search (rules, acting)

-- src/turn.rt:215:1
pub returns-in-Optional : goal.returns-in-Optional
returns-in-Optional c = let z = rw c.listed-x.ensures at c.find_corner.ensures in search (rules, acting)

-- src/turn.rt:215:1
pub returns-in-Satellite : goal.returns-in-Satellite
returns-in-Satellite c = let z = rw c.listed-x.ensures at c.find_corner.ensures in search (rules, acting)
