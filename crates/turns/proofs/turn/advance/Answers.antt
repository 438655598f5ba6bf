use Rattle.std.proofs.Common.{rules}
use Rattle.turns.proofs.turn.advance.Goals as goal
use Rattle.turns.proofs.Laws.Advance.{advancing}

-- src/turn.rt:116:9
pub returns-then-is_within : goal.returns-then-is_within
returns-then-is_within c = let z = rw c.most.ensures at c.is_within.ensures in search (rules, advancing)

-- src/turn.rt:90:1
pub returns : goal.returns
returns c = let z = rw c.most.ensures at c.is_within.ensures in search (rules, advancing)
