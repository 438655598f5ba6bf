use Rattle.std.proofs.Common.{rules}
use Rattle.reach.proofs.cycles.joined.Goals as goal
use Rattle.reach.proofs.Laws.Cycles.{joined_none, joined_all}
use Rattle.reach.proofs.Laws.Listed.{joined_left}

-- src/cycles.rt:20:9
pub returns-then-is_empty : goal.returns-then-is_empty
returns-then-is_empty c = search (rules, joined_none, joined_left)

-- src/cycles.rt:14:1
pub returns : goal.returns
returns c = search (rules, joined_all, joined_left)
