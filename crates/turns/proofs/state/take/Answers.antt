use Rattle.std.proofs.Common.{rules}
use Rattle.turns.proofs.state.take.Goals as goal
use Rattle.turns.proofs.Laws.Midway.{taking}

-- src/state.rt:118:9
pub returns-then-st-eq0 : goal.returns-then-st-eq0
returns-then-st-eq0 c = search (rules, taking)

-- src/state.rt:111:1
pub returns : goal.returns
returns c = search (rules, taking)
