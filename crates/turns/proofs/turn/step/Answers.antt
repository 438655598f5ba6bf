use Rattle.std.proofs.Common.{rules}
use Rattle.turns.proofs.turn.step.Goals as goal
use Rattle.turns.proofs.Laws.Stepping.{held}

-- src/turn.rt:173:9
pub returns-then-st-eq0 : goal.returns-then-st-eq0
returns-then-st-eq0 c = search (rules, held)

-- src/turn.rt:176:5
pub step_in_hand-requires-clause-shut : goal.step_in_hand-requires-clause-shut
step_in_hand-requires-clause-shut c = search (rules, held)

-- src/turn.rt:176:5
pub step_in_hand-requires-clause-called : goal.step_in_hand-requires-clause-called
step_in_hand-requires-clause-called c = search (rules, held)

-- src/turn.rt:153:1
pub returns : goal.returns
returns c = search (rules, held)
