use Rattle.std.proofs.Common.{rules}
use Rattle.turns.proofs.turn.take_turn.Goals as goal
use Rattle.turns.proofs.Laws.Turning.{turning}

-- src/turn.rt:243:1
pub returns : goal.returns
returns c = search (rules, turning)
