use Rattle.turns.proofs.turn.hold.Goals as goal
use Rattle.turns.proofs.Laws.Holding.{held_already, held_now}

pub returns-in-Hand : goal.returns-in-Hand
returns-in-Hand c = rw c.in-Hand.is (held_already c.args.t.st c.in-Hand.h.in_hand)

pub returns-in-Stack : goal.returns-in-Stack
returns-in-Stack c = rw c.in-Stack.is (held_now c.args.t.st c.requires.laid.0 c.into_hand.ensures)
