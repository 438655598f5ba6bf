use Rattle.std.proofs.Common.{rules}
use Rattle.planned.proofs.hand.into_hand.Goals as goal
use Rattle.planned.proofs.Laws.Hand.{handing}

-- src/hand.rt:14:1
pub returns : goal.returns
returns c = search (rules, handing)
