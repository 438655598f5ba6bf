use Rattle.std.proofs.Common.{rules}
use Rattle.planned.proofs.hand.push_present.Goals as goal
use Rattle.planned.proofs.Laws.Split.{splitting}

-- src/hand.rt:98:1
pub returns : goal.returns
returns c = search (rules, splitting)
