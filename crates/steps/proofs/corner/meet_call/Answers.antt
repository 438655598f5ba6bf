use Rattle.std.proofs.Common.{rules}
use Rattle.steps.proofs.corner.meet_call.Goals as goal
use Rattle.steps.proofs.Laws.Corner.{calls}

pub returns-in-Some : goal.returns-in-Some
returns-in-Some c = search (rules, calls)

pub returns-in_default : goal.returns-in_default
returns-in_default c = search (rules, calls)

pub returns-in_default-2 : goal.returns-in_default-2
returns-in_default-2 c = search (rules, calls)
