use Rattle.std.proofs.Common.{rules}
use Rattle.steps.proofs.corner.find_corner.Goals as goal
use Rattle.steps.proofs.Laws.Seeking.{seeking}

pub loop-i-init : goal.loop-i-init
loop-i-init c = search (rules, seeking)

pub loop-i-preserved : goal.loop-i-preserved
loop-i-preserved c = search (rules, seeking)

pub returns-in-Some : goal.returns-in-Some
returns-in-Some c = search (rules, seeking)

pub returns : goal.returns
returns c = search (rules, seeking)
