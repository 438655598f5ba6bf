use Rattle.std.proofs.Common.{rules}
use Rattle.collisions.proofs.quiet.is_quiet.Goals as goal
use Rattle.collisions.proofs.Laws.Items.{itemizing}
use Rattle.collisions.proofs.Laws.Quiet.{quiet_done}

-- src/quiet.rt:168:5
pub loop-i-preserved : goal.loop-i-preserved
loop-i-preserved c = search (rules, itemizing)

-- src/quiet.rt:161:1
pub returns : goal.returns
returns c = search (rules, itemizing, quiet_done)
