use Rattle.std.proofs.Common.{rules}
use Rattle.collisions.proofs.quiet.Listener.see_label.Goals as goal
use Rattle.collisions.proofs.Laws.Quiet.{label_noisy}

-- src/quiet.rt:28:1
pub returns : goal.returns
returns c = search (rules, label_noisy)
