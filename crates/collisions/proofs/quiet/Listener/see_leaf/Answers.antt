use Rattle.std.proofs.Common.{rules}
use Rattle.collisions.proofs.quiet.Listener.see_leaf.Goals as goal
use Rattle.collisions.proofs.Laws.Quiet.{leaf_noisy}

-- src/quiet.rt:35:1
pub returns : goal.returns
returns c = search (rules, leaf_noisy)
