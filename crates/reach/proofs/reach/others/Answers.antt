use Rattle.std.proofs.Common.{rules}
use Rattle.reach.proofs.reach.others.Goals as goal
use Rattle.reach.proofs.Laws.Reach.{clearing}

pub loop-i-preserved : goal.loop-i-preserved
loop-i-preserved c = search (rules, clearing)
