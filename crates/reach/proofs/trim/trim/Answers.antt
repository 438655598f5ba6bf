use Rattle.std.proofs.Common.{rules}
use Rattle.reach.proofs.trim.trim.Goals as goal
use Rattle.reach.proofs.Laws.Trim.{trimming}

pub loop-i-preserved : goal.loop-i-preserved
loop-i-preserved c = search (rules, trimming)

pub loop-i-2-preserved : goal.loop-i-2-preserved
loop-i-2-preserved c = search (rules, trimming)
