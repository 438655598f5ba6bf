use Rattle.std.proofs.Common.{rules}
use Rattle.substitution.proofs.over.look_at.Goals as goal
use Rattle.substitution.proofs.Laws.Over.{hand_at}

-- src/over.rt:99:1
pub returns : goal.returns
returns c = search (rules, hand_at)
