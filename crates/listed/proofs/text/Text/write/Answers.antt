use Rattle.std.proofs.Common.{rules}
use Rattle.listed.proofs.text.Text.write.Goals as goal
use Rattle.listed.proofs.Laws.Put.{writing_more}

pub loop-b-preserved : goal.loop-b-preserved
loop-b-preserved c = search (rules, writing_more)
