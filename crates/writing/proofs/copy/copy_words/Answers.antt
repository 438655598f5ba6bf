use Rattle.std.proofs.Common.{rules}
use Rattle.writing.proofs.copy.copy_words.Goals as goal
use Rattle.writing.proofs.Laws.Copy.{copies}

-- src/copy.rt:22:5
pub loop-i-preserved : goal.loop-i-preserved
loop-i-preserved c = search (rules, copies)
