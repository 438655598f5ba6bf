use Rattle.std.proofs.Common.{rules}
use Rattle.writing.proofs.copy.write.Goals as goal
use Rattle.writing.specs.Laws.Wrote.{writes}

-- src/copy.rt:9:1
pub returns : goal.returns
returns c = search (rules, writes)
