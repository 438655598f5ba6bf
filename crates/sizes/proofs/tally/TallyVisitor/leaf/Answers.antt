use Rattle.std.proofs.Common.{rules}
use Rattle.sizes.proofs.Laws.Counting.{counts}
use Rattle.sizes.proofs.tally.TallyVisitor.leaf.Goals as goal

pub returns : goal.returns
returns c = search (rules, counts)
