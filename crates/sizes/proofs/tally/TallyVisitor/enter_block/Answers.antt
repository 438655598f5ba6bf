use Rattle.std.proofs.Common.{rules}
use Rattle.sizes.proofs.Laws.Counting.{counts}
use Rattle.sizes.proofs.tally.TallyVisitor.enter_block.Goals as goal

pub returns : goal.returns
returns c = search (rules, counts)
