use Rattle.std.proofs.Common.{rules}
use Rattle.collisions.proofs.Laws.Walks.{notes}
use Rattle.collisions.proofs.Laws.Mark.{marks, same}
use Rattle.collisions.proofs.mark.MarkerVisitor.enter_block.Goals as goal

pub returns : goal.returns
returns c = search (rules, same, notes, marks)
