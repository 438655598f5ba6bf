use Rattle.std.proofs.Common.{rules}
use Rattle.collisions.proofs.Laws.Walks.{notes}
use Rattle.collisions.proofs.quiet.ListenerVisitor.enter_alternative.Goals as goal

pub returns : goal.returns
returns c = search (rules, notes)
