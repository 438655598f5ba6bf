use Rattle.std.proofs.Common.{rules}
use Rattle.copies.proofs.pen.Drawing.copy_marked.Goals as goal
use Rattle.copies.proofs.Laws.Heads.{markings}

pub returns-clause-copied : goal.returns-clause-copied
returns-clause-copied c = let gave = rw c.from-reason.ensures at c.fresh-given.ensures in search (rules, markings)
