use Rattle.std.proofs.Common.{rules}
use Rattle.copies.proofs.pen.Drawing.copy_leaf.Goals as goal
use Rattle.words.specs.Laws.Kinds.{named_kinds}
use Rattle.copies.proofs.Laws.Leaves.{leaves}

pub returns-in-Action-clause-copied : goal.returns-in-Action-clause-copied
returns-in-Action-clause-copied c = search (rules, leaves, named_kinds)

pub returns-in-Predicate-clause-copied : goal.returns-in-Predicate-clause-copied
returns-in-Predicate-clause-copied c = search (rules, leaves, named_kinds)

pub returns-in_default : goal.returns-in_default
returns-in_default c = search (rules, leaves, named_kinds)
