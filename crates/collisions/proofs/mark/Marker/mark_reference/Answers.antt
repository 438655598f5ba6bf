use Rattle.std.proofs.Common.{rules}
use Rattle.collisions.proofs.mark.Marker.mark_reference.Goals as goal
use Rattle.collisions.proofs.Laws.Mark.{kind_binds, kind_apart, kind_unnamed, reference_laws}

pub returns-in_default-clause-marked : goal.returns-in_default-clause-marked
returns-in_default-clause-marked c = let apart = kind_unnamed c.in_default.ensures.1 in search (rules, reference_laws)

pub returns-in-Attribute : goal.returns-in-Attribute
returns-in-Attribute c = let binds = kind_binds c.in-Attribute.is c.in-Ok.ensures in search (rules, reference_laws)

pub returns-in-NonLocal-clause-marked : goal.returns-in-NonLocal-clause-marked
returns-in-NonLocal-clause-marked c = let apart = kind_apart c.in-NonLocal.is c.in-Ok.ensures in search (rules, reference_laws)
