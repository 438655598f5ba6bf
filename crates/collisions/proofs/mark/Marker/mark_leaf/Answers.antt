use Rattle.std.proofs.Common.{rules}
use Rattle.collisions.proofs.mark.Marker.mark_leaf.Goals as goal
use Rattle.collisions.proofs.Laws.Mark.{refers_found, refers_room, leaf_laws}

pub mark_references-requires-clause-bounds : goal.mark_references-requires-clause-bounds
mark_references-requires-clause-bounds c = search (rules, leaf_laws, refers_room, refers_found)

pub returns-then-n-ne0-clause-marked : goal.returns-then-n-ne0-clause-marked
returns-then-n-ne0-clause-marked c = search (rules, leaf_laws, refers_room, refers_found)

pub returns-else-n-ne0-clause-marked : goal.returns-else-n-ne0-clause-marked
returns-else-n-ne0-clause-marked c = search (rules, leaf_laws, refers_room, refers_found)
