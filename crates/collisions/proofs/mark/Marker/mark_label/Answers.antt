use Rattle.std.proofs.Common.{rules}
use Rattle.collisions.proofs.mark.Marker.mark_label.Goals as goal
use Rattle.collisions.proofs.Laws.Mark.{labels}

-- src/mark.rt:37:9
pub returns-then-name-eq0 : goal.returns-then-name-eq0
returns-then-name-eq0 c = search (rules, labels)

-- src/mark.rt:30:1
pub returns : goal.returns
returns c = search (rules, labels)
