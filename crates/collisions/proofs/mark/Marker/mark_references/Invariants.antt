use Rattle.std.specs.Prelude.{◌≡◌, ◌+◌, ◌-◌, ◌*◌}
use Rattle.words.specs.Sheet.{text}
use Rattle.collisions.specs.Names.{Kept}
use Rattle.collisions.specs.Mark.{marks_of}
use Rattle.collisions.proofs.Laws.Mark.{ReferencesFolding}
use Rattle.collisions.proofs.mark.Marker.mark_references.Given as goal

abbrev pub invariant-loop-i : goal.invariant-loop-i
invariant-loop-i l =
    let v = l.initial.self in
    (v.work.ghost_name ≡ l.self.work.ghost_name) × (v.name ≡ l.self.name) × Kept (text l.s) l.s.end v.work.now l.self.work.now
    × ReferencesFolding v.name (text l.s) l.s.end l.n l.at (marks_of (text l.s) v.work.now v.dangling) (l.n - l.i) (l.at + 2 * l.i)
    (marks_of (text l.s) l.self.work.now l.self.dangling)
