use Rattle.words.specs.Sheet.{text}
use Rattle.std.specs.Prelude.{◌≡◌}
use Rattle.grammar.specs.Tree.{inner_depth}
use Rattle.planned.specs.Layout.{meaning}
use Rattle.collisions.specs.Names.{Kept}
use Rattle.collisions.specs.Mark.{marks_of, marking}
use Rattle.collisions.proofs.Laws.Items.{Itemizing}
use Rattle.collisions.proofs.mark.Marker.mark_items.Given as goal

abbrev pub invariant-loop-i : goal.invariant-loop-i
invariant-loop-i l =
    let v = l.initial.self in
    (v.work.ghost_name ≡ l.self.work.ghost_name) × (v.name ≡ l.self.name) × Kept (text l.s) l.s.end v.work.now l.self.work.now
    × Itemizing (marking v.name) inner_depth (meaning (text l.s) l.s.end inner_depth v.work.now l.x).elements l.from l.to
    (marks_of (text l.s) v.work.now v.dangling) l.i (marks_of (text l.s) l.self.work.now l.self.dangling)
