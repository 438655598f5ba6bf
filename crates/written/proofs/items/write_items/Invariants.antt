use Rattle.std.specs.Prelude.{◌≡◌}
use Rattle.grammar.specs.Tree.{inner_depth}
use Rattle.words.specs.Sheet.{text}
use Rattle.written.proofs.Laws.Items.{Drawing}
use Rattle.written.proofs.items.write_items.Given as goal

abbrev pub invariant-loop-i : goal.invariant-loop-i
invariant-loop-i l =
    let v = l.initial.d in
    (v.out.ghost_name ≡ l.d.out.ghost_name) × (v.trail.ghost_name ≡ l.d.trail.ghost_name)
    × Drawing (text l.s) l.s.end inner_depth l.x l.fresh v.out.now v.trail.now v.pen l.d.out.now l.d.trail.now l.i l.d.pen
