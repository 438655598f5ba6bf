use Rattle.std.specs.Prelude.{◌≡◌}
use Rattle.grammar.specs.Tree.{inner_depth}
use Rattle.words.specs.Sheet.{text}
use Rattle.written.proofs.Laws.Listing.{Listing}
use Rattle.written.proofs.list.write_list.Given as goal

abbrev pub invariant-loop : goal.invariant-loop
invariant-loop l =
    let v = l.initial.d in
    (v.out.ghost_name ≡ l.d.out.ghost_name) × (v.trail.ghost_name ≡ l.d.trail.ghost_name)
    × Listing (text l.s) l.s.end inner_depth l.l v.out.now v.trail.now v.pen l.d.out.now l.d.trail.now l.counter l.c l.d.pen
