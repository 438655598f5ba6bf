use Rattle.std.specs.Prelude.{◌≡◌}
use Rattle.words.specs.Sheet.{text}
use Prim.Native.Nat.{◌+◌, ◌*◌}
use Rattle.copies.proofs.Laws.Copying.{ElementsCopying, AlternativesCopying}
use Rattle.copies.proofs.pen.Drawing.+tree.Given as goal

abbrev pub decreases-copy_alternative : goal.decreases-copy_alternative
decreases-copy_alternative l = l.depth * 4 + 2

abbrev pub decreases-copy_alternatives : goal.decreases-copy_alternatives
decreases-copy_alternatives l = l.depth * 4 + 3

abbrev pub decreases-copy_element : goal.decreases-copy_element
decreases-copy_element l = l.depth * 4

abbrev pub decreases-copy_elements : goal.decreases-copy_elements
decreases-copy_elements l = l.depth * 4 + 1

abbrev pub invariant-copy_alternatives-loop : goal.invariant-copy_alternatives-loop
invariant-copy_alternatives-loop l =
    let v = l.initial.self in
    (v.out.ghost_name ≡ l.self.out.ghost_name) × (v.trail.ghost_name ≡ l.self.trail.ghost_name)
    × AlternativesCopying (text l.s) l.s.end l.depth l.n l.at v.out.now v.trail.now v.pen l.counter l.p l.self.out.now l.self.trail.now l.self.pen

abbrev pub invariant-copy_elements-loop : goal.invariant-copy_elements-loop
invariant-copy_elements-loop l =
    let v = l.initial.self in
    (v.out.ghost_name ≡ l.self.out.ghost_name) × (v.trail.ghost_name ≡ l.self.trail.ghost_name)
    × ElementsCopying (text l.s) l.s.end l.depth l.n l.at v.out.now v.trail.now v.pen l.counter l.p l.self.out.now l.self.trail.now l.self.pen
