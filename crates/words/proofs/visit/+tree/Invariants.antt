use Rattle.words.specs.Sheet.{text}
use Prim.Native.Nat.{◌+◌, ◌-◌, ◌*◌}
use Rattle.grammar.specs.Laws.Fold.{ElementsFolding, AlternativesFolding}
use Rattle.words.proofs.visit.+tree.Given as goal

abbrev pub decreases-walk_alternative : goal.decreases-walk_alternative
decreases-walk_alternative g l = l.depth * 4 + 2

abbrev pub decreases-walk_alternatives : goal.decreases-walk_alternatives
decreases-walk_alternatives g l = l.depth * 4 + 3

abbrev pub decreases-walk_element : goal.decreases-walk_element
decreases-walk_element g l = l.depth * 4

abbrev pub decreases-walk_elements : goal.decreases-walk_elements
decreases-walk_elements g l = l.depth * 4 + 1

abbrev pub invariant-walk_alternatives-loop : goal.invariant-walk_alternatives-loop
invariant-walk_alternatives-loop g l =
    let m = g.V.Visitor in
    let ws = text l.s in
    m.Kept ws l.s.end l.initial.v l.v × m.Fits ws l.s.end l.depth l.p l.v
    × AlternativesFolding (m.steps ws l.initial.v) ws l.s.end l.depth l.n l.at (m.state ws l.depth l.initial.v) (l.n - l.counter) l.p
    (m.state ws l.depth l.v)

abbrev pub invariant-walk_elements-loop : goal.invariant-walk_elements-loop
invariant-walk_elements-loop g l =
    let m = g.V.Visitor in
    let ws = text l.s in
    m.Kept ws l.s.end l.initial.v l.v × m.Fits ws l.s.end l.depth l.p l.v
    × ElementsFolding (m.steps ws l.initial.v) ws l.s.end l.depth l.n l.at (m.state ws l.depth l.initial.v) (l.n - l.counter) l.p
    (m.state ws l.depth l.v)
