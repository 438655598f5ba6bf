use Prim.Native.Nat.{◌+◌, ◌*◌}
use Rattle.words.specs.Sheet.{text}
use Rattle.convert.proofs.Laws.Widening.{ElementsWidening, AlternativesWidening}
use Rattle.convert.proofs.walk.+tree.Given as goal

abbrev pub decreases-widen_alternative : goal.decreases-widen_alternative
decreases-widen_alternative l = l.depth * 4 + 2

abbrev pub decreases-widen_alternatives : goal.decreases-widen_alternatives
decreases-widen_alternatives l = l.depth * 4 + 3

abbrev pub decreases-widen_element : goal.decreases-widen_element
decreases-widen_element l = l.depth * 4

abbrev pub decreases-widen_elements : goal.decreases-widen_elements
decreases-widen_elements l = l.depth * 4 + 1

abbrev pub invariant-widen_alternatives-loop : goal.invariant-widen_alternatives-loop
invariant-widen_alternatives-loop l =
    AlternativesWidening (text l.s) l.s.end l.depth l.n l.initial.p l.initial.wide l.counter l.p l.wide

abbrev pub invariant-widen_elements-loop : goal.invariant-widen_elements-loop
invariant-widen_elements-loop l =
    ElementsWidening (text l.s) l.s.end l.depth l.n l.initial.p l.initial.wide l.counter l.p l.wide
