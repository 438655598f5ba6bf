use Rattle.words.specs.Sheet.{text}
use Prim.Native.Nat.{◌+◌, ◌-◌, ◌*◌}
use Rattle.grammar.specs.Laws.Fold.{ElementsFolding, AlternativesFolding}
use Rattle.analysis.specs.Survey.{view_of, seen_of, surveying}
use Rattle.analysis.proofs.walk.+tree.Given as goal

abbrev pub decreases-alternative : goal.decreases-alternative
decreases-alternative l = l.depth * 5 + 3

abbrev pub decreases-alternatives : goal.decreases-alternatives
decreases-alternatives l = l.depth * 5 + 4

abbrev pub decreases-element : goal.decreases-element
decreases-element l = l.depth * 5 + 1

abbrev pub decreases-elements : goal.decreases-elements
decreases-elements l = l.depth * 5 + 2

abbrev pub decreases-other_element : goal.decreases-other_element
decreases-other_element l = l.depth * 5

abbrev pub invariant-alternatives-loop : goal.invariant-alternatives-loop
invariant-alternatives-loop l =
    AlternativesFolding (surveying (view_of l.v)) (text l.s) l.s.end l.depth l.n l.at (seen_of l.initial.t)
    (l.n - l.counter) l.p (seen_of l.t)

abbrev pub invariant-elements-loop : goal.invariant-elements-loop
invariant-elements-loop l =
    ElementsFolding (surveying (view_of l.v)) (text l.s) l.s.end l.depth l.n l.at (seen_of l.initial.t)
    (l.n - l.counter) l.p (seen_of l.t)
