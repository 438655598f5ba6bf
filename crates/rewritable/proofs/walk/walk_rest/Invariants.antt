use Rattle.analysis.specs.Survey.{view_of, seen_of}
use Rattle.rewritable.proofs.Laws.Walks.{Resting}
use Rattle.rewritable.proofs.walk.walk_rest.Given as goal

abbrev pub invariant-loop-i : goal.invariant-loop-i
invariant-loop-i l = Resting (view_of l.v) l.a 1 (seen_of l.initial.t) l.i (seen_of l.t)
