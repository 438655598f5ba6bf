use Rattle.reach.proofs.Laws.Reach.{Cleared}
use Rattle.reach.proofs.reach.others.Given as goal

abbrev pub invariant-loop-i : goal.invariant-loop-i
invariant-loop-i l = Cleared l.initial.r l.n l.i l.r
