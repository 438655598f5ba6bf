use Rattle.reach.proofs.Laws.Reach.{Sofar}
use Rattle.reach.proofs.reach.closed.Given as goal

abbrev pub invariant-loop-k : goal.invariant-loop-k
invariant-loop-k l = Sofar l.initial.r l.n l.k l.r
