use Rattle.reach.proofs.Laws.Reach.{Midway}
use Rattle.reach.proofs.reach.through.Given as goal

abbrev pub invariant-loop-i : goal.invariant-loop-i
invariant-loop-i l = Midway l.initial.rows l.k l.via l.n l.i l.rows
