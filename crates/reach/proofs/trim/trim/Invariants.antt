use Rattle.reach.specs.Steps.{Holds}
use Rattle.reach.proofs.trim.trim.Given as goal

abbrev pub invariant-loop-i : goal.invariant-loop-i
invariant-loop-i l = Holds l.rows l.n l.r

abbrev pub invariant-loop-i-2 : goal.invariant-loop-i-2
invariant-loop-i-2 l = Holds l.rows l.n l.r
