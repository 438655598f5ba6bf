use Rattle.reach.specs.Rows.{Collected}
use Rattle.reach.proofs.rows.collect.Given as goal

abbrev pub invariant-loop-i : goal.invariant-loop-i
invariant-loop-i g l = Collected (goal.F-post g l.test) l.i l.r
