use Rattle.renew.proofs.Laws.Fewer.{Dropping}
use Rattle.renew.proofs.places.rules_less.Given as goal

abbrev pub invariant-loop-k : goal.invariant-loop-k
invariant-loop-k l = Dropping l.initial.rows.calls l.initial.rows.corners l.initial.t l.rows.calls l.rows.corners l.t l.gone l.n l.k
