use Rattle.renew.proofs.Laws.Less.{Lessening}
use Rattle.renew.proofs.places.rows_less.Given as goal

abbrev pub invariant-loop-i : goal.invariant-loop-i
invariant-loop-i l = Lessening l.k l.initial.rows l.i l.rows
