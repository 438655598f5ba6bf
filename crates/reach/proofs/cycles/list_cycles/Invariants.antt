use Rattle.reach.proofs.Laws.Written.{Writing}
use Rattle.reach.proofs.cycles.list_cycles.Given as goal

abbrev pub invariant-loop-k : goal.invariant-loop-k
invariant-loop-k l = Writing l.ids l.n l.closed l.initial.left l.initial.cycles l.cycles l.left l.k
