use Rattle.analysis.proofs.Laws.Names.{Putting}
use Rattle.analysis.proofs.names.Names.put.Given as goal

abbrev pub invariant-loop-i : goal.invariant-loop-i
invariant-loop-i l = Putting l.self.list.now l.self.n l.initial.table l.table l.i
