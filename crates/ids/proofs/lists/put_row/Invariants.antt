use Rattle.ids.proofs.Laws.Lists.{Copying}
use Rattle.ids.proofs.lists.put_row.Given as goal

abbrev pub invariant-loop-i : goal.invariant-loop-i
invariant-loop-i l = Copying l.fn.row l.initial.s l.s l.i
