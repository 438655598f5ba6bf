use Rattle.rewritable.proofs.Laws.Listed.{Testing}
use Rattle.rewritable.proofs.items.may_be_rewritten.Given as goal

abbrev pub invariant-loop-i : goal.invariant-loop-i
invariant-loop-i l = Testing l.a l.name l.i l.silent
