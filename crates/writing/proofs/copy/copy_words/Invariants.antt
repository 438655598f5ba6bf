use Rattle.writing.proofs.Laws.Copy.{Copying}
use Rattle.writing.proofs.copy.copy_words.Given as goal

abbrev pub invariant-loop-i : goal.invariant-loop-i
invariant-loop-i l = Copying l.s l.from l.initial.out l.out l.to l.n l.i
