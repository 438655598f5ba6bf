use Rattle.std.proofs.Common.{take}
use Rattle.writing.specs.Wrote.{Wrote}
use Rattle.copies.proofs.pen.write_words.Given as goal

abbrev pub invariant-loop-i : goal.invariant-loop-i
invariant-loop-i l = Wrote l.initial.out l.out l.at (take l.i l.ws)
