use Rattle.words.specs.Sheet.{text}
use Rattle.splices.proofs.Laws.OptionsPut.{Putting}
use Rattle.splices.proofs.options.put_new_options.Given as goal

abbrev pub invariant-loop-j : goal.invariant-loop-j
invariant-loop-j l = Putting (text l.s) l.s.end l.depth l.at l.initial.work l.h l.to l.n l.work l.j l.t
