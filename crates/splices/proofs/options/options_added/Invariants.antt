use Rattle.words.specs.Sheet.{text}
use Rattle.planned.specs.Layout.{options_from}
use Rattle.splices.proofs.Laws.OptionsAdded.{Adding}
use Rattle.splices.proofs.options.options_added.Given as goal

abbrev pub invariant-loop-j : goal.invariant-loop-j
invariant-loop-j l = Adding (text l.s) l.s.end l.depth l.at (options_from (text l.s) l.s.end l.depth l.work l.h.o l.h.no) l.n l.j l.added
