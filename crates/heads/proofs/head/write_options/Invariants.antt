use Rattle.words.specs.Sheet.{text}
use Rattle.heads.proofs.Laws.Options.{OptionsTo}
use Rattle.heads.proofs.head.write_options.Given as goal

abbrev pub invariant-loop-i : goal.invariant-loop-i
invariant-loop-i l = OptionsTo (text l.s) l.s.end l.depth l.initial.work l.x l.to l.work l.i
