use Rattle.words.specs.Sheet.{text}
use Rattle.drafts.proofs.Laws.Kept.{Copying}
use Rattle.drafts.proofs.kept.copy_rules.Given as goal

abbrev pub invariant-loop-i : goal.invariant-loop-i
invariant-loop-i l = Copying (text l.g.s.now) l.g.s.now.end l.g.rules.now l.row l.from l.until l.initial.work l.initial.d l.work l.i l.d
