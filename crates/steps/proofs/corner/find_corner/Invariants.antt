use Rattle.grammar.specs.Tree.{inner_depth}
use Rattle.words.specs.Sheet.{text}
use Rattle.steps.proofs.Laws.Seeking.{Seeking}
use Rattle.steps.proofs.corner.find_corner.Given as goal

abbrev pub invariant-loop-i : goal.invariant-loop-i
invariant-loop-i l = Seeking l.c.names.list.now l.c (text l.s) l.s.end inner_depth l.work l.x l.i
