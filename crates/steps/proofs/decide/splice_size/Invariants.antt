use Rattle.words.specs.Sheet.{text}
use Rattle.grammar.specs.Tree.{inner_depth}
use Rattle.steps.proofs.Laws.Sizing.{Sizing}
use Rattle.steps.proofs.decide.splice_size.Given as goal

abbrev pub invariant-loop : goal.invariant-loop
invariant-loop l = Sizing (text l.s) l.s.end inner_depth l.h.work.now l.h.x l.quiet l.n l.initial.p l.counter l.p l.z
