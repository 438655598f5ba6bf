use Rattle.grammar.specs.Tree.{inner_depth}
use Rattle.words.specs.Sheet.{text}
use Rattle.sizes.proofs.Laws.Settled.{Measuring}
use Rattle.sizes.proofs.measure.measure.Given as goal

abbrev pub invariant-loop : goal.invariant-loop
invariant-loop l = Measuring (text l.s) l.fn.s.end inner_depth l.work l.l l.counter l.c l.m
