use Rattle.words.specs.Sheet.{text}
use Rattle.grammar.specs.Tree.{inner_depth}
use Rattle.analysis.specs.Survey.{view_of}
use Rattle.rewritable.proofs.Laws.Settled.{Judging}
use Rattle.rewritable.proofs.judge.judge_list.Given as goal

abbrev pub invariant-loop : goal.invariant-loop
invariant-loop l =
    Judging (view_of l.v) l.members l.hub (text l.s) l.fn.s.end inner_depth l.work l.l l.counter l.c l.primary l.recursive l.calls
