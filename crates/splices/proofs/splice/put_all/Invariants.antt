use Rattle.grammar.specs.Tree.{inner_depth}
use Rattle.words.specs.Sheet.{text}
use Rattle.splices.proofs.Laws.SpliceAll.{Splicing}
use Rattle.splices.proofs.splice.put_all.Given as goal

abbrev pub invariant-loop : goal.invariant-loop
invariant-loop l = Splicing (text l.s) l.s.end inner_depth l.h l.index l.l.top.e l.l.top.o l.n l.f.at l.initial.work l.f.to.a l.f.to.e l.f.to.o l.work l.counter l.p.at l.p.to.a l.p.to.e l.p.to.o
