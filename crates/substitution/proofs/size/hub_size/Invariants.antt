use Rattle.words.specs.Sheet.{text}
use Rattle.grammar.specs.Tree.{inner_depth}
use Rattle.substitution.proofs.Laws.Size.{Counting}
use Rattle.substitution.proofs.size.hub_size.Given as goal

abbrev pub invariant-loop : goal.invariant-loop
invariant-loop l = Counting (text l.s) l.s.end inner_depth l.n l.initial.p l.counter l.p l.z
