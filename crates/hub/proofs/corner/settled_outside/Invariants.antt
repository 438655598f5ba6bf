use Rattle.words.specs.Sheet.{text}
use Prim.Native.Nat.{◌-◌}
use Rattle.grammar.specs.Tree.{inner_depth}
use Rattle.hub.proofs.Laws.Corner.{Seeking}
use Rattle.hub.proofs.corner.settled_outside.Given as goal

abbrev pub invariant-loop : goal.invariant-loop
invariant-loop l = Seeking l.c (text l.s) l.s.end inner_depth l.n l.at (l.n - l.counter) l.p
