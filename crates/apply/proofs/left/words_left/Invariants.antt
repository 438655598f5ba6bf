use Prim.Native.Nat.{◌≤◌}
use Rattle.grammar.specs.Numbers.{rule_limit}
use Rattle.grammar.specs.Words.{words}
use Rattle.apply.proofs.Laws.Left.{Counting}
use Rattle.apply.proofs.left.words_left.Given as goal

abbrev pub invariant-loop-i : goal.invariant-loop-i
invariant-loop-i l = Counting (words l.s) l.end l.rules l.row l.from l.until l.i l.total × (l.until ≤ rule_limit)
