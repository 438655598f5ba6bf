use Prim.Native.Nat.{◌-◌}
use Rattle.grammar.specs.Numbers.{rule_limit}
use Rattle.grammar.specs.Words.{words}
use Rattle.words.specs.Form.{form_of}
use Rattle.records.proofs.Laws.Rules.{SoFar}
use Rattle.records.proofs.rules.read_rules_in.Given as goal

abbrev pub invariant-loop-at : goal.invariant-loop-at
invariant-loop-at l = SoFar (form_of l.fn.form) (words l.s) l.end l.at l.rules

abbrev pub decreases-loop-at : goal.decreases-loop-at
decreases-loop-at l = rule_limit - l.rules.n
