use Rattle.words.specs.Sheet.{text}
use Rattle.convert.proofs.Laws.Widening.{RulesWidening}
use Rattle.convert.proofs.walk.widen_rules.Given as goal

abbrev pub invariant-loop : goal.invariant-loop
invariant-loop l = RulesWidening (text l.s) l.s.end l.n l.initial.p l.initial.wide l.counter l.p l.wide
