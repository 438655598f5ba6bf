use Rattle.std.proofs.Common.{rules, arith}
use Rattle.records.proofs.rules.read_rules_in.Goals as goal
use Rattle.records.proofs.Laws.Trees.{rule_room}
use Rattle.records.proofs.Laws.Rules.{reads}

pub loop-at-init : goal.loop-at-init
loop-at-init c = search (rules, reads)

pub returns-then-n-eq-LIMIT : goal.returns-then-n-eq-LIMIT
returns-then-n-eq-LIMIT c = search (rules, reads)

pub returns-in_err-p : goal.returns-in_err-p
returns-in_err-p c = let found = c.in_err-p.ensures in rw c.from_residual.ensures (search (rules, reads))

pub word-requires-in-loop-at : goal.word-requires-in-loop-at
word-requires-in-loop-at c = let room = rule_room _ _ _ _ _ c.in_ok-p.ensures in omega arith

pub loop-at-preserved : goal.loop-at-preserved
loop-at-preserved c = search (rules, reads)

pub returns : goal.returns
returns c = search (rules, reads)
