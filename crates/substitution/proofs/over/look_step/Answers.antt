use Rattle.std.proofs.Common.{rules}
use Rattle.substitution.proofs.over.look_step.Goals as goal
use Rattle.substitution.proofs.Laws.Over.{reaching, stepping}

pub call-k-requires : goal.call-k-requires
call-k-requires c = search (rules, reaching, stepping)

pub decide-requires-clause-found_rule : goal.decide-requires-clause-found_rule
decide-requires-clause-found_rule c = rw c.call-k.ensures (search (rules, reaching, stepping))

pub decide-requires-clause-rule_unreferring :
    goal.decide-requires-clause-rule_unreferring
decide-requires-clause-rule_unreferring c = rw c.call-k.ensures (search (rules, reaching, stepping))

pub returns-in-Ok : goal.returns-in-Ok
returns-in-Ok c = let d = rw c.call-k.ensures at c.decide.ensures in search (rules, reaching, stepping)

pub returns-in-Err : goal.returns-in-Err
returns-in-Err c = let d = rw c.call-k.ensures at c.decide.ensures in search (rules, reaching, stepping)
