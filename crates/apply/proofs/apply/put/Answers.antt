use Rattle.std.proofs.Common.{rules}
use Rattle.apply.proofs.apply.put.Goals as goal
use Rattle.apply.proofs.Laws.Done.{applicables, applyings}

-- src/apply.rt:98:9
pub compose-k-requires-clause-applies : goal.compose-k-requires-clause-applies
compose-k-requires-clause-applies c = search (rules, applyings, applicables)

-- src/apply.rt:107:13
pub overflow_add-result : goal.overflow_add-result
overflow_add-result c = search (rules, applyings, applicables)

-- src/apply.rt:68:1
pub returns-clause-applied_of : goal.returns-clause-applied_of
returns-clause-applied_of c = search (rules, applyings, applicables)
