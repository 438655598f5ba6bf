use Rattle.std.proofs.Common.{rules}
use Rattle.compose.proofs.compose.compose.Goals as goal
use Rattle.compose.proofs.Laws.Compose.{composings}

-- src/compose.rt:41:9
pub compose_rules-requires-clause-new_rules_fit :
    goal.compose_rules-requires-clause-new_rules_fit
compose_rules-requires-clause-new_rules_fit c = search (rules, composings)

-- src/compose.rt:44:9
pub write_end-last-requires-clause-bounds : goal.write_end-last-requires-clause-bounds
write_end-last-requires-clause-bounds c = search (rules, composings)

-- src/compose.rt:44:9
pub write_end-last-requires-clause-end_bound : goal.write_end-last-requires-clause-end_bound
write_end-last-requires-clause-end_bound c = search (rules, composings)

-- src/compose.rt:48:14
pub overflow_sub-result : goal.overflow_sub-result
overflow_sub-result c = search (rules, composings)

-- src/compose.rt:24:1
pub returns : goal.returns
returns c = search (rules, composings)
