use Rattle.std.proofs.Common.{rules}
use Rattle.plan.proofs.plan.with_hub.Goals as goal
use Rattle.analysis.proofs.Laws.Standing.{standing}
use Rattle.plan.proofs.Laws.With.{hubs}

-- src/plan.rt:157:8
pub takes_arguments-requires-clause-bounds : goal.takes_arguments-requires-clause-bounds
takes_arguments-requires-clause-bounds c = search (rules, hubs, standing)

-- src/plan.rt:157:8
pub takes_arguments-requires-clause-found_rule : goal.takes_arguments-requires-clause-found_rule
takes_arguments-requires-clause-found_rule c = search (rules, hubs, standing)

-- src/plan.rt:158:9
pub returns-then-takes_arguments : goal.returns-then-takes_arguments
returns-then-takes_arguments c = search (rules, hubs, standing)

-- src/plan.rt:162:9
pub returns-then-not-all_inlinable : goal.returns-then-not-all_inlinable
returns-then-not-all_inlinable c = search (rules, hubs, standing)

-- src/plan.rt:164:5
pub make-requires-clause-hub_known : goal.make-requires-clause-hub_known
make-requires-clause-hub_known c = search (rules, hubs, standing)

-- src/plan.rt:137:1
pub returns : goal.returns
returns c = search (rules, hubs, standing)
