use Rattle.std.proofs.Common.{rules}
use Rattle.plan.proofs.plan.plan_cycle.Goals as goal
use Rattle.plan.proofs.Laws.With.{cycles}

pub returns-in_default : goal.returns-in_default
returns-in_default c = search (rules, cycles)

pub with_hub-requires-clause-inside : goal.with_hub-requires-clause-inside
with_hub-requires-clause-inside c = search (rules, cycles)

pub returns : goal.returns
returns c = search (rules, cycles)
