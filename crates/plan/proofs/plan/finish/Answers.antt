use Rattle.std.proofs.Common.{rules}
use Rattle.plan.proofs.plan.finish.Goals as goal
use Rattle.plan.proofs.Laws.Last.{lasts, last_plan}

-- src/plan.rt:80:9
pub returns-in_default : goal.returns-in_default
returns-in_default c = search (rules, lasts, last_plan)

-- src/plan.rt:53:1
pub returns : goal.returns
returns c = search (rules, lasts, last_plan)
