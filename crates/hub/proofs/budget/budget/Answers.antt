use Rattle.std.proofs.Common.{rules}
use Rattle.hub.proofs.budget.budget.Goals as goal
use Rattle.hub.proofs.Laws.Budget.{budget_is}

pub returns : goal.returns
returns c = budget_is c.alternatives-n.ensures (search rules)
