use Rattle.std.proofs.Common.{rules}
use Rattle.reach.proofs.cycles.next_cycle.Goals as goal
use Rattle.reach.proofs.Laws.Ahead.{coming}

pub returns-in_err-i : goal.returns-in_err-i
returns-in_err-i c = search (rules, coming)

pub returns : goal.returns
returns c = search (rules, coming)
