use Rattle.std.proofs.Common.{rules}
use Rattle.reach.proofs.trim.all.Goals as goal
use Rattle.reach.proofs.Laws.Filled.{collected_all}

pub returns : goal.returns
returns c = collected_all c.collect.ensures (λ k b l p. search rules)
