use Rattle.std.proofs.Common.{rules}
use Rattle.reach.proofs.reach.loops.Goals as goal
use Rattle.reach.proofs.Laws.Filled.{collected_loops}

pub returns : goal.returns
returns c = collected_loops c.collect.ensures (λ k b l p. search rules)
