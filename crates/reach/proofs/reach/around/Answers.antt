use Rattle.std.proofs.Common.{rules}
use Rattle.reach.proofs.reach.around.Goals as goal
use Rattle.reach.proofs.Laws.Filled.{collected_around}

pub returns : goal.returns
returns c = collected_around c.collect.ensures (λ k b l p. search rules) c.meet.ensures
