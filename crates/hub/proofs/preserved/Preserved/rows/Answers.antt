use Rattle.std.proofs.Common.{rules}
use Rattle.hub.proofs.preserved.Preserved.rows.Goals as goal
use Rattle.hub.proofs.Laws.Preserved.{rows_of}

pub returns : goal.returns
returns c = rows_of c.collect.ensures (λ k b l p. search rules)
