use Rattle.std.proofs.Common.{rules}
use Rattle.hub.proofs.inlinable.all_inlinable.Goals as goal
use Rattle.hub.proofs.Laws.Inlinable.{inlined}

-- src/inlinable.rt:8:1
pub returns : goal.returns
returns c = search (rules, inlined)
