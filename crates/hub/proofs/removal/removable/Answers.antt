use Rattle.std.proofs.Common.{rules}
use Rattle.hub.proofs.removal.removable.Goals as goal
use Rattle.hub.proofs.Laws.Removal.{removed}

-- src/removal.rt:33:1
pub returns : goal.returns
returns c = search (rules, removed)
