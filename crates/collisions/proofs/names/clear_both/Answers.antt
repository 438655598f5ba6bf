use Rattle.std.proofs.Common.{rules}
use Rattle.collisions.proofs.names.clear_both.Goals as goal
use Rattle.collisions.proofs.Laws.Names.{cleared}

-- src/names.rt:236:1
pub returns : goal.returns
returns c = search (rules, cleared)
