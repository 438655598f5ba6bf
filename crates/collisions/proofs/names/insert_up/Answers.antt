use Rattle.std.proofs.Common.{rules}
use Rattle.collisions.proofs.names.insert_up.Goals as goal
use Rattle.collisions.proofs.Laws.Insert.{raised}

pub returns : goal.returns
returns c = let m = raised c.move_halves.ensures in search rules
