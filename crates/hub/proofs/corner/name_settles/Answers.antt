use Rattle.std.proofs.Common.{rules}
use Rattle.hub.proofs.corner.name_settles.Goals as goal
use Rattle.hub.proofs.Laws.Corner.{name_settled}

pub returns : goal.returns
returns c = name_settled c.args.c.now c.scan.result c.scan.ensures (search rules)
