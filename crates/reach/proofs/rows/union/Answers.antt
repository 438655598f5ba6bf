use Rattle.reach.proofs.rows.union.Goals as goal
use Rattle.reach.proofs.Laws.Rows.{or_row}

-- src/rows.rt:40:1
pub returns : goal.returns
returns c = or_row c.args.a c.args.b
