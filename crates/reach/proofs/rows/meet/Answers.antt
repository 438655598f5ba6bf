use Rattle.reach.proofs.rows.meet.Goals as goal
use Rattle.reach.proofs.Laws.Rows.{and_row}

-- src/rows.rt:46:1
pub returns : goal.returns
returns c = and_row c.args.a c.args.b
