use Rattle.reach.proofs.rows.minus.Goals as goal
use Rattle.reach.proofs.Laws.Rows.{minus_row}

-- src/rows.rt:53:1
pub returns : goal.returns
returns c = minus_row c.args.a c.args.b
