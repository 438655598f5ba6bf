use Rattle.std.proofs.Common.{rules}
use Rattle.planned.proofs.read.item.Goals as goal
use Rattle.planned.specs.Laws.Items.{item_read}

-- src/read.rt:12:1
pub returns : goal.returns
returns c = search (rules, item_read)
