use Rattle.std.proofs.Common.{rules}
use Rattle.written.proofs.items.write_items.Goals as goal
use Rattle.written.proofs.Laws.Items.{items}

pub write_item-requires : goal.write_item-requires
write_item-requires c = search (rules, items)

pub loop-i-preserved : goal.loop-i-preserved
loop-i-preserved c = search (rules, items)

pub returns-clause-drawn : goal.returns-clause-drawn
returns-clause-drawn c = search (rules, items)
