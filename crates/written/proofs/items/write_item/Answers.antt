use Rattle.std.proofs.Common.{rules}
use Rattle.written.proofs.items.write_item.Goals as goal
use Rattle.written.proofs.Laws.Items.{one}

pub copy_element-requires : goal.copy_element-requires
copy_element-requires c = search (rules, one)

pub copy_same-d-requires-clause-same_fits : goal.copy_same-d-requires-clause-same_fits
copy_same-d-requires-clause-same_fits c = search (rules, one)
