use Rattle.std.proofs.Common.{rules}
use Rattle.written.proofs.list.write_list.Goals as goal
use Rattle.written.proofs.Laws.Listing.{listing}

pub loop-init : goal.loop-init
loop-init c = search (rules, listing)

pub write_one-requires-clause-readable : goal.write_one-requires-clause-readable
write_one-requires-clause-readable c = search (rules, listing)

pub loop-preserved : goal.loop-preserved
loop-preserved c = search (rules, listing)

pub returns-clause-drawn : goal.returns-clause-drawn
returns-clause-drawn c = search (rules, listing)
