use Rattle.std.proofs.Common.{rules}
use Rattle.splices.proofs.places.option_count.Goals as goal
use Rattle.splices.proofs.Laws.Places.{counted}

-- src/places.rt:54:1
pub returns : goal.returns
returns c = search (rules, counted)
