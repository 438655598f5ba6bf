use Rattle.std.proofs.Common.{rules}
use Rattle.splices.proofs.places.parts_at.Goals as goal
use Rattle.grammar.specs.Laws.Found.{rooms}
use Rattle.splices.proofs.Laws.Places.{counted}

-- src/places.rt:76:9
pub alternative_head-head-requires-clause-bounds : goal.alternative_head-head-requires-clause-bounds
alternative_head-head-requires-clause-bounds c = search (rules, rooms, counted)

-- src/places.rt:71:1
pub returns : goal.returns
returns c = search (rules, rooms, counted)
