use Rattle.std.proofs.Common.{rules}
use Rattle.compose.proofs.body.write_body.Goals as goal
use Rattle.compose.proofs.Laws.Body.{bodies}

-- src/body.rt:64:5
pub write_planned-requires-clause-laid : goal.write_planned-requires-clause-laid
write_planned-requires-clause-laid c = search (rules, bodies)

-- src/body.rt:64:5
pub write_planned-requires-clause-fits : goal.write_planned-requires-clause-fits
write_planned-requires-clause-fits c =
    let fits = rw c.begin_rule.ensures.same_entries at c.requires.hub_fits in search (rules, bodies)

-- src/body.rt:48:1
pub returns-clause-drawn : goal.returns-clause-drawn
returns-clause-drawn c =
    let fits = rw c.begin_rule.ensures.same_entries at c.requires.hub_fits in
    rw c.begin_rule.ensures.same_entries (search (rules, bodies))
