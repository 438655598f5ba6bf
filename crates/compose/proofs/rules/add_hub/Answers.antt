use Rattle.std.proofs.Common.{rules}
use Rattle.compose.proofs.rules.add_hub.Goals as goal
use Rattle.compose.proofs.Laws.Rules.{hub_left_in, hubs}

-- src/rules.rt:41:9
pub write_hub-requires-clause-bounds : goal.write_hub-requires-clause-bounds
write_hub-requires-clause-bounds c = search (rules, hubs)

-- src/rules.rt:41:9
pub write_hub-requires-clause-hub_fits : goal.write_hub-requires-clause-hub_fits
write_hub-requires-clause-hub_fits c = search (rules, hubs)

-- src/rules.rt:42:9
pub add_row-requires : goal.add_row-requires
add_row-requires c = search (rules, hubs)

-- src/rules.rt:19:1
pub returns : goal.returns
returns c =
    hub_left_in {work' = c.write_hub.new.d.out.now} {trail' = c.write_hub.new.d.trail.now} (search rules) (search rules) (search (rules, hubs))
