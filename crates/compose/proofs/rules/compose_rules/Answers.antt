use Rattle.std.proofs.Common.{rules}
use Rattle.compose.proofs.rules.compose_rules.Goals as goal
use Rattle.compose.proofs.Laws.Rules.{front_open, last_open, last_fits, all_added, fronts}

-- src/rules.rt:69:9
pub copy_rules-requires-clause-fact : goal.copy_rules-requires-clause-fact
copy_rules-requires-clause-fact c = search (rules, fronts, front_open, last_open, last_fits, all_added)

-- src/rules.rt:70:9
pub add_hub-requires-clause-fact : goal.add_hub-requires-clause-fact
add_hub-requires-clause-fact c = search (rules, fronts, front_open)

-- src/rules.rt:70:9
pub add_hub-requires-clause-laid : goal.add_hub-requires-clause-laid
add_hub-requires-clause-laid c = search (rules, fronts, front_open)

-- src/rules.rt:70:9
pub add_hub-requires-clause-new_hub_fits : goal.add_hub-requires-clause-new_hub_fits
add_hub-requires-clause-new_hub_fits c = search (rules, fronts, front_open, last_open, last_fits, all_added)

-- src/rules.rt:71:5
pub copy_rules-requires-2-clause-fact : goal.copy_rules-requires-2-clause-fact
copy_rules-requires-2-clause-fact c = (
  search (rules, fronts, front_open, last_open),
  search (rules, fronts, front_open, last_open),
  last_fits c.requires.new_rules_fit c.requires.inside c.requires.fact.0 c.requires.laid.0 c.copy_rules.ensures c.add_hub.ensures,
)

-- src/rules.rt:50:1
pub returns : goal.returns
returns c = search (rules, fronts, front_open, all_added)
