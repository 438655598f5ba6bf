use Rattle.std.proofs.Common.{rules}
use Rattle.listed.proofs.rules.rules.Goals as goal
use Rattle.listed.proofs.Laws.Rules.{steps, listing_room}

pub rule-p-requires-clause-bounds : goal.rule-p-requires-clause-bounds
rule-p-requires-clause-bounds c = search (rules, steps, listing_room)

pub rule-p-requires-clause-found_rule : goal.rule-p-requires-clause-found_rule
rule-p-requires-clause-found_rule c = search (rules, steps)

pub loop-preserved : goal.loop-preserved
loop-preserved c = search (rules, steps, listing_room)

pub returns-clause-listed : goal.returns-clause-listed
returns-clause-listed c = search (rules, steps)
