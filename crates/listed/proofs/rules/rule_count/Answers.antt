use Rattle.std.proofs.Common.{rules}
use Rattle.listed.proofs.rules.rule_count.Goals as goal
use Rattle.listed.proofs.Laws.Rules.{ruled}

pub unwrap-rules-requires : goal.unwrap-rules-requires
unwrap-rules-requires c = search (rules, ruled)

pub returns : goal.returns
returns c = search (rules, ruled)
