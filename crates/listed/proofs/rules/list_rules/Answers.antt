use Rattle.std.proofs.Common.{rules}
use Rattle.listed.proofs.rules.list_rules.Goals as goal
use Rattle.listed.proofs.Laws.Rules.{ruled}

pub returns-clause-put : goal.returns-clause-put
returns-clause-put c = search (rules, ruled)
