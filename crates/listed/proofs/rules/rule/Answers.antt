use Rattle.std.proofs.Common.{rules}
use Rattle.listed.proofs.rules.rule.Goals as goal
use Rattle.grammar.specs.Laws.Fold.{bodies}
use Rattle.listed.proofs.Laws.Rules.{ruled}

pub walk_alternatives-requires-clause-found_alternatives :
    goal.walk_alternatives-requires-clause-found_alternatives
walk_alternatives-requires-clause-found_alternatives c = search (rules, bodies, ruled)

pub returns-clause-listed : goal.returns-clause-listed
returns-clause-listed c = search (rules, bodies, ruled)
