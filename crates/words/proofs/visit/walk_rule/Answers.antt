use Rattle.std.proofs.Common.{rules}
use Rattle.grammar.specs.Laws.Fold.{bodies}
use Rattle.words.proofs.visit.walk_rule.Goals as goal

pub walk_alternatives-requires-clause-found_alternatives : goal.walk_alternatives-requires-clause-found_alternatives
walk_alternatives-requires-clause-found_alternatives g c = search (rules, bodies)

pub returns : goal.returns
returns g c = search (rules, bodies)
