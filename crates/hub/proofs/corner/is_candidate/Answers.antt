use Rattle.std.proofs.Common.{rules}
use Rattle.hub.proofs.corner.is_candidate.Goals as goal
use Rattle.grammar.specs.Laws.Fold.{bodies}
use Rattle.hub.proofs.Laws.Able.{judging}

pub any_settled-requires-clause-found_alternatives : goal.any_settled-requires-clause-found_alternatives
any_settled-requires-clause-found_alternatives c = search (rules, bodies)

pub returns-then-has : goal.returns-then-has
returns-then-has c = search (rules, judging)
