use Rattle.std.proofs.Common.{rules}
use Rattle.turns.proofs.turn.push.Goals as goal
use Rattle.turns.proofs.Laws.Pushing.{pushing}
use Rattle.steps.proofs.Laws.Step.{is_splice}

pub push_splice-requires-clause-spliceable : goal.push_splice-requires-clause-spliceable
push_splice-requires-clause-spliceable c = search (rules, pushing, is_splice)

pub returns-in-Splice : goal.returns-in-Splice
returns-in-Splice c = search (rules, pushing, is_splice)
