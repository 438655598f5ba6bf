use Rattle.std.proofs.Common.{rules}
use Rattle.steps.proofs.decide.splice_one.Goals as goal
use Rattle.steps.proofs.Laws.Decide.{ones}

pub returns-in_err-collision : goal.returns-in_err-collision
returns-in_err-collision c = search (rules, ones)

pub returns : goal.returns
returns c = search (rules, ones)
