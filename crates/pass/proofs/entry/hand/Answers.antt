use Rattle.std.proofs.Common.{rules}
use Rattle.pass.proofs.entry.hand.Goals as goal
use Rattle.pass.proofs.Laws.Outcome.{outcomes}

pub returns-in-Err : goal.returns-in-Err
returns-in-Err c = let a = c.in-Err.ensures.answered.is in search (rules, outcomes)

pub returns-in-Ok : goal.returns-in-Ok
returns-in-Ok c = let a = c.in-Ok.ensures.answered.is in let b = c.in-Ok.ensures.are_bytes in search (rules, outcomes)
