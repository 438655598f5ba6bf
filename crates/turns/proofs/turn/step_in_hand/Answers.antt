use Rattle.std.proofs.Common.{rules}
use Rattle.turns.specs.declared.turn.Unplanned.TheVariants.{Declined}
use Rattle.turns.proofs.turn.step_in_hand.Goals as goal
use Rattle.turns.proofs.Laws.Stepping.{decided_goable, stepping}
use Rattle.steps.proofs.Laws.Raised.{raised}

pub returns-in_err-z : goal.returns-in_err-z
returns-in_err-z c =
    let w = c.in_err-z.was in
    rw (raised (Declined c.in_err-z.field-0.0) c.from_residual.result c.from_residual.ensures.1) (search (rules, stepping))

pub advance-requires-clause-shut : goal.advance-requires-clause-shut
advance-requires-clause-shut c = search (rules, stepping)

pub advance-requires-clause-goable : goal.advance-requires-clause-goable
advance-requires-clause-goable c = let w = c.in_ok-z.was in search (rules, stepping, decided_goable)

pub returns : goal.returns
returns c = search (rules, stepping)
