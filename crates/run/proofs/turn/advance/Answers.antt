use Rattle.std.proofs.Common.{rules}
use Rattle.std.proofs.lemmas.Result.{err_from_is_err_and}
use Rattle.run.proofs.turn.advance.Goals as goal
use Rattle.run.proofs.Laws.More.{advances}

-- src/turn.rt:100:9
pub apply-requires-clause-buffers : goal.apply-requires-clause-buffers
apply-requires-clause-buffers c = search (rules, advances)

-- src/turn.rt:100:9
pub apply-requires-clause-applicable : goal.apply-requires-clause-applicable
apply-requires-clause-applicable c = search (rules, advances)

pub returns-in_err-a-clause-advanced_of : goal.returns-in_err-a-clause-advanced_of
returns-in_err-a-clause-advanced_of c =
    let p = err_from_is_err_and c.from_residual.result c.from_residual.ensures.1 in
    rw (p.1, p.2) (search (rules, advances, c.in_err-a.ensures.applied_of))

-- src/turn.rt:110:9
pub bring_up-requires-clause-bounds : goal.bring_up-requires-clause-bounds
bring_up-requires-clause-bounds c = search (rules, advances, c.in_ok-a.ensures.applied_of)

-- src/turn.rt:110:9
pub bring_up-requires-clause-plans_bound : goal.bring_up-requires-clause-plans_bound
bring_up-requires-clause-plans_bound c = search (rules, advances, c.in_ok-a.ensures.applied_of)

-- src/turn.rt:110:9
pub bring_up-requires-clause-renewable : goal.bring_up-requires-clause-renewable
bring_up-requires-clause-renewable c = search (rules, advances, c.in_ok-a.ensures.applied_of)

-- src/turn.rt:77:1
pub returns-clause-advanced_of : goal.returns-clause-advanced_of
returns-clause-advanced_of c = search (rules, advances, c.in_ok-a.ensures.applied_of)
