use Rattle.std.proofs.Common.{rules, ap, ◌≡◌, ◌∙◌, Err}
use Rattle.reference.specs.Substitute.{clause_number}
use Rattle.steps.specs.Decide.{clause_of}
use Rattle.turns.specs.declared.turn.Unplanned.TheVariants.{Declined, Overfull}
use Rattle.plan.proofs.search.try_cycles.Goals as goal
use Rattle.plan.proofs.Laws.Search.{trying, cycle_known, try_full, try_done, try_overfull}

pub loop-k-init : goal.loop-k-init
loop-k-init c = search (rules, trying)

pub returns-in_default : goal.returns-in_default
returns-in_default c = search (rules, try_done)

pub plan_cycle-requires-clause-cycle_known : goal.plan_cycle-requires-clause-cycle_known
plan_cycle-requires-clause-cycle_known c = search (rules, trying, cycle_known)

pub loop-k-preserved : goal.loop-k-preserved
loop-k-preserved c =
    let w : c.plan_cycle.result ≡ Err (Declined c.in-Err-Declined.clause) = c.in-Err-Declined.is ∙ ap Err c.in-Err-Declined.field-0-is in
    let n : c.from.result ≡ clause_number (clause_of c.in-Err-Declined.clause) = c.from.ensures ∙ ap (λ x. clause_number (clause_of x)) c.in-Err-Declined.clause-is in
    search (rules, trying)

pub returns-in-Ok : goal.returns-in-Ok
returns-in-Ok c = search (rules, trying)

pub returns-in-Err-Overfull : goal.returns-in-Err-Overfull
returns-in-Err-Overfull c =
    let w : c.plan_cycle.result ≡ Err Overfull = c.in-Err-Overfull.is ∙ ap Err c.in-Err-Overfull.field-0-is in
    try_overfull c.loop-k.invariant.1 c.next_cycle.ensures c.in-Some.is c.plan_cycle.ensures w c.ended-in-Err-Overfull.ensures

pub returns : goal.returns
returns c = search (rules, try_full)
