use Rattle.std.proofs.Common.{rules, sym, ap, ◌≡◌, ◌∙◌, Some, None, Ok}
use Rattle.plan.proofs.plan.make.Goals as goal
use Rattle.turns.proofs.Laws.Stand.{places_long}
use Rattle.plan.proofs.Laws.Made.{ground_named, hub_standing, made_laid, made_listed, made_idle, made_planned, made_unplanned}
use Rattle.steps.proofs.Laws.Raised.{raised}

pub substitute-requires-clause-bounds : goal.substitute-requires-clause-bounds
substitute-requires-clause-bounds c = (c.requires.hub_known.known.known.small, search rules)

pub substitute-requires-clause-ground : goal.substitute-requires-clause-ground
substitute-requires-clause-ground c = ground_named c.requires.hub_known c.names.ensures.0 c.names.ensures.1

pub returns-in_err-done : goal.returns-in_err-done
returns-in_err-done c =
    let w = c.in_err-done.was in
    rw (raised c.in_err-done.field-0.0 c.from_residual.result c.from_residual.ensures.1) (made_unplanned c.names.ensures.0 c.names.ensures.1 c.budget-most.ensures c.substitute.ensures w)

pub returns-in_default : goal.returns-in_default
returns-in_default c =
    let w : c.substitute.result ≡ Ok None = c.in_ok-done.was ∙ ap Ok c.in_default.is in
    made_idle c.names.ensures.0 c.names.ensures.1 c.budget-most.ensures c.substitute.ensures w

pub finish-requires-clause-laid : goal.finish-requires-clause-laid
finish-requires-clause-laid c =
    let w : c.substitute.result ≡ Ok (Some c.in-Some.done) = c.in_ok-done.was ∙ ap Ok c.in-Some.is in
    let known = c.requires.hub_known in
    (made_laid c.names.ensures.0 c.names.ensures.1 c.budget-most.ensures c.substitute.ensures w known, made_listed c.names.ensures.0 c.names.ensures.1 c.budget-most.ensures c.substitute.ensures w known)

pub returns : goal.returns
returns c =
    let w : c.substitute.result ≡ Ok (Some c.in-Some.done) = c.in_ok-done.was ∙ ap Ok c.in-Some.is in
    made_planned c.names.ensures.0 c.names.ensures.1 c.budget-most.ensures c.substitute.ensures w c.finish.ensures

pub slice_bounds-substitute-end : goal.slice_bounds-substitute-end
slice_bounds-substitute-end c = sym (places_long (hub_standing c.requires.hub_known))
