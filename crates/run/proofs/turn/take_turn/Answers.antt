use Rattle.std.proofs.Common.{rules, refl, ap, ◌∙◌, Ok}
use Rattle.std.proofs.lemmas.Result.{err_from_is_err_and}
use Rattle.run.proofs.turn.take_turn.Goals as goal
use Rattle.run.proofs.Laws.Known.{midst_room, midst_known}
use Rattle.run.proofs.Laws.Turned.{turnings, turn_none, turn_large, turn_advancing, turn_planned, turn_refused}

pub invariant_of-s : goal.invariant_of-s
invariant_of-s c = record { room = midst_room c.requires.going.midst }

pub invariant_of-g : goal.invariant_of-g
invariant_of-g c = record { standing = (midst_known c.requires.going.midst).known.standing }

pub find_plan-found-requires-clause-bounds : goal.find_plan-found-requires-clause-bounds
find_plan-found-requires-clause-bounds c = search (rules, turnings, turn_advancing)

pub find_plan-found-requires-clause-rules_known : goal.find_plan-found-requires-clause-rules_known
find_plan-found-requires-clause-rules_known c = search (rules, turnings)

pub advance-requires-clause-advancing : goal.advance-requires-clause-advancing
advance-requires-clause-advancing c = search (rules, turnings, turn_advancing)

pub returns-in_err-f-clause-turned_of : goal.returns-in_err-f-clause-turned_of
returns-in_err-f-clause-turned_of c =
    let p = err_from_is_err_and c.from_residual.result c.from_residual.ensures.1 in
    rw (p.1, p.2) (turn_large c.find_plan-found.ensures c.in_err-f.was)

pub returns-in_default-clause-turned_of : goal.returns-in_default-clause-turned_of
returns-in_default-clause-turned_of c = turn_none c.find_plan-found.ensures (c.in_ok-f.was ∙ ap Ok c.in_default.is)

pub returns-in_err-next-clause-turned_of : goal.returns-in_err-next-clause-turned_of
returns-in_err-next-clause-turned_of c =
    let p = err_from_is_err_and c.from_residual-in_err-next.result c.from_residual-in_err-next.ensures.1 in
    rw (p.1, p.2) (turn_refused c.find_plan-found.ensures (c.in_ok-f.was ∙ ap Ok c.in-Some.is) refl c.in_err-next.ensures.advanced_of)

pub returns-clause-turned_of : goal.returns-clause-turned_of
returns-clause-turned_of c = turn_planned c.find_plan-found.ensures (c.in_ok-f.was ∙ ap Ok c.in-Some.is) refl c.in_ok-next.ensures.advanced_of
