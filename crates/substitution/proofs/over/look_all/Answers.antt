use Rattle.std.proofs.Common.{rules}
use Rattle.substitution.proofs.over.look_all.Goals as goal
use Rattle.substitution.proofs.Laws.Looking.{looking, looking_found}
use Rattle.steps.proofs.Laws.Raised.{raised}

pub loop-init : goal.loop-init
loop-init c = search (rules, looking, looking_found)

pub look_at-requires-clause-found_alternative :
    goal.look_at-requires-clause-found_alternative
look_at-requires-clause-found_alternative c = search (rules, looking, looking_found)

pub returns-in_err-look_at : goal.returns-in_err-look_at
returns-in_err-look_at c =
    let w = c.in_err-look_at.was in
    rw (raised c.in_err-look_at.field-0.0 c.from_residual.result c.from_residual.ensures.1) (search (rules, looking, looking_found))

pub alternative_end-p-requires :
    goal.alternative_end-p-requires
alternative_end-p-requires c = search (rules, looking, looking_found)

pub loop-preserved : goal.loop-preserved
loop-preserved c = let w = c.in_ok-look_at.was in search (rules, looking, looking_found)

pub returns : goal.returns
returns c = search (rules, looking, looking_found)
