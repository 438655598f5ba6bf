use Rattle.std.proofs.Common.{rules}
use Rattle.substitution.proofs.turning.stored.Goals as goal
use Rattle.substitution.proofs.Laws.Run.{running}
use Rattle.steps.proofs.Laws.Raised.{raised}

pub loop-work-preserved : goal.loop-work-preserved
loop-work-preserved c = let w = c.in_ok-st.was in search (rules, running)

pub returns-in_err-st : goal.returns-in_err-st
returns-in_err-st c =
    let w = c.in_err-st.was in
    rw (raised c.in_err-st.field-0.0 c.from_residual.result c.from_residual.ensures.1) (search (rules, running))

pub returns : goal.returns
returns c = search (rules, running)
