use Rattle.std.proofs.Common.{rules}
use Rattle.steps.proofs.step.decide.Goals as goal
use Rattle.planned.specs.Laws.Same.{sames}
use Rattle.steps.proofs.Laws.Step.{steps}
use Rattle.steps.proofs.Laws.Raised.{raised}

pub returns-in_err-quiet : goal.returns-in_err-quiet
returns-in_err-quiet c =
    let w = c.in_err-quiet.was in
    rw (raised c.in_err-quiet.field-0.0 c.from_residual.result c.from_residual.ensures.1) (search (rules, sames, steps))

pub splice_size-requires-clause-searchable : goal.splice_size-requires-clause-searchable
splice_size-requires-clause-searchable c = let w = c.in_ok-quiet.was in search (rules, sames, steps)

pub returns-in-Split : goal.returns-in-Split
returns-in-Split c = let w = c.in_ok-quiet.was in search (rules, sames, steps)

pub returns-in-Splice : goal.returns-in-Splice
returns-in-Splice c = let w = c.in_ok-quiet.was in search (rules, sames, steps)
