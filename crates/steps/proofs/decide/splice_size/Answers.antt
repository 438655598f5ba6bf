use Rattle.std.proofs.Common.{rules}
use Rattle.steps.proofs.decide.splice_size.Goals as goal
use Rattle.grammar.specs.Laws.Fold.{bodies}
use Rattle.steps.proofs.Laws.Sizing.{sizing}
use Rattle.steps.proofs.Laws.Raised.{raised}

pub loop-init : goal.loop-init
loop-init c = search (rules, bodies, sizing)

pub splice_one-requires-clause-found_alternative : goal.splice_one-requires-clause-found_alternative
splice_one-requires-clause-found_alternative c = search (rules, bodies, sizing)

pub returns-in_err-more : goal.returns-in_err-more
returns-in_err-more c =
    let w = c.in_err-more.was in
    rw (raised c.in_err-more.field-0.0 c.from_residual.result c.from_residual.ensures.1) (search (rules, bodies, sizing))

pub count_one-z-requires-clause-bounds : goal.count_one-z-requires-clause-bounds
count_one-z-requires-clause-bounds c = let w = c.in_ok-more.was in search (rules, bodies, sizing)

pub count_one-z-requires-clause-found_alternative : goal.count_one-z-requires-clause-found_alternative
count_one-z-requires-clause-found_alternative c = search (rules, bodies, sizing)

pub alternative_end-p-requires : goal.alternative_end-p-requires
alternative_end-p-requires c = search (rules, bodies, sizing)

pub loop-preserved : goal.loop-preserved
loop-preserved c = let w = c.in_ok-more.was in search (rules, bodies, sizing)

pub returns : goal.returns
returns c = search (rules, bodies, sizing)
