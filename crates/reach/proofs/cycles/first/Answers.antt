use Rattle.std.proofs.Common.{rules, arith}
use Rattle.std.proofs.lemmas.Iterator.{YieldsList-from_range}
use Rattle.reach.proofs.Laws.Given.{gives_next}
use Rattle.reach.proofs.Laws.Least.{is_next}
use Rattle.reach.proofs.cycles.first.Goals as goal

pub returns : goal.returns
returns c =
    let rows = YieldsList-from_range 0 c.args.n c.args.n c.filter.ensures.source (omega arith) in
    let next =
    is_next _ _ _ c.args.ids c.args.left c.args.n rows c.filter.ensures.closure c.min_by_key.result c.min_by_key.ensures.runs
    (λ x b q e. search rules) (λ a r q e. search rules) (λ x j q e. search rules) in
    (next, gives_next _ next)
