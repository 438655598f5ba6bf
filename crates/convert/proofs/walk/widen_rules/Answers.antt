use Rattle.convert.proofs.walk.widen_rules.Goals as goal
use Rattle.convert.proofs.Laws.Widening.{widening_done, widening_found, widening_more}

pub widen_rule-p-requires-clause-found_rule : goal.widen_rule-p-requires-clause-found_rule
widen_rule-p-requires-clause-found_rule c = widening_found c.loop.invariant c.loop-test.true

pub loop-preserved : goal.loop-preserved
loop-preserved c = widening_more c.loop.invariant c.loop-test.true c.widen_rule-p.ensures

pub returns : goal.returns
returns c = widening_done c.loop.invariant c.loop-test.false
