use Rattle.std.proofs.Common.{rules}
use Rattle.plans.proofs.nth.decide_nth.Goals as goal
use Rattle.plans.proofs.Laws.Nth.{nths}

-- src/nth.rt:71:9
pub returns-then-n-nth : goal.returns-then-n-nth
returns-then-n-nth c =
    search (rules, nths)

-- src/nth.rt:78:9
pub plan_cycle-decision-requires-clause-cycle_known :
    goal.plan_cycle-decision-requires-clause-cycle_known
plan_cycle-decision-requires-clause-cycle_known c =
    let known = c.find_out-ground.ensures.facts_found in
    let kept = c.find_out-ground.ensures.kept_of in
    let cycles = c.list_cycles-n.ensures in
    search (rules, nths, known, kept, c.requires.bounds.0, cycles, c.args.g.now.standing)

-- src/nth.rt:49:1
pub returns : goal.returns
returns c =
    let known = c.find_out-ground.ensures.facts_found in
    let kept = c.find_out-ground.ensures.kept_of in
    let cycles = c.list_cycles-n.ensures in
    search (rules, nths, known, kept, c.requires.bounds.0, cycles)
