use Rattle.std.proofs.Common.{rules}
use Rattle.substitution.proofs.turning.run.Goals as goal
use Rattle.substitution.proofs.Laws.Begin.{begun_ready, begun_going, beginning}
use Rattle.substitution.proofs.Laws.Looking.{unstored}

-- src/turning.rt:110:9
pub hub_size-z-requires-clause-found_rule : goal.hub_size-z-requires-clause-found_rule
hub_size-z-requires-clause-found_rule c = search (rules, beginning, unstored, begun_ready, begun_going)

-- src/turning.rt:112:13
pub begin-st-requires : goal.begin-st-requires
begin-st-requires c = search (rules, beginning, unstored, begun_ready, begun_going)

-- src/turning.rt:113:9
pub stored-requires-clause-shut : goal.stored-requires-clause-shut
stored-requires-clause-shut c =
    let z = rw c.most.ensures at c.is_within.ensures in
    begun_ready c.args.task.now.stand c.hub-at.ensures c.args.task.now.limits c.requires.bounds c.hub_size-z.ensures z (search rules)
    c.begin-st.ensures (search rules)

-- src/turning.rt:113:9
pub stored-requires-clause-going : goal.stored-requires-clause-going
stored-requires-clause-going c =
    let z = rw c.most.ensures at c.is_within.ensures in search (rules, beginning, unstored, begun_ready, begun_going)

pub returns : goal.returns
returns c = let z = rw c.most.ensures at c.is_within.ensures in search (rules, unstored)
