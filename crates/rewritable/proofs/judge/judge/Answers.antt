use Rattle.std.proofs.Common.{rules}
use Rattle.rewritable.proofs.judge.judge.Goals as goal
use Rattle.rewritable.proofs.Laws.Standing.{judged}

pub invariant_of-v : goal.invariant_of-v
invariant_of-v c = record { few = c.names.ensures.2; tabled = rw c.names.ensures.0 (search (rules, judged)) }

pub returns : goal.returns
returns c = let o = rw c.names.ensures.0 at c.judge_list.ensures in search (rules, judged)
