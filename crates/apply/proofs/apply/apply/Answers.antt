use Rattle.std.proofs.Common.{rules}
use Rattle.std.proofs.lemmas.Result.{err_from_is_err_and}
use Rattle.apply.proofs.apply.apply.Goals as goal
use Rattle.apply.proofs.Laws.Done.{applicables, judged_refused, judged_none, judged_few}
use Rattle.apply.proofs.Laws.Sizes.{entries_after}

-- src/apply.rt:133:5
pub returns-in_err-judge-clause-applied_of : goal.returns-in_err-judge-clause-applied_of
returns-in_err-judge-clause-applied_of c =
    let p = err_from_is_err_and c.from_residual.result c.from_residual.ensures.1 in
    rw (p.1, p.2) (search (rules, judged_refused, c.in_err-judge.ensures))

-- src/apply.rt:135:8
pub put-requires-clause-buffers : goal.put-requires-clause-buffers
put-requires-clause-buffers c = search (rules, applicables, judged_few, c.in_ok-judge.ensures)

-- src/apply.rt:135:8
pub put-requires-clause-applicable : goal.put-requires-clause-applicable
put-requires-clause-applicable c = search (rules, judged_none, c.in_ok-judge.ensures)

-- src/apply.rt:135:8
pub put-requires-clause-words_after : goal.put-requires-clause-words_after
put-requires-clause-words_after c = search (rules, applicables, entries_after)
