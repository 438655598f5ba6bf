use Rattle.std.proofs.lemmas.Result.{err_from_is_err_and}
use Rattle.sheet.proofs.answer.judged.Goals as goal
use Rattle.sheet.proofs.Laws.Answer.{ids_refused, sheet_read}

pub returns-in_err-judge : goal.returns-in_err-judge
returns-in_err-judge c =
    let p = err_from_is_err_and c.from_residual.result c.from_residual.ensures.1 in
    rw (p.1, p.2) (ids_refused _ c.requires.lent.1 c.counters-counters.ensures c.in_err-judge.ensures)

pub returns : goal.returns
returns c = sheet_read _ c.requires.lent.1 c.counters-counters.ensures c.in_ok-judge.ensures c.requires.kind_is c.count.ensures
