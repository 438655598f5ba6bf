use Rattle.std.proofs.Common.{rules}
use Rattle.sheet.proofs.judge.judge.Goals as goal
use Rattle.sheet.proofs.Laws.Judge.{verdicts}

pub returns-then-not-rows_are_distinct : goal.returns-then-not-rows_are_distinct
returns-then-not-rows_are_distinct c = search (rules, verdicts)

pub returns-then-not-bodies_are_distinct : goal.returns-then-not-bodies_are_distinct
returns-then-not-bodies_are_distinct c = search (rules, verdicts)

pub returns-then-not-bodies_are_below : goal.returns-then-not-bodies_are_below
returns-then-not-bodies_are_below c = search (rules, verdicts)

pub returns : goal.returns
returns c = search (rules, verdicts)
