use Rattle.std.proofs.Common.{rules}
use Rattle.rewritable.proofs.judge.judge_alternative.Goals as goal
use Rattle.rewritable.proofs.judge.judge_alternative.Goals.{then-recursive, else-recursive}
use Rattle.rewritable.proofs.Laws.Judged.{verdict_no, verdict_recursive, verdict_primary}

pub returns-then-not-may_be_rewritten : goal.returns-then-not-may_be_rewritten
returns-then-not-may_be_rewritten c = search (rules, verdict_no)

pub returns : goal.returns
returns c =
    elim c.if-recursive.branch [
      | then-recursive w ↦ search (rules, verdict_recursive)
      | else-recursive w ↦ search (rules, verdict_primary)
    ]
