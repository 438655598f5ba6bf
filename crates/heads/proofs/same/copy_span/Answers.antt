use Rattle.std.proofs.Common.{rules}
use Rattle.heads.proofs.same.copy_span.Goals as goal
use Rattle.heads.proofs.Laws.Same.{spans}

-- src/same.rt:30:9
pub returns-then-e : goal.returns-then-e
returns-then-e c = search (rules, spans)
