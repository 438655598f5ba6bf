use Rattle.std.proofs.Common.{rules}
use Rattle.facts.proofs.tell.Goals as goal
use Rattle.facts.proofs.Laws.Told.{rows_told}

-- src/lib.rt:29:1
pub returns-clause-rules_told : goal.returns-clause-rules_told
returns-clause-rules_told c = search (rules, rows_told)
