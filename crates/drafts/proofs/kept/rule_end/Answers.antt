use Rattle.std.proofs.Common.{rules}
use Rattle.drafts.proofs.kept.rule_end.Goals as goal
use Rattle.drafts.specs.Laws.Kept.{ends}

-- src/kept.rt:23:9
pub returns-then-i-n : goal.returns-then-i-n
returns-then-i-n c = search (rules, ends)

-- src/kept.rt:18:1
pub returns : goal.returns
returns c = search (rules, ends)
