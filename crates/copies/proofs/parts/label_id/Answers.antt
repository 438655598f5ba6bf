use Rattle.std.proofs.Common.{rules}
use Rattle.copies.proofs.parts.label_id.Goals as goal
use Rattle.copies.proofs.Laws.Heads.{headings}

-- src/parts.rt:36:9
pub returns-then-word-eq0 : goal.returns-then-word-eq0
returns-then-word-eq0 c = search (rules, headings)

-- src/parts.rt:31:1
pub returns : goal.returns
returns c = search (rules, headings)
