use Rattle.std.proofs.Common.{rules}
use Rattle.heads.proofs.same.copy_same.Goals as goal
use Rattle.heads.proofs.Laws.Same.{sames}

-- src/same.rt:51:5
pub copy_span-requires : goal.copy_span-requires
copy_span-requires c = search (rules, sames)

-- src/same.rt:37:1
pub returns : goal.returns
returns c = search (rules, sames)
