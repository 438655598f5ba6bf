use Rattle.std.proofs.Common.{rules}
use Rattle.rewritable.proofs.items.starts_with_call.Goals as goal
use Rattle.rewritable.proofs.Laws.Listed.{starts}

pub returns-then-a-ne0 : goal.returns-then-a-ne0
returns-then-a-ne0 c = search (rules, starts)

pub returns-else-a-ne0 : goal.returns-else-a-ne0
returns-else-a-ne0 c = search (rules, starts)
