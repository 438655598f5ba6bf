use Rattle.std.proofs.Common.{rules}
use Rattle.rewritable.proofs.items.may_be_rewritten.Goals as goal
use Rattle.rewritable.proofs.Laws.Listed.{test_more, testing}

-- src/items.rt:88:5
pub loop-i-init : goal.loop-i-init
loop-i-init c = search (rules, testing, test_more)

-- src/items.rt:91:13
pub returns-then-gives_arguments : goal.returns-then-gives_arguments
returns-then-gives_arguments c = search (rules, testing, test_more)

-- src/items.rt:88:5
pub loop-i-preserved : goal.loop-i-preserved
loop-i-preserved c = search (rules, testing, test_more)

-- src/items.rt:81:1
pub returns : goal.returns
returns c = search (rules, testing, test_more)
