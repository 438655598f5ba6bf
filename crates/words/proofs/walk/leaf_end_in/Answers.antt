use Rattle.std.proofs.Common.{rules}
use Rattle.words.proofs.walk.leaf_end_in.Goals as goal
use Rattle.words.proofs.Laws.Heads.{kinds}

-- src/walk.rt:56:1
pub returns-in-Call : goal.returns-in-Call
returns-in-Call c = search (rules, kinds)

-- src/walk.rt:56:1
pub returns-in-Token : goal.returns-in-Token
returns-in-Token c = search (rules, kinds)

-- src/walk.rt:56:1
pub returns-in-Action : goal.returns-in-Action
returns-in-Action c = search (rules, kinds)

-- src/walk.rt:56:1
pub returns-in-Epsilon : goal.returns-in-Epsilon
returns-in-Epsilon c = search (rules, kinds)
