use Rattle.std.proofs.Common.{rules}
use Rattle.words.proofs.walk.alternative_head_in.Goals as goal
use Rattle.grammar.specs.Laws.Found.{heads}

-- src/walk.rt:43:1
pub returns : goal.returns
returns c = search (rules, heads)
