use Rattle.std.proofs.Common.{rules}
use Rattle.splices.proofs.splice.put_elements.Goals as goal
use Rattle.splices.proofs.Laws.SpliceElements.{elements_put}

-- src/splice.rt:23:1
pub returns : goal.returns
returns c = search (rules, elements_put)
