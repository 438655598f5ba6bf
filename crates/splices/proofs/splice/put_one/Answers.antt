use Rattle.std.proofs.Common.{rules}
use Rattle.splices.proofs.splice.put_one.Goals as goal
use Rattle.splices.proofs.Laws.SpliceOne.{one_spliced}

-- src/splice.rt:91:1
pub returns-clause-one_put : goal.returns-clause-one_put
returns-clause-one_put c = search (rules, one_spliced)
