use Rattle.std.proofs.Common.{rules}
use Rattle.splices.proofs.splice.put_all.Goals as goal
use Rattle.splices.proofs.Laws.SpliceAll.{splicing}

-- src/splice.rt:141:13
pub put_one-p-requires-clause-found_alternative : goal.put_one-p-requires-clause-found_alternative
put_one-p-requires-clause-found_alternative c = search (rules, splicing)

-- src/splice.rt:141:13
pub put_one-p-requires-clause-one_fits : goal.put_one-p-requires-clause-one_fits
put_one-p-requires-clause-one_fits c = search (rules, splicing)

-- src/splice.rt:140:5
pub loop-preserved : goal.loop-preserved
loop-preserved c = search (rules, splicing)

-- src/splice.rt:122:1
pub returns-clause-all_put : goal.returns-clause-all_put
returns-clause-all_put c = search (rules, splicing)
