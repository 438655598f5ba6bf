use Rattle.std.proofs.Common.{rules}
use Rattle.splices.proofs.splice.push_splice.Goals as goal
use Rattle.splices.proofs.Laws.Splice.{rule_fits, rule_pushed}

-- src/splice.rt:188:5
pub put_all-requires-clause-all_fit : goal.put_all-requires-clause-all_fit
put_all-requires-clause-all_fit c = search (rules, rule_fits)

-- src/splice.rt:166:1
pub returns : goal.returns
returns c = search (rules, rule_pushed)
