use Rattle.std.proofs.Common.{rules}
use Rattle.substitution.proofs.over.unstored.Goals as goal
use Rattle.substitution.proofs.Laws.Looking.{hubs}

-- src/over.rt:167:5
pub look_all-requires-clause-at_value : goal.look_all-requires-clause-at_value
look_all-requires-clause-at_value c = search (rules, hubs)
