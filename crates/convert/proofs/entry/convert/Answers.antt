use Rattle.std.proofs.Common.{rules}
use Rattle.convert.proofs.entry.convert.Goals as goal
use Rattle.convert.proofs.Laws.Outcome.{outcomes}

pub returns-then-not-is_length : goal.returns-then-not-is_length
returns-then-not-is_length c = search (rules, outcomes)

pub returns-then-not-are_lent : goal.returns-then-not-are_lent
returns-then-not-are_lent c = search (rules, outcomes)

pub hand-requires : goal.hand-requires
hand-requires c = search (rules, outcomes)
