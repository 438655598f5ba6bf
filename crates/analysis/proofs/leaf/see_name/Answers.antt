use Rattle.std.proofs.Common.{rules}
use Rattle.analysis.proofs.leaf.see_name.Goals as goal
use Rattle.analysis.proofs.Laws.Seen.{sees}

pub returns-in-None : goal.returns-in-None
returns-in-None c = search (rules, sees)

pub returns-in-Some : goal.returns-in-Some
returns-in-Some c = search (rules, sees)
