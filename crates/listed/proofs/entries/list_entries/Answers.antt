use Rattle.std.proofs.Common.{rules}
use Rattle.listed.proofs.entries.list_entries.Goals as goal
use Rattle.listed.proofs.Laws.Rules.{steps}
use Rattle.listed.proofs.Laws.Entries.{recording}

pub loop-i-preserved : goal.loop-i-preserved
loop-i-preserved c = search (rules, recording, steps)

pub returns-clause-put : goal.returns-clause-put
returns-clause-put c = search (rules, recording, steps)
