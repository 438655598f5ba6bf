use Rattle.convert.proofs.newest.write_newest.Goals as goal
use Rattle.convert.proofs.Laws.Whole.{newest_in_front}

pub returns-clause-written : goal.returns-clause-written
returns-clause-written c = λ r. newest_in_front c.requires.lent r c.widen_rules-p.ensures c.finish.ensures
