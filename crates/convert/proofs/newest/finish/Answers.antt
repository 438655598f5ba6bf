use Rattle.convert.proofs.newest.finish.Goals as goal
use Rattle.convert.proofs.Laws.Whole.{finished}

pub returns : goal.returns
returns c = finished c.requires.lent c.requires.bounds c.copy_words.ensures c.write.ensures c.copy_words-2.ensures
