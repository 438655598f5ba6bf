use Rattle.std.proofs.Common.{rules}
use Rattle.words.proofs.words.word.Goals as goal
use Rattle.words.proofs.Laws.Words.{word_law}

-- src/words.rt:22:1
pub returns : goal.returns
returns c = search (rules, word_law)
