use Rattle.std.proofs.Common.{rules}
use Rattle.apply.proofs.apply.words_after.Goals as goal
use Rattle.apply.proofs.Laws.Done.{applicables}
use Rattle.apply.proofs.Laws.Sizes.{words_after_lem}

-- src/apply.rt:62:9
pub words_left-front-requires : goal.words_left-front-requires
words_left-front-requires c = search (rules, applicables, words_after_lem)

-- src/apply.rt:63:9
pub words_left-rest-requires : goal.words_left-rest-requires
words_left-rest-requires c = search (rules, applicables, words_after_lem)

-- src/apply.rt:47:1
pub returns : goal.returns
returns c = search (rules, applicables, words_after_lem)
