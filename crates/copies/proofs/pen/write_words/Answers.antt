use Rattle.std.proofs.Common.{rules}
use Rattle.copies.proofs.pen.write_words.Goals as goal
use Rattle.copies.proofs.Laws.Pen.{words_written}

pub loop-i-preserved : goal.loop-i-preserved
loop-i-preserved c = search (rules, words_written)
