use Rattle.std.proofs.Common.{refl, ap, ◌∙◌}
use Rattle.std.specs.Prelude.{map}
use Rattle.grammar.specs.Lists.{rising}
use Rattle.words.specs.Words.{chunk_word}
use Rattle.ids.proofs.lists.is_rising.Goals as goal
use Rattle.words.specs.Laws.Words.{chunk_words}

pub returns : goal.returns
returns c = c.rises.ensures ∙ ap rising (ap (map chunk_word) c.as_chunks.ensures.front ∙ chunk_words _ c.args.s.now refl)
