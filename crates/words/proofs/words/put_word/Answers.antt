use Rattle.std.proofs.Common.{◌∙◌, arith}
use Rattle.words.proofs.words.put_word.Goals as goal
use Rattle.words.proofs.Laws.Words.{stored, put_word_law}

pub returns-clause-words_after : goal.returns-clause-words_after
returns-clause-words_after c =
    put_word_law _ _ _ _ c.requires (omega arith)
    (stored _ _ _ _ _ c.requires (omega arith) (c.copy_from_slice.ensures.after ∙ c.to_le_bytes.ensures))

pub returns-clause-bytes_after : goal.returns-clause-bytes_after
returns-clause-bytes_after c =
    stored _ _ _ _ _ c.requires (omega arith) (c.copy_from_slice.ensures.after ∙ c.to_le_bytes.ensures)
