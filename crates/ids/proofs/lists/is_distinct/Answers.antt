use Rattle.std.proofs.Common.{rules, refl}
use Rattle.std.proofs.lemmas.List.Sorted.{answers_always}
use Rattle.words.specs.Words.{chunk_word}
use Rattle.ids.proofs.lists.is_distinct.Goals as goal
use Rattle.ids.proofs.Laws.Sorted.{sorted_told}

pub returns-clause-value : goal.returns-clause-value
returns-clause-value c =
    let sorted = c.sort_unstable_by_key.ensures in
    sorted_told c.args.s.now c.as_chunks_mut-chunks.ensures.front refl sorted.permutation
    (sorted.sorted chunk_word (answers_always _ _ _ (λ f a r g called. search rules))) c.rises.ensures
