use Rattle.std.proofs.Common.{rules}
use lib.Dec.{ltb}
use Rattle.std.proofs.lemmas.List.Sorted.{answers_always}
use Rattle.words.specs.Words.{chunk_word}
use Rattle.ids.proofs.lists.rises.Goals as goal
use Rattle.ids.proofs.Laws.Sorted.{rising_told}

pub returns : goal.returns
returns c =
    rising_told chunk_word _ _
    (c.is_sorted_by.ensures.cases (λ a b. ltb (chunk_word a) (chunk_word b)) (answers_always _ _ _ (λ f a r g called. search rules)))
