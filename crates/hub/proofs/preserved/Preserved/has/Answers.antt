use Rattle.std.proofs.Common.{rules, refl, ◌∙◌}
use Rattle.std.proofs.lemmas.List.Sorted.{answers_always}
use Rattle.hub.proofs.preserved.Preserved.has.Goals as goal
use Rattle.words.specs.Words.{chunk_word}
use Rattle.hub.proofs.Laws.Preserved.{id_found}

-- The closure gives the word that stands in four bytes.
pub returns : goal.returns
returns c =
    let facts = c.binary_search_by_key.ensures in
    let by_word = facts.position chunk_word (answers_always _ _ _ (λ f a r g called. search rules)) in
    c.is_ok.ensures.value
    ∙ id_found c.args.self.now.ids.now c.args.id c.args.self.now.rises c.as_chunks.ensures.front refl _ facts.bound by_word
