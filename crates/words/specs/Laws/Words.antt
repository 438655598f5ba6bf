-- What is proved of words as the library has them, four bytes each.
use Rattle.std.specs.Prelude.{ℕ, zero, suc, ◌/◌, ◌≡◌, refl, List, [], ◌∷◌, map, length}
use Rattle.std.proofs.Common.{ap₂, arith}
use Rattle.std.specs.Simd.{first_chunks}
use Rattle.grammar.specs.Words.{words}
use Rattle.words.specs.Words.{chunk_word}

-- Bytes four by four are their words.
pub chunk_words : (k : ℕ) (bs : List ℕ) → k ≡ length bs / 4 → map chunk_word (first_chunks 4 k bs) ≡ words bs
unfolding words
chunk_words zero [] e = refl
chunk_words zero (a ∷ []) e = refl
chunk_words zero (a ∷ b ∷ []) e = refl
chunk_words zero (a ∷ b ∷ c ∷ []) e = refl
chunk_words zero (a ∷ b ∷ c ∷ d ∷ bs) e = absurd (omega arith)
chunk_words (suc k) [] e = absurd (omega arith)
chunk_words (suc k) (a ∷ []) e = absurd (omega arith)
chunk_words (suc k) (a ∷ b ∷ []) e = absurd (omega arith)
chunk_words (suc k) (a ∷ b ∷ c ∷ []) e = absurd (omega arith)
chunk_words (suc k) (a ∷ b ∷ c ∷ d ∷ bs) e = ap₂ ◌∷◌ (omega arith) (chunk_words k bs (omega arith))
