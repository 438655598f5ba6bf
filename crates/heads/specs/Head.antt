-- The words of a planned alternative in front of its elements.
use Rattle.std.specs.Prelude.{ℕ, List, ◌∷◌, length}
use Rattle.grammar.specs.Encode.{encode_option}
use Rattle.grammar.specs.Lists.{each}
use Rattle.reference.specs.Substitute.{Planned}

-- With an id of its own.
abbrev pub head_words : (d : ℕ) → Planned d → ℕ → List ℕ
head_words d p id = id ∷ p.carried ∷ p.flag ∷ length p.options ∷ length p.elements ∷ each encode_option p.options
