-- What it is to write words into a lent buffer.
use Rattle.std.specs.Prelude.{ℕ, ◌+◌, ◌*◌, ◌<◌, ◌≤◌, ◌≡◌, ◌⊎◌, List, length, get_or}
use Rattle.grammar.specs.Words.{words}

-- Words stand from a place on, counted in words; every other byte is as it was.
pub record Wrote (before after : List ℕ) (at : ℕ) (xs : List ℕ) : Type 0 where
  pub long : length after ≡ length before
  pub here : (k : ℕ) → k < length xs → get_or (words after) (at + k) 0 ≡ get_or xs k 0
  pub other : (i : ℕ) → (i < 4 * at) ⊎ (4 * (at + length xs) ≤ i) → get_or after i 0 ≡ get_or before i 0
