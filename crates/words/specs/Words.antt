-- A word in bytes, low byte first.
use Rattle.std.specs.Prelude.{ℕ, ◌+◌, ◌/◌, ◌%◌, List, set}
use Rattle.std.specs.Int.{w32, from_le_bytes}

-- The word of four bytes, as the library has it.
abbrev pub chunk_word : List ℕ → ℕ
chunk_word y = from_le_bytes w32 y

-- The bytes with those of a word from a place on; all others are as they were.
abbrev pub with_word : List ℕ → ℕ → ℕ → List ℕ
with_word bs at w =
    set (set (set (set bs at (w % 256)) (at + 1) (w / 256 % 256)) (at + 2) (w / 256 / 256 % 256)) (at + 3)
    (w / 256 / 256 / 256 % 256)
