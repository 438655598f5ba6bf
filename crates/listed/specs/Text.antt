-- Numbers and lines as bytes of text.
use Rattle.std.specs.Prelude.{ℕ, zero, suc, ◌+◌, ◌/◌, ◌%◌, List, [], ◌∷◌, ◌++◌, true, false, ltb}
use Rattle.grammar.specs.Lists.{each}

abbrev pub space : ℕ
space = 32

abbrev pub newline : ℕ
newline = 10

-- The text of a digit.
abbrev pub digit : ℕ → ℕ
digit n = 48 + n

-- A number in decimal, the first digit first, by so many divisions at most.
unfoldable pub decimal_by : ℕ → ℕ → List ℕ
decimal_by zero n = digit n ∷ []
decimal_by (suc more) n = elim (ltb n 10) [ true ↦ digit n ∷ [] | false ↦ decimal_by more (n / 10) ++ (digit (n % 10) ∷ []) ]

-- A number in decimal, without zeros in front.
abbrev pub decimal : ℕ → List ℕ
decimal n = decimal_by n n

abbrev pub field : ℕ → List ℕ
field n = space ∷ decimal n

-- A word, numbers, and the end of the line.
unfoldable pub line : List ℕ → List ℕ → List ℕ
line word ns = word ++ (each field ns ++ (newline ∷ []))
