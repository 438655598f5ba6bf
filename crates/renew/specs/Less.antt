-- Rows of bits with a place taken out: the places above it move down by one.
use Rattle.std.specs.Prelude.{ℕ, suc, ◌-◌, ◌<◌, ◌≡◌, List, [], true, false, length, get_or, ltb}
use Rattle.grammar.specs.Numbers.{rule_limit}
use Rattle.reach.specs.Rows.{digit, bit}

-- Where what is at place j stood before place k was taken out,
unfoldable pub before : ℕ → ℕ → ℕ
before k j = elim (ltb j k) [ true ↦ j | false ↦ suc j ]

-- and where what was at another place i stands then.
unfoldable pub after : ℕ → ℕ → ℕ
after k i = elim (ltb k i) [ true ↦ i - 1 | false ↦ i ]

-- A word without its bit k.
pub record WordLess (w k r : ℕ) : Type 0 where
  pub at : (j : ℕ) → digit r j ≡ digit w (before k j)

-- A row without place k.
pub record Less (row : List ℕ) (k : ℕ) (r : List ℕ) : Type 0 where
  pub at : (j : ℕ) → bit r j ≡ bit row (before k j)

-- n rows without place k: each row so, and the row of rule k left out.
pub record RowsLess (n k : ℕ) (rows rows' : List (List ℕ)) : Type 0 where
  pub at : (i : ℕ) → suc i < n → Less (get_or rows (before k i) []) k (get_or rows' i [])
  pub long : length rows' ≡ rule_limit
