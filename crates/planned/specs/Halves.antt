-- What is written to halves, half by half.
use Rattle.std.specs.Prelude.{ℕ, ◌+◌, ◌<◌, ◌≤◌, ◌≡◌, List, length}
use Rattle.planned.specs.Layout.{half}

-- One half is put.
pub record HalfPut (before after : List ℕ) (at v : ℕ) : Type 0 where
  pub here : half after at ≡ v
  pub other : (j : ℕ) → (j ≡ at → ⊥) → half after j ≡ half before j
  pub long : length after ≡ length before

-- n halves are copied.
pub record HalvesMoved (before after : List ℕ) (from to n : ℕ) : Type 0 where
  pub here : (i : ℕ) → i < n → half after (to + i) ≡ half before (from + i)
  pub front : (j : ℕ) → j < to → half after j ≡ half before j
  pub behind : (j : ℕ) → to + n ≤ j → half after j ≡ half before j
  pub long : length after ≡ length before
