-- Cycles by bits (SPECIFICATION 6.7): who is on one, and who has the least id.
use Rattle.std.specs.Prelude.{ℕ, ◌≤◌, ◌<◌, ◌≡◌, ◌↔◌, List, true, false, get_or, Option, Some, None}
use Rattle.reach.specs.Rows.{bit, edge}
use Rattle.reach.specs.Reach.{Path, other}

-- Rows by which a rule reaches itself if it is on a cycle of several, and if one does, they are closed over edges between
-- different rules.
pub record Joined (corners : List (List ℕ)) (n : ℕ) (r : List (List ℕ)) : Type 0 where
  pub cyclic : (i : ℕ) → i < n → (edge r i i ≡ true) ↔ Path (other corners) n i i
  pub reaches : (k : ℕ) → k < n → edge r k k ≡ true → (i j : ℕ) → i < n → (edge r i j ≡ true) ↔ Path (other corners) n i j

-- The rule of a row with the least id.
pub record Least (ids left : List ℕ) (n i : ℕ) : Type 0 where
  pub below : i < n
  pub there : bit left i ≡ true
  pub least : (j : ℕ) → j < n → bit left j ≡ true → get_or ids i 0 ≤ get_or ids j 0

pub record NoneLeft (left : List ℕ) (n : ℕ) : Type 0 where
  pub none : (j : ℕ) → j < n → bit left j ≡ false

abbrev pub IsNext : List ℕ → List ℕ → ℕ → Option ℕ → Type 0
IsNext ids left n None = NoneLeft left n
IsNext ids left n (Some i) = Least ids left n i
