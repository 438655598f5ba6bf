-- Reachability by bits (SPECIFICATION 6.6): what rows closed under it hold.
use Rattle.std.specs.Prelude.{ℕ, ◌<◌, ◌≡◌, ◌↔◌, List, Bool, true, ◌&&◌, not, eqb, ltb}
use Rattle.reach.specs.Rows.{bit, edge}

-- From i to j by one edge or more, over rules below n.
pub data Path (f : ℕ → ℕ → Bool) (n : ℕ) : ℕ → ℕ → Type 0 where
  last : {i j : ℕ} → f i j ≡ true → Path f n i j
  more : {i k j : ℕ} → f i k ≡ true → k < n → Path f n k j → Path f n i j

-- The edges between different rules.
unfoldable pub other : List (List ℕ) → ℕ → ℕ → Bool
other rows i j = edge rows i j && not (eqb j i)

-- Rows without the edge of a rule to itself.
pub record Others (rows : List (List ℕ)) (n : ℕ) (r : List (List ℕ)) : Type 0 where
  pub at : (i j : ℕ) → i < n → edge r i j ≡ other rows i j

-- Rows closed under reachability.
pub record Closed (rows : List (List ℕ)) (n : ℕ) (r : List (List ℕ)) : Type 0 where
  pub at : (i j : ℕ) → i < n → (edge r i j ≡ true) ↔ Path (edge rows) n i j

-- The rules that reach themselves.
pub record Loops (reach : List (List ℕ)) (n : ℕ) (r : List ℕ) : Type 0 where
  pub at : (i : ℕ) → bit r i ≡ (ltb i n && edge reach i i)

-- The rules that rule i reaches and that reach it.
pub record Around (reach : List (List ℕ)) (i n : ℕ) (r : List ℕ) : Type 0 where
  pub at : (j : ℕ) → bit r j ≡ (ltb j n && (edge reach i j && edge reach j i))
