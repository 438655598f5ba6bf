-- What holds before and after one step of the loops over rows.
use Rattle.std.specs.Prelude.{ℕ, ◌<◌, ◌≡◌, ◌↔◌, List, true, ◌&&◌, ◌||◌, length, ltb}
use Rattle.grammar.specs.Numbers.{rule_limit}
use Rattle.reach.specs.Rows.{bit, edge}
use Rattle.reach.specs.Reach.{Path}

-- Rows, and where rule k leads, if k is in them.
pub record Through (rows : List (List ℕ)) (k : ℕ) (via : List ℕ) (n : ℕ) (r : List (List ℕ)) : Type 0 where
  pub size : length r ≡ rule_limit
  pub at : (i j : ℕ) → i < n → edge r i j ≡ (edge rows i j || (edge rows i k && bit via j))

-- A rule stays if it leads to one that is left.
pub record Kept (alive : List ℕ) (i : ℕ) (to r : List ℕ) : Type 0 where
  pub at : (k : ℕ) → (bit r k ≡ true) ↔ ((bit alive k ≡ true) × (k ≡ i → (j : ℕ) × (bit to j ≡ true) × (bit alive j ≡ true)))

-- The rules that are there.
pub record Below (n : ℕ) (r : List ℕ) : Type 0 where
  pub at : (k : ℕ) → bit r k ≡ ltb k n

-- A row that every rule on a cycle is in.
pub record Holds (rows : List (List ℕ)) (n : ℕ) (row : List ℕ) : Type 0 where
  pub at : (i : ℕ) → i < n → Path (edge rows) n i i → bit row i ≡ true
