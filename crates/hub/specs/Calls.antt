-- Calls of several rules in one row.
use Rattle.std.specs.Prelude.{ℕ, ◌≡◌, List, ◌&&◌, ◌||◌, not}
use Rattle.reach.specs.Rows.{bit, edge}
use Rattle.analysis.specs.Names.{any_below}

-- A row, and the calls of rule i if it is not in another row.
pub record CallsAdded (row out : List ℕ) (i : ℕ) (calls r : List ℕ) : Type 0 where
  pub at : (j : ℕ) → bit r j ≡ ((not (bit out i) && bit calls j) || bit row j)

-- A row, and the calls of those of n rules that are not in another row.
pub record CallsFrom (calls : List (List ℕ)) (out from : List ℕ) (n : ℕ) (r : List ℕ) : Type 0 where
  pub at : (j : ℕ) → bit r j ≡ (any_below (λ i. not (bit out i) && edge calls i j) n || bit from j)
