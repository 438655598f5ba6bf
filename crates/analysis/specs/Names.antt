-- Rules are told by their places in the sheet handed in, and found by their names: a table in the lent work area has a
-- byte for each remainder of a name, which says where to look first.
use Rattle.std.specs.Prelude.{ℕ, zero, suc, ◌<◌, ◌≤◌, ◌%◌, ◌≡◌, List, Bool, false, ◌&&◌, ◌||◌, length, get_or, set, eqb, ltb}
use Rattle.std.specs.Prelude.{Option, Some, None}
use Rattle.grammar.specs.Numbers.{work_bytes}

-- Rule j of n has a name.
unfoldable pub is_named : List ℕ → ℕ → ℕ → ℕ → Bool
is_named names n m j = ltb j n && eqb (get_or names j 0) m

-- Whether a test holds of a number below n.
unfoldable pub any_below : (ℕ → Bool) → ℕ → Bool
any_below test zero = false
any_below test (suc n) = test n || any_below test n

-- The bytes of the table; names that leave one remainder share one.
abbrev pub slots : ℕ
slots = work_bytes

-- The table with the places of the first n names; every other byte is as it was.
unfoldable pub table_with : List ℕ → ℕ → List ℕ → List ℕ
table_with names zero table = table
table_with names (suc n) table = set (table_with names n table) (get_or names n 0 % slots) n

-- Names that a table can have: no two are equal.
pub record Told (names : List ℕ) (n : ℕ) : Type 0 where
  pub few : n ≤ length names
  pub apart : (i j : ℕ) → i < j → j < n → get_or names i 0 ≡ get_or names j 0 → ⊥

-- A table with room for every name, or an empty one. What stands in it is no more than where to look first.
pub record Tabled (names : List ℕ) (n : ℕ) (table : List ℕ) : Type 0 where
  pub told : Told names n
  pub room : (length table ≡ 0 → ⊥) → slots ≤ length table

-- The rule that has a name: its place, or none.
pub record At (names : List ℕ) (n m i : ℕ) : Type 0 where
  pub below : i < n
  pub only : (j : ℕ) → is_named names n m j ≡ eqb j i

pub record Nowhere (names : List ℕ) (n m : ℕ) : Type 0 where
  pub none : (j : ℕ) → is_named names n m j ≡ false

pub record IsTarget (names : List ℕ) (n m : ℕ) (r : Option ℕ) : Type 0 where
  pub rule : (i : ℕ) → r ≡ Some i → At names n m i
  pub unknown : r ≡ None → Nowhere names n m
