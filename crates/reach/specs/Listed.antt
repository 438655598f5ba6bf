-- The cycles that the definition lists, as rows of bits have them (SPECIFICATION 6.8).
use Rattle.std.specs.Prelude.{ℕ, ◌≤◌, ◌<◌, ◌≡◌, List, [], ◌∷◌, ◌++◌, map, true, ◌&&◌, length, get_or, Option, Some, None}
use Rattle.grammar.specs.Tree.{Block, RuleOf}
use Rattle.grammar.specs.Lists.{each, member, distinct}
use Rattle.grammar.specs.Corners.{Corners}
use Rattle.reference.specs.Analysis.{Grammar, Row, row_ids, row_of, reach, component, cycles_from, left_corner_cycles}
use Rattle.graph.specs.Order.{Rising}
use Rattle.reach.specs.declared.cycles.Ahead.{Ahead}
use Rattle.reach.specs.Rows.{bit, edge, Minus, RowOf, Behind}
use Rattle.reach.specs.Reach.{Loops, Around}

-- The i-th row of the definition's graph; behind the last, one that leads nowhere.
abbrev pub row_at : List Row → ℕ → Row
row_at rows i = get_or rows i (record { id = 0; to = [] })

-- The left corners of rules, in the order of the sheet.
abbrev pub corner_rows : Corners → Grammar → (d : ℕ) → List (RuleOf (Block d)) → List Row
corner_rows c g d rs = map (row_of c g d) rs

-- As many rules as rows; no two have one id.
pub record Numbered (rows : List Row) (n : ℕ) : Type 0 where
  pub count : n ≡ length rows
  pub apart : distinct (row_ids rows) ≡ true

-- Rows of bits that are the definition's: bit j of row i says that the i-th rule leads to the j-th.
pub record Edges (rows : List Row) (n : ℕ) (corners : List (List ℕ)) : Type 0 where
  pub numbered : Numbered rows n
  pub bits : (i j : ℕ) → i < n → j < n → edge corners i j ≡ member (row_at rows j).id (row_at rows i).to

-- Ids that are the definition's.
pub record Ids (rows : List Row) (n : ℕ) (ids : List ℕ) : Type 0 where
  pub numbered : Numbered rows n
  pub at : (i : ℕ) → i < n → get_or ids i 0 ≡ (row_at rows i).id

-- A row that is a set of ids.
pub record Members (rows : List Row) (n : ℕ) (row xs : List ℕ) : Type 0 where
  pub at : (j : ℕ) → j < n → bit row j ≡ member (row_at rows j).id xs

-- Of all cycles, those still to come: `left` has their members, and a member's cycle is who reaches it and is reached.
pub record Left (rows : List Row) (n : ℕ) (all closed : List (List ℕ)) (left : List ℕ) (cycles : List (List ℕ)) : Type 0 where
  pub given : List (List ℕ)
  pub order : given ++ cycles ≡ all
  pub from : List ℕ
  pub rises : Rising from
  pub listed : cycles ≡ cycles_from (reach rows) from
  pub members : Members rows n left (each (λ c. c) cycles)
  pub cycle : (i : ℕ) → i < n → bit left i ≡ true → (j : ℕ) → j < n
      → (edge closed i j && edge closed j i) ≡ member (row_at rows j).id (component (reach rows) (row_at rows i).id)

-- The next of them is that of rule i; without its members, the others are left.
pub record Given (rows : List Row) (n : ℕ) (all closed : List (List ℕ)) (left : List ℕ) (i : ℕ) (cycles : List (List ℕ)) : Type 0 where
  pub rest : List (List ℕ)
  pub first : cycles ≡ component (reach rows) (row_at rows i).id ∷ rest
  pub around : (row : List ℕ) → Around closed i n row → Members rows n row (component (reach rows) (row_at rows i).id)
  pub behind : (row less : List ℕ) → Around closed i n row → Minus left row less → Left rows n all closed less rest

abbrev pub Gives : List Row → ℕ → List (List ℕ) → List (List ℕ) → List ℕ → List (List ℕ) → Option ℕ → Type 0
Gives rows n all closed left cycles None = cycles ≡ []
Gives rows n all closed left cycles (Some i) = Given rows n all closed left i cycles

-- In the definition: the cycles of rules whose left corners the rows have are those of the rules that reach themselves,
pub record AllLeft (corners : List (List ℕ)) (n : ℕ) (closed : List (List ℕ)) : Type 0 where
  pub left : (c : Corners) (g : Grammar) (d : ℕ) (rs : List (RuleOf (Block d))) → Edges (corner_rows c g d rs) n corners
      → (row : List ℕ) → Loops closed n row
      → Left (corner_rows c g d rs) n (left_corner_cycles c g d rs) closed row (left_corner_cycles c g d rs)

-- and the next one is that of the rule with the least id.
pub record GivesNext (ids left : List ℕ) (n : ℕ) (r : Option ℕ) : Type 0 where
  pub gives : (rows : List Row) (all closed cycles : List (List ℕ)) → Ids rows n ids → Left rows n all closed left cycles
      → Gives rows n all closed left cycles r

-- The next one as a row, and a row of what is left behind it.
pub record Taken (rows : List Row) (ids : List ℕ) (n : ℕ) (all closed cycles : List (List ℕ)) (row less : List ℕ) : Type 0 where
  pub cycle : List ℕ
  pub rest : List (List ℕ)
  pub first : cycles ≡ cycle ∷ rest
  pub members : RowOf ids n cycle row
  pub behind : Left rows n all closed less rest

abbrev pub Takes : List Row → List ℕ → ℕ → List (List ℕ) → List (List ℕ) → List (List ℕ) → Option Ahead → Type 0
Takes rows ids n all closed cycles None = cycles ≡ []
Takes rows ids n all closed cycles (Some a) = Taken rows ids n all closed cycles a.members a.left

pub record AheadOf (closed : List (List ℕ)) (ids : List ℕ) (n : ℕ) (left : List ℕ) (r : Option Ahead) : Type 0 where
  pub takes : (rows : List Row) (all cycles : List (List ℕ)) → Ids rows n ids → Left rows n all closed left cycles
      → Takes rows ids n all closed cycles r

-- Cycles in their order, as rows from the first on.
pub record CycleRows (ids : List ℕ) (n : ℕ) (all rows : List (List ℕ)) (r : ℕ) : Type 0 where
  pub count : r ≡ length all
  pub at : (front : List (List ℕ)) (x : List ℕ) (rest : List (List ℕ)) → front ++ (x ∷ rest) ≡ all
      → RowOf ids n x (get_or rows (length front) [])

-- Those of rules whose left corners the rows have; rows behind them are as they were.
pub record CyclesIn (corners : List (List ℕ)) (ids : List ℕ) (n : ℕ) (before after : List (List ℕ)) (r : ℕ) : Type 0 where
  pub low : r ≤ n
  pub behind : Behind r before after
  pub is : (c : Corners) (g : Grammar) (d : ℕ) (rs : List (RuleOf (Block d))) → Edges (corner_rows c g d rs) n corners
      → Ids (corner_rows c g d rs) n ids → CycleRows ids n (left_corner_cycles c g d rs) after r
