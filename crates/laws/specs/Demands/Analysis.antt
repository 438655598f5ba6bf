-- What is promised of nullability, left corners and cycles as the definition finds them: 1 to 3.
use Rattle.std.specs.Prelude.{ℕ, ◌≡◌, ◌↔◌, true}
use mathlib.Core.List.{List, [], ◌∷◌, map, Memᴰ}
use Rattle.grammar.specs.Lists.{member, all, rising}
use Rattle.grammar.specs.Tree.{Element, Block, RuleOf}
use Rattle.language.specs.Shape.{erase_element, erase_elements, erase_block, Shapes, erase_rules}
use Rattle.language.specs.Derive.{CanBeEmpty, RuleCanBeEmpty}
use Rattle.grammar.specs.Corners.{Corners, textbook}
use Rattle.language.specs.LeftCorners.{Corner}
use Rattle.language.specs.Cycles.{LeftCorner, CornerRule, RuleReaches, IsLargest}
use Rattle.reference.specs.Analysis.{element_nullable, block_is_nullable, nullable_rules}
use Rattle.reference.specs.Analysis.{grammar_of, left_corners, block_corners, left_corner_cycles}

-- 1. Nullable is what can be empty (SPECIFICATION 1.12 and 13.9): the definition's tests, in the grammar of some rules.
pub record EmptyDerivation (d : ℕ) (rs : List (RuleOf (Block d))) : Type 0 where
  pub of_rule : (i : ℕ) → (member i (nullable_rules d rs) ≡ true) ↔ RuleCanBeEmpty d rs i
  pub of_element : (k : ℕ) (e : Element (Block k))
      → (element_nullable (grammar_of d rs) (block_is_nullable (grammar_of d rs) k) e ≡ true)
      ↔ CanBeEmpty (erase_rules d rs) (erase_element (erase_block k) e)
  pub of_alternative : (k : ℕ) (es : List (Element (Block k)))
      → (all (element_nullable (grammar_of d rs) (block_is_nullable (grammar_of d rs) k)) es ≡ true)
      ↔ CanBeEmpty (erase_rules d rs) (erase_elements (erase_block k) es)
  pub of_block : (k : ℕ) (b : Block k) → (block_is_nullable (grammar_of d rs) k b ≡ true) ↔ CanBeEmpty (erase_rules d rs) (erase_block k b)

-- 2. collect_left_corner_calls lists the left corners and nothing else, in each reading (SPECIFICATION 6.5, 13.11 and 14.1).
pub record LeftCornersListed (c : Corners) (d : ℕ) (rs : List (RuleOf (Block d))) : Type 0 where
  pub of_alternative : (k : ℕ) (es : List (Element (Block k))) (i : ℕ)
      → (member i (left_corners c (grammar_of d rs) k es) ≡ true) ↔ CornerRule c d rs (erase_elements (erase_block k) es) i
  pub of_block : (k : ℕ) (b : Block k) (i : ℕ)
      → (member i (block_corners c (grammar_of d rs) k b) ≡ true) ↔ CornerRule c d rs (erase_block k b) i

-- The textbook reading is that of SPECIFICATION 13.11: `LeftCorner` in language.
abbrev pub TextbookCorners : Shapes → Type 0
TextbookCorners G = (d : ℕ) (es : List (Element (Block d))) (n : ℕ)
    → Corner textbook G (erase_elements (erase_block d) es) n ↔ LeftCorner G d es n

-- 3. The least id of a cycle is its first.
abbrev pub least : List ℕ → ℕ
least [] = 0
least (x ∷ xs) = x

-- The cycles, in their order (SPECIFICATION 6.7 and 6.8). Least ids rise, so no cycle is listed twice.
pub record CyclesListed (c : Corners) (d : ℕ) (rs : List (RuleOf (Block d))) : Type 0 where
  pub listed : (cycle : List ℕ) → Memᴰ cycle (left_corner_cycles c (grammar_of d rs) d rs) ↔ IsLargest c d rs cycle
  pub sorted : rising (map least (left_corner_cycles c (grammar_of d rs) d rs)) ≡ true
  -- No larger set of rules that reach each other holds a cycle.
  pub no_larger : (cycle wider : List ℕ) → Memᴰ cycle (left_corner_cycles c (grammar_of d rs) d rs)
      → ((i : ℕ) → member i cycle ≡ true → member i wider ≡ true)
      → ((i j : ℕ) → member i wider ≡ true → member j wider ≡ true → RuleReaches c d rs i j)
      → (i : ℕ) → member i wider ≡ true → member i cycle ≡ true
