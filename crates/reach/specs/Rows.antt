-- Sets of rules as rows of bits: what is in a row, and rows with given bits.
use Rattle.std.specs.Prelude.{ℕ, ◌/◌, ◌%◌, ◌^◌, ◌<◌, ◌≤◌, ◌≡◌}
use Rattle.std.specs.Prelude.{List, [], Bool, true, false, ◌&&◌, ◌||◌, not, length, get_or, eqb, ltb}
use Rattle.grammar.specs.Numbers.{rule_limit}
use Rattle.grammar.specs.Lists.{member}

abbrev pub word_bits : ℕ
word_bits = 64

-- Bit t of a word.
unfoldable pub digit : ℕ → ℕ → Bool
digit w t = eqb (w / 2 ^ t % 2) 1

-- Whether rule j is in a row of two words: bit j % 64 of word j / 64.
unfoldable pub bit : List ℕ → ℕ → Bool
bit row j = ltb j rule_limit && digit (get_or row (j / word_bits) 0) (j % word_bits)

-- Rows by their bits, all of them.
pub record One (j : ℕ) (r : List ℕ) : Type 0 where
  pub at : (k : ℕ) → bit r k ≡ eqb k j

pub record With (row : List ℕ) (j : ℕ) (r : List ℕ) : Type 0 where
  pub at : (k : ℕ) → bit r k ≡ (bit row k || eqb k j)

pub record Without (row : List ℕ) (j : ℕ) (r : List ℕ) : Type 0 where
  pub at : (k : ℕ) → bit r k ≡ (bit row k && not (eqb k j))

pub record Union (a b r : List ℕ) : Type 0 where
  pub at : (k : ℕ) → bit r k ≡ (bit a k || bit b k)

pub record Meet (a b r : List ℕ) : Type 0 where
  pub at : (k : ℕ) → bit r k ≡ (bit a k && bit b k)

pub record Minus (a b r : List ℕ) : Type 0 where
  pub at : (k : ℕ) → bit r k ≡ (bit a k && not (bit b k))

pub record AddIf (row : List ℕ) (j : ℕ) (on : Bool) (r : List ℕ) : Type 0 where
  pub at : (k : ℕ) → bit r k ≡ (bit row k || (on && eqb k j))

-- Of the rules below n, those for which a test gives yes.
pub record Collected (Gives : ℕ → Bool → Type 0) (n : ℕ) (r : List ℕ) : Type 0 where
  pub below : (k : ℕ) → k < n → Gives k (bit r k)
  pub beyond : (k : ℕ) → n ≤ k → bit r k ≡ false

-- Whether a row has no bits.
pub record Empty (row : List ℕ) (r : Bool) : Type 0 where
  pub none : r ≡ true → (j : ℕ) → bit row j ≡ false
  pub some : r ≡ false → (j : ℕ) × (j < rule_limit) × (bit row j ≡ true)

-- Bit j of row i.
abbrev pub edge : List (List ℕ) → ℕ → ℕ → Bool
edge rows i j = bit (get_or rows i []) j

-- Whether the id of rule j, of n, is in a list.
unfoldable pub holds : List ℕ → ℕ → List ℕ → ℕ → Bool
holds ids n xs j = ltb j n && member (get_or ids j 0) xs

-- A row that has just the rules whose ids are in a list.
pub record RowOf (ids : List ℕ) (n : ℕ) (xs row : List ℕ) : Type 0 where
  pub at : (j : ℕ) → bit row j ≡ holds ids n xs j

-- Rows behind the last rule are as they were.
pub record Behind (n : ℕ) (before after : List (List ℕ)) : Type 0 where
  pub same : (i : ℕ) → n ≤ i → get_or after i [] ≡ get_or before i []
  pub long : length after ≡ rule_limit
