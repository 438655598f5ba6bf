-- What is promised of end of input, kind 7 (SPECIFICATION 6.2, 6.5 and 13.9).
use Rattle.std.specs.Prelude.{ℕ, ◌≡◌, ◌↔◌, false}
use mathlib.Core.List.{List, [], ◌∷◌, ◌++◌, Memᴰ}
use Rattle.grammar.specs.Lists.{AllOf, all, any}
use Rattle.grammar.specs.Tree.{ElementHead, Leaf, end_of_input, Element, leaf, Block, RuleOf}
use Rattle.grammar.specs.Corners.{Corners}
use Rattle.language.specs.Shape.{Word, erase_element, erase_elements, erase_block, Shapes, erase_rules, OnElement, OnBlock, is_mark}
use Rattle.language.specs.Derive.{Der, CanBeEmpty, RuleDerives, RuleCanBeEmpty}
use Rattle.language.specs.LeftCorners.{Corner, Skippable}
use Rattle.language.specs.Cycles.{LeftCorner}
use Rattle.reference.specs.Walks.{is_end}
use Rattle.reference.specs.Analysis.{element_nullable, block_is_nullable, nullable_rules, grammar_of, left_corners, left_corner_cycles}
use Rattle.laws.specs.Before

-- A leaf is no end of input.
abbrev pub NotEnd : ElementHead → Leaf → Type 0
NotEnd h l = is_end l ≡ false

-- Rules without kind 7.
pub record NoEnd (d : ℕ) (rs : List (RuleOf (Block d))) : Type 0 where
  pub everywhere : (r : RuleOf (Block d)) → Memᴰ r rs → OnBlock NotEnd d r.body

-- What is found out about such a grammar is what was found out before there was end of input.
pub record AsBefore (d : ℕ) (rs : List (RuleOf (Block d))) : Type 0 where
  pub nullable : nullable_rules d rs ≡ Before.nullable_rules d rs
  pub of_alternative : (k : ℕ) (es : List (Element (Block k))) → AllOf (OnElement NotEnd (OnBlock NotEnd k)) es
      → all (element_nullable (grammar_of d rs) (block_is_nullable (grammar_of d rs) k)) es
      ≡ all (Before.element_nullable (Before.grammar_of d rs) (Before.block_is_nullable (Before.grammar_of d rs) k)) es
  pub corners : (c : Corners) (k : ℕ) (es : List (Element (Block k))) → AllOf (OnElement NotEnd (OnBlock NotEnd k)) es
      → left_corners c (grammar_of d rs) k es ≡ Before.left_corners c (Before.grammar_of d rs) k es
  pub cycles : (c : Corners) → left_corner_cycles c (grammar_of d rs) d rs ≡ Before.left_corner_cycles c (Before.grammar_of d rs) d rs

-- In such a grammar no string holds an end mark, and what can be empty derives the empty string.
pub record EmptyIsEmpty (d : ℕ) (rs : List (RuleOf (Block d))) : Type 0 where
  pub no_mark : (i : ℕ) (w : Word) → RuleDerives d rs i w → any is_mark w ≡ false
  pub of_rule : (i : ℕ) → RuleCanBeEmpty d rs i ↔ RuleDerives d rs i []
  pub of_alternative : (k : ℕ) (es : List (Element (Block k))) → AllOf (OnElement NotEnd (OnBlock NotEnd k)) es
      → CanBeEmpty (erase_rules d rs) (erase_elements (erase_block k) es) ↔ Der (erase_rules d rs) (erase_elements (erase_block k) es) []
  pub of_block : (k : ℕ) (b : Block k) → OnBlock NotEnd k b
      → CanBeEmpty (erase_rules d rs) (erase_block k b) ↔ Der (erase_rules d rs) (erase_block k b) []

-- Kind 7, whatever its quantifier, is looked past: it can be empty, no reading stops at it, and left corners are found as if
-- it did not stand there.
pub record EndSkipped (G : Shapes) : Type 0 where
  pub skipped : (c : Corners) (d : ℕ) (h : ElementHead) → Skippable c G (erase_element (erase_block d) (leaf h end_of_input))
  pub corners : (c : Corners) (d : ℕ) (h : ElementHead) (front rest : List (Element (Block d))) (n : ℕ)
      → Corner c G (erase_elements (erase_block d) (front ++ (leaf h end_of_input ∷ rest))) n
      ↔ Corner c G (erase_elements (erase_block d) (front ++ rest)) n
  pub left_corners : (d : ℕ) (h : ElementHead) (front rest : List (Element (Block d))) (n : ℕ)
      → LeftCorner G d (front ++ (leaf h end_of_input ∷ rest)) n ↔ LeftCorner G d (front ++ rest) n
