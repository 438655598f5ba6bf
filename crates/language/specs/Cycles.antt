-- Left corners, paths and cycles of rules, by ids (SPECIFICATION 6.6, 6.7 and 13.11).
use Rattle.std.specs.Prelude.{ℕ, suc, ◌≤◌, ◌≡◌, true, length}
use mathlib.Core.List.{List, ◌∷◌, ◌++◌, Memᴰ}
use Rattle.std.proofs.Math.Option.{some}
use Rattle.grammar.specs.Tree.{ElementHead, Call, Element, leaf, block, call, AlternativeOf, Block, RuleOf}
use Rattle.grammar.specs.Lists.{member, rising, AllOf}
use Rattle.language.specs.Shape.{Shape, erase_element, erase_block, Shapes, erase_rules, find}
use Rattle.language.specs.Derive.{CanBeEmpty}
use Rattle.grammar.specs.Corners.{Corners}
use Rattle.language.specs.LeftCorners.{Corner, Reaches}

-- The left corners of an alternative: behind elements that can be empty, a call's rule, or those of a block's alternatives.
pub data LeftCorner (G : Shapes) : (d : ℕ) → List (Element (Block d)) → ℕ → Type 0 where
  called : {d : ℕ} {es : List (Element (Block d))} (front rest : List (Element (Block d))) (h : ElementHead) (k : Call) {b : Shape}
      → front ++ (leaf h (call k) ∷ rest) ≡ es → AllOf (λ e. CanBeEmpty G (erase_element (erase_block d) e)) front
      → find G k.name ≡ some b → LeftCorner G d es k.name
  inside : {d : ℕ} {es : List (Element (Block (suc d)))} (front rest : List (Element (Block (suc d)))) (h : ElementHead) (b : Block (suc d))
      {a : AlternativeOf (Block d)} {n : ℕ}
      → front ++ (block h b ∷ rest) ≡ es → AllOf (λ e. CanBeEmpty G (erase_element (erase_block (suc d)) e)) front → Memᴰ a b
      → LeftCorner G d a.elements n → LeftCorner G (suc d) es n

-- By either reading: the rule with an id is a left corner of a shape.
pub record CornerRule (c : Corners) (d : ℕ) (rs : List (RuleOf (Block d))) (s : Shape) (i : ℕ) : Type 0 where
  pub rule : RuleOf (Block d)
  pub there : Memᴰ rule rs
  pub id : rule.id ≡ i
  pub corner : Corner c (erase_rules d rs) s rule.name

-- The rule with one id reaches the rule with another by a path of left corners.
pub record RuleReaches (c : Corners) (d : ℕ) (rs : List (RuleOf (Block d))) (i j : ℕ) : Type 0 where
  pub source : RuleOf (Block d)
  pub source_stands : Memᴰ source rs
  pub source_id : source.id ≡ i
  pub goal : RuleOf (Block d)
  pub goal_stands : Memᴰ goal rs
  pub goal_id : goal.id ≡ j
  pub path : Reaches c (erase_rules d rs) source.name goal.name

-- A cycle, its ids rising: more than one rule, each reaching each; and with a rule it holds all that reach it and are
-- reached.
pub record IsLargest (c : Corners) (d : ℕ) (rs : List (RuleOf (Block d))) (cycle : List ℕ) : Type 0 where
  pub several : 2 ≤ length cycle
  pub rises : rising cycle ≡ true
  pub joined : (i j : ℕ) → member i cycle ≡ true → member j cycle ≡ true → RuleReaches c d rs i j
  pub largest : (i j : ℕ) → member i cycle ≡ true → RuleReaches c d rs i j → RuleReaches c d rs j i → member j cycle ≡ true
