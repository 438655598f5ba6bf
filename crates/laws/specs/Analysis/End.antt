-- End of input: it can be empty and is looked past; and without it only the empty string is one of end marks alone.
use Rattle.std.specs.Prelude.{ℕ, zero, suc, ◌≡◌, true, false}
use Rattle.std.proofs.Math.Path.{refl}
use Rattle.std.proofs.Common.{subst, inr, true≢false}
use mathlib.Core.List.{List, [], ◌∷◌, ◌++◌}
use Rattle.std.proofs.Math.Option.{some}
use Rattle.grammar.specs.Lists.{AllOf, all, any}
use Rattle.grammar.specs.Tree.{ElementHead, Leaf, epsilon, action, predicate, call, token, terminal, end_of_input, Element, leaf, block}
use Rattle.grammar.specs.Tree.{Block, RuleOf}
use Rattle.grammar.specs.Corners.{Corners, rust, textbook}
use Rattle.language.specs.Shape.{Word, Shape, symbol, end_symbol, quantified, erase_leaf, erase_element, erase_elements, erase_block}
use Rattle.language.specs.Shape.{Shapes}
use Rattle.language.specs.Shape.{find, bodies_by, OnElement, OnBlock, is_mark}
use Rattle.language.specs.Derive.{RuleDerives}
use Rattle.language.specs.LeftCorners.{is_symbol, stops, Skippable, Corner, c_first, c_later}
use Rattle.language.specs.Laws.Empty.{symbol_empty, quantified_empty}
use Rattle.language.specs.Laws.Marks.{Markless, markless_quantified, markless_word, no_mark_empty, empty_is_empty}
use Rattle.language.specs.Laws.Corner.{corner_quantified, symbol_quantified}
use Rattle.language.specs.Laws.Rules.{found_rule}
use Rattle.reference.specs.Walks.{is_end}
use Rattle.laws.specs.Demands.End.{NotEnd, NoEnd, EmptyIsEmpty, EndSkipped}
use Rattle.laws.specs.Analysis.Textbook.{textbook_corner}

-- Trees without kind 7 erase to shapes without the end mark.
leaf_markless : (c : ℕ) (l : Leaf) → is_end l ≡ false → Markless (erase_leaf c l)
unfolding erase_leaf is_end is_mark
leaf_markless c epsilon e = tt
leaf_markless c (action a) e = tt
leaf_markless c (predicate p) e = tt
leaf_markless c (call k) e = tt
leaf_markless c (token n) e = refl
leaf_markless c terminal e = refl
leaf_markless c end_of_input e = absurd (true≢false e)

elements_markless : (d : ℕ) → ((b : Block d) → OnBlock NotEnd d b → Markless (erase_block d b)) → (es : List (Element (Block d)))
    → AllOf (OnElement NotEnd (OnBlock NotEnd d)) es → Markless (erase_elements (erase_block d) es)
unfolding erase_element
elements_markless d inner [] p = tt
elements_markless d inner (leaf h l ∷ es) p = (
  markless_quantified h.quantifier (erase_leaf h.carried l) (leaf_markless h.carried l p.0),
  elements_markless d inner es p.1,
)
elements_markless d inner (block h b ∷ es) p =
    (markless_quantified h.quantifier (erase_block d b) (inner b p.0), elements_markless d inner es p.1)

block_markless : (d : ℕ) (b : Block d) → OnBlock NotEnd d b → Markless (erase_block d b)
unfolding OnBlock erase_block
block_markless zero b p = absurd b
block_markless (suc d) [] p = tt
block_markless (suc d) (a ∷ as') p = (elements_markless d (block_markless d) a.elements p.0, block_markless (suc d) as' p.1)

-- A grammar without kind 7.
module _ (d : ℕ) (rs : List (RuleOf (Block d))) (none : NoEnd d rs) where
  bodies_markless : (key : RuleOf (Block d) → ℕ) (n : ℕ) (b : Shape) → find (bodies_by d key rs) n ≡ some b
      → Markless b
  bodies_markless key n b f =
      let (r, m, _, e) = found_rule d key rs n f in
      subst Markless e (block_markless d r.body (none.everywhere r m))

  rule_no_mark : (i : ℕ) (w : Word) → RuleDerives d rs i w → any is_mark w ≡ false
  rule_no_mark i w x = markless_word (bodies_markless (λ r. r.name)) x.tree (bodies_markless (λ r. r.id) i x.body x.found)

  no_marks : all is_mark [] ≡ true
  unfolding all
  no_marks = refl

  pub empties : EmptyIsEmpty d rs
  empties =
      record {
        no_mark = rule_no_mark;
        of_rule = λ i. (
          λ x. subst (RuleDerives d rs i) (no_mark_empty x.word (rule_no_mark i x.word x.derives) x.marks) x.derives,
          λ x. record { word = []; marks = no_marks; derives = x },
        );
        of_alternative = λ k es p.
            empty_is_empty (bodies_markless (λ r. r.name)) (erase_elements (erase_block k) es)
            (elements_markless k (block_markless k) es p);
        of_block = λ k b p. empty_is_empty (bodies_markless (λ r. r.name)) (erase_block k b) (block_markless k b p);
      }

-- Left corners past kind 7.
module _ (G : Shapes) where
  mark_stops : (c : Corners) (q : ℕ) → stops c G (quantified q (symbol end_symbol)) ≡ false
  unfolding stops is_symbol is_mark
  mark_stops rust q = symbol_quantified G q (symbol end_symbol)
  mark_stops textbook q = refl

  end_skipped : (c : Corners) (d : ℕ) (h : ElementHead) → Skippable c G (erase_element (erase_block d) (leaf h end_of_input))
  unfolding erase_element erase_leaf is_mark
  end_skipped c d h =
      record {
        empty = (quantified_empty h.quantifier (symbol end_symbol)).1 (inr ((symbol_empty end_symbol).1 refl));
        goes_on = mark_stops c h.quantifier;
      }

  no_corner : {c : Corners} {n : ℕ} → Corner c G (symbol end_symbol) n → ⊥
  no_corner k = elim k [ ]

  past_end : (c : Corners) (d : ℕ) (h : ElementHead) (front rest : List (Element (Block d))) {n : ℕ}
      → Corner c G (erase_elements (erase_block d) (front ++ (leaf h end_of_input ∷ rest))) n
      → Corner c G (erase_elements (erase_block d) (front ++ rest)) n
  unfolding erase_element erase_leaf
  past_end c d h [] rest (c_first k) = absurd (no_corner ((corner_quantified h.quantifier (symbol end_symbol)).0 k))
  past_end c d h [] rest (c_later s k) = k
  past_end c d h (e ∷ front) rest (c_first k) = c_first k
  past_end c d h (e ∷ front) rest (c_later s k) = c_later s (past_end c d h front rest k)

  behind_end : (c : Corners) (d : ℕ) (h : ElementHead) (front rest : List (Element (Block d))) {n : ℕ}
      → Corner c G (erase_elements (erase_block d) (front ++ rest)) n
      → Corner c G (erase_elements (erase_block d) (front ++ (leaf h end_of_input ∷ rest))) n
  behind_end c d h [] rest k = c_later (end_skipped c d h) k
  behind_end c d h (e ∷ front) rest (c_first k) = c_first k
  behind_end c d h (e ∷ front) rest (c_later s k) = c_later s (behind_end c d h front rest k)

  pub end_looked_past : EndSkipped G
  end_looked_past =
      record {
        skipped = end_skipped;
        corners = λ c d h front rest n. (past_end c d h front rest, behind_end c d h front rest);
        left_corners = λ d h front rest n. (
          λ k.
              (textbook_corner G d (front ++ rest) n).0
              (past_end textbook d h front rest ((textbook_corner G d (front ++ (leaf h end_of_input ∷ rest)) n).1 k)),
          λ k.
              (textbook_corner G d (front ++ (leaf h end_of_input ∷ rest)) n).0
              (behind_end textbook d h front rest ((textbook_corner G d (front ++ rest) n).1 k)),
        );
      }
