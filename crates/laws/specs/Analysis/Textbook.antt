-- The textbook reading of left corners is that of SPECIFICATION 13.11.
use Prim.Native.Nat.{ℕ, zero, suc}
use Rattle.std.proofs.Math.Path.{refl, subst}
use Rattle.std.proofs.Common.{ap}
use Rattle.std.specs.Prelude.{◌↔◌}
use mathlib.Core.List.{List, [], ◌∷◌, ◌++◌, map, Memᴰ}
use Rattle.grammar.specs.Lists.{AllOf}
use Rattle.grammar.specs.Tree.{ElementHead, Leaf, epsilon, action, predicate, call, token, terminal, end_of_input, Element, leaf, block}
use Rattle.grammar.specs.Tree.{Block}
use Rattle.language.specs.Shape.{Shape, alts, call_of, erase_leaf, erase_element, erase_elements, erase_block, Shapes}
use Rattle.language.specs.Derive.{CanBeEmpty}
use Rattle.grammar.specs.Corners.{textbook}
use Rattle.language.specs.LeftCorners.{stops, Corner, c_call, c_first, c_later, c_left, c_right}
use Rattle.language.specs.Cycles.{LeftCorner, called, inside}
use Rattle.language.specs.Laws.Corner.{corner_quantified}

module _ {G : Shapes} where
  -- One more element that can be empty in front.
  further : {d : ℕ} {es : List (Element (Block d))} {n : ℕ} (e : Element (Block d)) → CanBeEmpty G (erase_element (erase_block d) e)
      → LeftCorner G d es n → LeftCorner G d (e ∷ es) n
  further e o (called front rest h c w s f) = called (e ∷ front) rest h c (ap (λ l. e ∷ l) w) (o, s) f
  further e o (inside front rest h b w s m k) = inside (e ∷ front) rest h b (ap (λ l. e ∷ l) w) (o, s) m k

  at_leaf : {d : ℕ} (h : ElementHead) (l : Leaf) (es : List (Element (Block d))) {n : ℕ} → Corner textbook G (erase_leaf h.carried l) n
      → LeftCorner G d (leaf h l ∷ es) n
  unfolding erase_leaf
  at_leaf h epsilon es k = elim k [ ]
  at_leaf h (action a) es k = elim k [ ]
  at_leaf h (predicate p) es k = elim k [ ]
  at_leaf h (call c) es (c_call e) = called [] es h c refl tt e
  at_leaf h (token n) es k = elim k [ ]
  at_leaf h terminal es k = elim k [ ]
  at_leaf h end_of_input es k = elim k [ ]

  -- The alternative of a block with the left corner.
  alternative_of : {B : Type 0} (f : B → Shape) (bs : List B) {n : ℕ} → Corner textbook G (alts (map f bs)) n
      → (b : B) × Memᴰ b bs × Corner textbook G (f b) n
  alternative_of f [] k = elim k [ ]
  alternative_of f (b ∷ bs) (c_left k) = (b, Memᴰ.head refl, k)
  alternative_of f (b ∷ bs) (c_right k) = let r = alternative_of f bs k in (r.0, Memᴰ.tail r.1, r.2)

  of_alternative : {B : Type 0} (f : B → Shape) {b : B} {bs : List B} {n : ℕ} → Memᴰ b bs → Corner textbook G (f b) n
      → Corner textbook G (alts (map f bs)) n
  of_alternative f {n = n} (Memᴰ.head e) k = c_left (subst (λ x. Corner textbook G (f x) n) e k)
  of_alternative f (Memᴰ.tail m) k = c_right (of_alternative f m k)

  module _ (d : ℕ) (inner : (h : ElementHead) (b : Block d) (es : List (Element (Block d))) (n : ℕ) → Corner textbook G (erase_block d b) n
      → LeftCorner G d (block h b ∷ es) n) where
    found_at : (e : Element (Block d)) (es : List (Element (Block d))) {n : ℕ} → Corner textbook G (erase_element (erase_block d) e) n
        → LeftCorner G d (e ∷ es) n
    unfolding erase_element
    found_at (leaf h l) es k = at_leaf h l es ((corner_quantified h.quantifier (erase_leaf h.carried l)).0 k)
    found_at (block h b) es {n} k = inner h b es n ((corner_quantified h.quantifier (erase_block d b)).0 k)

    found_in : (es : List (Element (Block d))) {n : ℕ} → Corner textbook G (erase_elements (erase_block d) es) n → LeftCorner G d es n
    found_in [] k = elim k [ ]
    found_in (e ∷ es) (c_first k) = found_at e es k
    found_in (e ∷ es) (c_later o k) = further e o.empty (found_in es k)

  in_block : (d : ℕ) (h : ElementHead) (b : Block d) (es : List (Element (Block d))) (n : ℕ) → Corner textbook G (erase_block d b) n
      → LeftCorner G d (block h b ∷ es) n
  unfolding erase_block
  in_block zero h b es n k = absurd b
  in_block (suc d) h b es n k =
      let (a, m, j) = alternative_of (λ a. erase_elements (erase_block d) a.elements) b k in
      inside [] es h b refl tt m (found_in d (in_block d) a.elements j)

  -- Behind what can be empty.
  behind : (d : ℕ) (front rest : List (Element (Block d))) (e : Element (Block d)) {n : ℕ}
      → AllOf (λ e. CanBeEmpty G (erase_element (erase_block d) e)) front
      → Corner textbook G (erase_element (erase_block d) e) n → Corner textbook G (erase_elements (erase_block d) (front ++ (e ∷ rest))) n
  unfolding stops
  behind d [] rest e s k = c_first k
  behind d (f ∷ front) rest e s k = c_later (record { empty = s.0; goes_on = refl }) (behind d front rest e s.1 k)

  is_corner : {d : ℕ} {es : List (Element (Block d))} {n : ℕ} → LeftCorner G d es n
      → Corner textbook G (erase_elements (erase_block d) es) n
  unfolding erase_element erase_leaf erase_block
  is_corner {d} {n = n} (called front rest h c w s f) =
      subst (λ l. Corner textbook G (erase_elements (erase_block d) l) n) w
      (behind d front rest (leaf h (call c)) s ((corner_quantified h.quantifier (call_of n)).1 (c_call f)))
  is_corner {n = n} (inside {d = d} front rest h b w s m k) =
      subst (λ l. Corner textbook G (erase_elements (erase_block (suc d)) l) n) w
      (behind (suc d) front rest (block h b) s
      ((corner_quantified h.quantifier (erase_block (suc d) b)).1
      (of_alternative (λ a. erase_elements (erase_block d) a.elements) m (is_corner k))))

-- The textbook reading is that of SPECIFICATION 13.11.
pub textbook_corner : (G : Shapes) (d : ℕ) (es : List (Element (Block d))) (n : ℕ)
    → Corner textbook G (erase_elements (erase_block d) es) n ↔ LeftCorner G d es n
textbook_corner G d es n = (found_in d (in_block d) es, is_corner)
