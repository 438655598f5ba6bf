-- Grammars without a symbol of quantifier 1 to 4: the two readings list the same left corners, and a plan leaves no such symbol.
use Prim.Native.Nat.{ℕ, zero, suc}
use Rattle.std.specs.Prelude.{◌≡◌, Bool, ◌&&◌, not}
use Rattle.std.proofs.Math.Path.{refl, ap₂}
use Rattle.std.proofs.Common.{ap, ◌∙◌}
use mathlib.Core.List.{List, [], ◌∷◌, ◌++◌}
use Rattle.std.proofs.Math.Option.{Option, none, some}
use Rattle.std.proofs.Math.Bool.{true, false}
use Rattle.std.proofs.lemmas.Bool.{false≢true}
use Rattle.grammar.specs.Lists.{AllOf}
use Rattle.grammar.specs.Tree.{ElementHead, Leaf, epsilon, action, predicate, call, token, terminal, end_of_input, leaf, block, Block}
use Rattle.language.specs.Shape.{Shape, erase_leaf, erase_element, erase_block, Shapes, find, EachCall, OnElement, OnBlock}
use Rattle.grammar.specs.Corners.{rust, textbook}
use Rattle.language.specs.LeftCorners.{is_missing, IsSymbol, is_token, is_terminal, unknown_name}
use Rattle.grammar.specs.Laws.Parse.{either}
use Rattle.language.specs.Laws.Copies.{drop_leaf_id}
use Rattle.reference.specs.Walks.{sort_of, is_end}
use Rattle.reference.specs.Analysis.{Grammar, target, calls, leaf_nullable, element_nullable, block_is_nullable, is_stop}
use Rattle.reference.specs.Analysis.{collect_left_corner_calls}
use Rattle.reference.specs.Analysis.{block_corners, left_corners}
use Rattle.laws.specs.Demands.Shape.{NotOptional}
use Rattle.laws.specs.Analysis.Names.{is_unknown}
use Rattle.laws.specs.Planning.Turns.{Items}
use Rattle.laws.specs.Planning.Substituted.{shape_of}
use Rattle.laws.specs.Planning.Calls.{unquantified}
use Rattle.laws.specs.Planning.Everywhere.{Copied}

-- Left corners by either reading.
module _ (g : Grammar) (G : Shapes) (known : (n : ℕ) → is_missing (find G n) ≡ is_unknown (target g n)) where
  no_rule : (o : Option Shape) (t : Option ℕ) → is_missing o ≡ is_unknown t → t ≡ none → o ≡ none
  no_rule none t e f = refl
  no_rule (some b) t e f = absurd (false≢true (e ∙ ap is_unknown f))

  -- Where the Rust stops stands a symbol, and its leaf is not nullable.
  stop_symbol : (l : Leaf) → is_stop rust g l ≡ true → IsSymbol G l × (leaf_nullable g l ≡ false)
  unfolding is_stop sort_of leaf_nullable is_end
  stop_symbol epsilon t = absurd (false≢true t)
  stop_symbol (action a) t = absurd (false≢true t)
  stop_symbol (predicate p) t = absurd (false≢true t)
  stop_symbol (call c) t = go (target g c.name) refl t
    where
      go : (o : Option ℕ) → target g c.name ≡ o → (elim o as (λ x. Bool) [ none ↦ true | some t ↦ false ]) ≡ true
          → IsSymbol G (call c) × ((elim o as (λ x. Bool) [ none ↦ false | some t ↦ Rattle.grammar.specs.Lists.member t g.nullable ])
          ≡ false)
      go none k t = (unknown_name (no_rule (find G c.name) (target g c.name) (known c.name) k), refl)
      go (some i) k t = absurd (false≢true t)
  stop_symbol (token n) t = (is_token, refl)
  stop_symbol terminal t = (is_terminal, refl)
  stop_symbol end_of_input t = absurd (false≢true t)

  module _ (d : ℕ) (same : (b : Block d) → OnBlock (NotOptional G) d b → block_corners rust g d b ≡ block_corners textbook g d b) where
    goes_on : (h : ElementHead) (l : Leaf) → NotOptional G h l
        → (not (is_stop rust g l) && element_nullable g (block_is_nullable g d) (leaf h l))
        ≡ (not (is_stop textbook g l) && element_nullable g (block_is_nullable g d) (leaf h l))
    unfolding is_stop element_nullable
    goes_on h l p =
        either (is_stop rust g l)
        (λ t. let (s, n) = stop_symbol l t in rw (t, p s, n))
        (λ f. rw f)

    elements_same : (es : Items d) → AllOf (OnElement (NotOptional G) (OnBlock (NotOptional G) d)) es
        → collect_left_corner_calls rust g (block_corners rust g d) (block_is_nullable g d) es
        ≡ collect_left_corner_calls textbook g (block_corners textbook g d) (block_is_nullable g d) es
    unfolding collect_left_corner_calls
    elements_same [] p = refl
    elements_same (leaf h l ∷ es) p =
        ap₂ (λ t xs. calls g l ++ elim t as (λ x. List ℕ) [ true ↦ xs | false ↦ [] ]) (goes_on h l p.0) (elements_same es p.1)
    elements_same (block h b ∷ es) p =
        ap₂ (λ ys xs. ys ++ elim (element_nullable g (block_is_nullable g d) (block h b)) as (λ x. List ℕ) [ true ↦ xs | false ↦ [] ])
        (same b p.0) (elements_same es p.1)

  pub corners_same : (d : ℕ) (b : Block d) → OnBlock (NotOptional G) d b → block_corners rust g d b ≡ block_corners textbook g d b
  unfolding block_corners OnBlock
  corners_same zero b p = absurd b
  corners_same (suc d) [] p = refl
  corners_same (suc d) (a ∷ as') p = ap₂ ◌++◌ (elements_same d (corners_same d) a.elements p.0) (corners_same (suc d) as' p.1)

  pub left_same : (d : ℕ) (es : Items d) → AllOf (OnElement (NotOptional G) (OnBlock (NotOptional G) d)) es
      → left_corners rust g d es ≡ left_corners textbook g d es
  unfolding left_corners
  left_same d es p = elements_same d (corners_same d) es p

-- Two properties of each leaf make a third.
module _ {P Q R : ElementHead → Leaf → Type 0} (f : (h : ElementHead) (l : Leaf) → P h l → Q h l → R h l) where
  elements_both : (d : ℕ) → ((b : Block d) → OnBlock P d b → OnBlock Q d b → OnBlock R d b) → (es : Items d)
      → AllOf (OnElement P (OnBlock P d)) es → AllOf (OnElement Q (OnBlock Q d)) es → AllOf (OnElement R (OnBlock R d)) es
  elements_both d g [] p q = tt
  elements_both d g (leaf h l ∷ es) p q = (f h l p.0 q.0, elements_both d g es p.1 q.1)
  elements_both d g (block h b ∷ es) p q = (g b p.0 q.0, elements_both d g es p.1 q.1)

  pub block_both : (d : ℕ) (b : Block d) → OnBlock P d b → OnBlock Q d b → OnBlock R d b
  unfolding OnBlock
  block_both zero b p q = tt
  block_both (suc d) [] p q = tt
  block_both (suc d) (a ∷ as') p q = (elements_both d (block_both d) a.elements p.0 q.0, block_both (suc d) as' p.1 q.1)

-- What is called from a tree.
abbrev pub OnCall : (ℕ → Type 0) → ElementHead → Leaf → Type 0
OnCall Q h epsilon = Unit {0}
OnCall Q h (action a) = Unit {0}
OnCall Q h (predicate p) = Unit {0}
OnCall Q h (call c) = Q c.name
OnCall Q h (token n) = Unit {0}
OnCall Q h terminal = Unit {0}
OnCall Q h end_of_input = Unit {0}

module _ (Q : ℕ → Type 0) where
  leaf_called : (h : ElementHead) (l : Leaf) → EachCall Q (erase_leaf h.carried l) → OnCall Q h l
  unfolding erase_leaf
  leaf_called h epsilon p = tt
  leaf_called h (action a) p = tt
  leaf_called h (predicate x) p = tt
  leaf_called h (call c) p = p
  leaf_called h (token n) p = tt
  leaf_called h terminal p = tt
  leaf_called h end_of_input p = tt

  elements_called : (d : ℕ) → ((b : Block d) → EachCall Q (erase_block d b) → OnBlock (OnCall Q) d b) → (es : Items d)
      → EachCall Q (shape_of d es)
      → AllOf (OnElement (OnCall Q) (OnBlock (OnCall Q) d)) es
  unfolding erase_element
  elements_called d g [] p = tt
  elements_called d g (leaf h l ∷ es) p =
      (leaf_called h l (unquantified Q h.quantifier (erase_leaf h.carried l) p.0), elements_called d g es p.1)
  elements_called d g (block h b ∷ es) p = (g b (unquantified Q h.quantifier (erase_block d b) p.0), elements_called d g es p.1)

  pub block_called : (d : ℕ) (b : Block d) → EachCall Q (erase_block d b) → OnBlock (OnCall Q) d b
  unfolding OnBlock erase_block
  block_called zero b p = tt
  block_called (suc d) [] p = tt
  block_called (suc d) (a ∷ as') p = (elements_called d (block_called d) a.elements p.0, block_called (suc d) as' p.1)

module _ (G : Shapes) where
  symbol_dropped : (l : Leaf) → IsSymbol G l → IsSymbol G (drop_leaf_id l)
  symbol_dropped epsilon s = elim s [ ]
  symbol_dropped (action a) s = elim s [ ]
  symbol_dropped (predicate p) s = elim s [ ]
  symbol_dropped (token n) is_token = is_token
  symbol_dropped terminal is_terminal = is_terminal
  symbol_dropped (call c) (unknown_name e) = unknown_name e
  symbol_dropped end_of_input s = elim s [ ]

  dropped_symbol : (l : Leaf) → IsSymbol G (drop_leaf_id l) → IsSymbol G l
  dropped_symbol epsilon s = elim s [ ]
  dropped_symbol (action a) s = elim s [ ]
  dropped_symbol (predicate p) s = elim s [ ]
  dropped_symbol (call c) (unknown_name e) = unknown_name e
  dropped_symbol (token n) s = is_token
  dropped_symbol terminal s = is_terminal
  dropped_symbol end_of_input s = elim s [ ]

  pub not_optional : Copied (NotOptional G)
  not_optional =
      record {
        dropped = λ h l q s. q (dropped_symbol l s);
        undropped = λ h l q s. q (symbol_dropped l s);
        plain = λ h k s. refl;
      }
