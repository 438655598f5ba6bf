-- The definition's walk for left corners is the list that shapes have.
use Prim.Native.Nat.{ℕ, zero, suc}
use Rattle.std.specs.Prelude.{◌≡◌, Bool, true, false, ◌&&◌}
use Rattle.std.proofs.Math.Path.{refl, ap₂}
use Rattle.std.proofs.Common.{ap, ◌∙◌, true≢false}
use mathlib.Core.List.{List, [], ◌∷◌, ◌++◌, append-nil}
use Rattle.std.proofs.Math.Option.{Option, none, some}
use Rattle.std.proofs.Math.Bool.{not}
use Rattle.grammar.specs.Tree.{Leaf, epsilon, action, predicate, call, token, terminal, end_of_input, Element, leaf, block, Block}
use Rattle.grammar.specs.Lists.{each}
use Rattle.grammar.specs.Laws.Lists.{each_append}
use Rattle.language.specs.Shape.{Shape, quantified, erase_leaf, erase_element, erase_elements, erase_block, Shapes, find, is_mark}
use Rattle.grammar.specs.Corners.{Corners, rust, textbook}
use Rattle.language.specs.LeftCorners.{is_missing, is_symbol, stops}
use Rattle.language.specs.Laws.Quantifier.{quantified_cases}
use Rattle.language.specs.Laws.Empty.{empty_if}
use Rattle.language.specs.Laws.Corner.{corners_of, given, if_found, symbol_quantified}
use Rattle.reference.specs.Walks.{sort_of, is_end}
use Rattle.reference.specs.Analysis.{Grammar, target, calls, is_stop, block_is_nullable, collect_left_corner_calls, block_corners}
use Rattle.laws.specs.Analysis.Names.{is_unknown}
use Rattle.laws.specs.Analysis.Nullable.{named, element_test, block_test}

abbrev pub to_id : Option ℕ → List ℕ
to_id none = []
to_id (some t) = t ∷ []

each_given : {A : Type 0} (f : A → List ℕ) (b : Bool) (xs : List A) → each f (given b xs) ≡ given b (each f xs)
each_given f true xs = refl
each_given f false xs = refl

module _ (c : Corners) (g : Grammar) (G : Shapes) (known : (n : ℕ) → is_missing (find G n) ≡ is_unknown (target g n)) where
  -- The ids that a name stands for, one or none.
  abbrev pub ids : ℕ → List ℕ
  ids n = to_id (target g n)

  abbrev pub list : Shape → List ℕ
  list s = corners_of c G (empty_if (named g)) s

  list_quantified : (q : ℕ) (s : Shape) → list (quantified q s) ≡ list s
  unfolding corners_of
  list_quantified q s = quantified_cases (λ o t. list t ≡ list s) q s refl refl refl refl

  stops_quantified : (c : Corners) (q : ℕ) (s : Shape) → stops c G (quantified q s) ≡ stops c G s
  unfolding stops
  stops_quantified rust q s = symbol_quantified G q s
  stops_quantified textbook q s = refl

  no_id : (t : Option ℕ) → true ≡ is_unknown t → [] ≡ to_id t
  no_id none e = refl
  no_id (some t) e = absurd (true≢false e)

  found_ids : (n : ℕ) (o : Option Shape) → is_missing o ≡ is_unknown (target g n) → each ids (if_found n o) ≡ ids n
  found_ids n none e = no_id (target g n) e
  found_ids n (some b) e = append-nil (to_id (target g n))

  leaf_list : (k : ℕ) (l : Leaf) → each ids (list (erase_leaf k l)) ≡ calls g l
  unfolding corners_of erase_leaf calls sort_of
  leaf_list k epsilon = refl
  leaf_list k (action a) = refl
  leaf_list k (predicate p) = refl
  leaf_list k (call c) = found_ids c.name (find G c.name) (known c.name)
  leaf_list k (token n) = refl
  leaf_list k terminal = refl
  leaf_list k end_of_input = refl

  leaf_stops : (c : Corners) (k : ℕ) (l : Leaf) → stops c G (erase_leaf k l) ≡ is_stop c g l
  unfolding stops is_stop is_symbol erase_leaf sort_of is_end is_mark
  leaf_stops textbook k l = refl
  leaf_stops rust k epsilon = refl
  leaf_stops rust k (action a) = refl
  leaf_stops rust k (predicate p) = refl
  leaf_stops rust k (call c) = known c.name
  leaf_stops rust k (token n) = refl
  leaf_stops rust k terminal = refl
  leaf_stops rust k end_of_input = refl

  given_elim : (b : Bool) (xs : List ℕ) → given b xs ≡ elim b as (λ x. List ℕ) [ true ↦ xs | false ↦ [] ]
  given_elim true xs = refl
  given_elim false xs = refl

  -- One element in front.
  front_list : (s : Shape) (t : Bool) (ys : List ℕ) {front more : List ℕ} {u : Bool} → each ids (list s) ≡ front → t ≡ u
      → each ids ys ≡ more
      → each ids (list s ++ given t ys) ≡ front ++ elim u as (λ x. List ℕ) [ true ↦ more | false ↦ [] ]
  front_list s t ys {more = more} {u = u} p q r =
      each_append ids (list s) (given t ys) ∙ ap₂ ◌++◌ p (each_given ids t ys ∙ ap₂ given q r ∙ given_elim u more)

  block_stops : (c : Corners) (d : ℕ) (b : Block d) → stops c G (erase_block d b) ≡ false
  unfolding stops is_symbol erase_block
  block_stops textbook d b = refl
  block_stops rust zero b = absurd b
  block_stops rust (suc d) [] = refl
  block_stops rust (suc d) (a ∷ as') = refl

  module _ (d : ℕ) (h : (b : Block d) → each ids (list (erase_block d b)) ≡ block_corners c g d b) where
    -- The walk through an alternative.
    pub elements_list : (es : List (Element (Block d)))
        → each ids (list (erase_elements (erase_block d) es))
        ≡ collect_left_corner_calls c g (block_corners c g d) (block_is_nullable g d) es
    unfolding corners_of collect_left_corner_calls erase_element
    elements_list [] = refl
    elements_list (leaf x l ∷ es) =
        let s = erase_leaf x.carried l in
        front_list (quantified x.quantifier s) _ _ (ap (each ids) (list_quantified x.quantifier s) ∙ leaf_list x.carried l)
        (ap₂ (λ a b. not a && b) (stops_quantified c x.quantifier s ∙ leaf_stops c x.carried l)
        (element_test g (erase_block d) (block_is_nullable g d) (block_test g d) (leaf x l)))
        (elements_list es)
    elements_list (block x b ∷ es) =
        let s = erase_block d b in
        front_list (quantified x.quantifier s) _ _ (ap (each ids) (list_quantified x.quantifier s) ∙ h b)
        (ap₂ (λ a b. not a && b) (stops_quantified c x.quantifier s ∙ block_stops c d b)
        (element_test g (erase_block d) (block_is_nullable g d) (block_test g d) (block x b)))
        (elements_list es)

  -- The walk through a block or a body.
  pub block_list : (d : ℕ) (b : Block d) → each ids (list (erase_block d b)) ≡ block_corners c g d b
  unfolding corners_of erase_block block_corners
  block_list zero b = absurd b
  block_list (suc d) [] = refl
  block_list (suc d) (a ∷ as') =
      each_append ids (list (erase_elements (erase_block d) a.elements)) (list (erase_block (suc d) as'))
      ∙ ap₂ ◌++◌ (elements_list d (block_list d) a.elements) (block_list (suc d) as')
