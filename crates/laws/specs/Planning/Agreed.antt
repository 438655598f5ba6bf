-- Two grammars that agree on the names that a tree calls find the same in it: calls, what can be empty, left corners.
use Prim.Native.Nat.{ℕ, zero, suc}
use Rattle.std.specs.Prelude.{◌≡◌, Bool}
use Rattle.std.proofs.Math.Path.{refl, ap, ap₂}
use mathlib.Core.List.{List, [], ◌∷◌, ◌++◌}
use Rattle.std.proofs.Math.Bool.{true, false, ◌&&◌, ◌||◌, not}
use Rattle.grammar.specs.Lists.{all, any}
use Rattle.grammar.specs.Tree.{Leaf, epsilon, action, predicate, call, token, terminal, end_of_input, Element, leaf, block, Block}
use Rattle.grammar.specs.Corners.{Corners, rust, textbook}
use Rattle.language.specs.Shape.{Shape, erase_leaf, erase_element, erase_elements, erase_block, EachCall}
use Rattle.reference.specs.Walks.{silent, consuming, calling, sort_of, is_end, is_optional, element_gives, block_gives, elements_give}
use Rattle.reference.specs.Analysis.{Grammar, target, calls, collect_calls_in_elements, collect_calls_into, leaf_nullable, element_nullable}
use Rattle.reference.specs.Analysis.{block_is_nullable, is_stop, collect_left_corner_calls, block_corners, left_corners}
use Rattle.laws.specs.Analysis.Names.{is_unknown}
use Rattle.laws.specs.Analysis.Nullable.{named}
use Rattle.laws.specs.Analysis.Corners.{to_id}
use Rattle.laws.specs.Planning.Calls.{each_call_map, unquantified}

-- A name means the same rule in both, or none, and is nullable in both or in neither.
pub record Agree (g h : Grammar) (n : ℕ) : Type 0 where
  pub means : target g n ≡ target h n
  pub empty : named g n ≡ named h n

-- What depends on a leaf's sort, and on the name alone where it is a call.
abbrev by_sort : {A : Type 0} → A → A → (ℕ → A) → Leaf → A
by_sort u v f l = elim (sort_of l) [ silent ↦ u | consuming ↦ v | calling c ↦ f c.name ]

sort_same : {A : Type 0} (u v : A) (f k : ℕ → A) (x : ℕ) (l : Leaf) → EachCall (λ n. f n ≡ k n) (erase_leaf x l)
    → by_sort u v f l ≡ by_sort u v k l
unfolding erase_leaf sort_of
sort_same u v f k x epsilon p = refl
sort_same u v f k x (action a) p = refl
sort_same u v f k x (predicate a) p = refl
sort_same u v f k x (call c) p = p
sort_same u v f k x (token n) p = refl
sort_same u v f k x terminal p = refl
sort_same u v f k x end_of_input p = refl

module _ (g h : Grammar) where
  abbrev pub Agreed : Shape → Type 0
  Agreed = EachCall (Agree g h)

  leaf_calls : (x : ℕ) (l : Leaf) → Agreed (erase_leaf x l) → calls g l ≡ calls h l
  unfolding calls
  leaf_calls x l p =
      sort_same [] [] (λ n. to_id (target g n)) (λ n. to_id (target h n)) x l
      (each_call_map (λ n a. ap to_id a.means) (erase_leaf x l) p)

  leaf_empty : (x : ℕ) (l : Leaf) → Agreed (erase_leaf x l) → leaf_nullable g l ≡ leaf_nullable h l
  unfolding leaf_nullable named
  leaf_empty x l p =
      ap (λ b. is_end l || b) (sort_same true false (named g) (named h) x l (each_call_map (λ n a. a.empty) (erase_leaf x l) p))

  leaf_stops : (c : Corners) (x : ℕ) (l : Leaf) → Agreed (erase_leaf x l) → is_stop c g l ≡ is_stop c h l
  unfolding is_stop
  leaf_stops textbook x l p = refl
  leaf_stops rust x l p =
      ap (λ b. not (is_end l) && b)
      (sort_same false true (λ n. is_unknown (target g n)) (λ n. is_unknown (target h n)) x l
      (each_call_map (λ n a. ap is_unknown a.means) (erase_leaf x l) p))

  -- Of an alternative's elements.
  record ElementsAlike (d : ℕ) (es : List (Element (Block d))) : Type 0 where
    calls : collect_calls_in_elements g d es ≡ collect_calls_in_elements h d es
    empty : all (element_nullable g (block_is_nullable g d)) es ≡ all (element_nullable h (block_is_nullable h d)) es
    corners : (c : Corners) → left_corners c g d es ≡ left_corners c h d es

  -- Of a block, or a body.
  pub record BlockAlike (d : ℕ) (b : Block d) : Type 0 where
    pub calls : collect_calls_into g d b ≡ collect_calls_into h d b
    pub empty : block_is_nullable g d b ≡ block_is_nullable h d b
    pub corners : (c : Corners) → block_corners c g d b ≡ block_corners c h d b

  -- The left corners behind an element, where the search goes on.
  abbrev onward : Bool → List ℕ → List ℕ
  onward b is = elim b as (λ x. List ℕ) [ true ↦ is | false ↦ [] ]

  module _ (d : ℕ) (inner : (b : Block d) → Agreed (erase_block d b) → BlockAlike d b) where
    elements_alike : (es : List (Element (Block d))) → Agreed (erase_elements (erase_block d) es) → ElementsAlike d es
    unfolding collect_calls_in_elements elements_give element_gives collect_calls_into element_nullable all
        left_corners collect_left_corner_calls erase_element
    elements_alike [] p = record { calls = refl; empty = refl; corners = λ c. refl }
    elements_alike (leaf x l ∷ es) p =
        let q = unquantified (Agree g h) x.quantifier (erase_leaf x.carried l) p.0 in
        let more = elements_alike es p.1 in
        let same = ap (λ b. is_optional x || b) (leaf_empty x.carried l q) in
        record {
          calls = ap₂ ◌++◌ (leaf_calls x.carried l q) more.calls;
          empty = ap₂ ◌&&◌ same more.empty;
          corners = λ c.
              ap₂ ◌++◌ (leaf_calls x.carried l q)
              (ap₂ onward (ap₂ (λ a b. not a && b) (leaf_stops c x.carried l q) same) (more.corners c));
        }
    elements_alike (block x b ∷ es) p =
        let r = inner b (unquantified (Agree g h) x.quantifier (erase_block d b) p.0) in
        let more = elements_alike es p.1 in
        let same = ap (λ b. is_optional x || b) r.empty in
        record {
          calls = ap₂ ◌++◌ r.calls more.calls;
          empty = ap₂ ◌&&◌ same more.empty;
          corners = λ c. ap₂ ◌++◌ (r.corners c) (ap₂ onward same (more.corners c));
        }

  pub block_alike : (d : ℕ) (b : Block d) → Agreed (erase_block d b) → BlockAlike d b
  unfolding erase_block collect_calls_into block_gives block_is_nullable block_corners collect_calls_in_elements elements_give
      left_corners any
  block_alike zero b p = absurd b
  block_alike (suc d) [] p = record { calls = refl; empty = refl; corners = λ c. refl }
  block_alike (suc d) (a ∷ as') p =
      let r = elements_alike d (block_alike d) a.elements p.0 in
      let more = block_alike (suc d) as' p.1 in
      record {
        calls = ap₂ ◌++◌ r.calls more.calls;
        empty = ap₂ ◌||◌ r.empty more.empty;
        corners = λ c. ap₂ ◌++◌ (r.corners c) (more.corners c);
      }
