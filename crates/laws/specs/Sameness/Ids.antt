-- The ids in a tree are as they were under other names and other carried numbers.
use Prim.Native.Nat.{ℕ, zero, suc}
use Rattle.std.specs.Prelude.{◌≡◌, eqb}
use Rattle.std.proofs.Math.Path.{refl, ap, ap₂}
use mathlib.Core.List.{List, ◌++◌}
use Rattle.grammar.specs.Lists.{only}
use Rattle.grammar.specs.Numbers.{alternative_sort, element_sort}
use Rattle.grammar.specs.Ids.{label_ids, head_ids, leaf_ids, element_ids, alternative_ids, block_ids}
use Rattle.grammar.specs.Tree.{Label, unlabelled, labelled, ElementHead, Leaf, epsilon, action, predicate, call, token, terminal}
use Rattle.grammar.specs.Tree.{end_of_input, Element, leaf, block, Block}
use Rattle.laws.specs.Lists.Mapped.{each_same}
use Rattle.laws.specs.Demands.Marks.{on_label, on_head, on_leaf, on_element, on_alternative, on_block}

module _ (f r pr : ℕ → ℕ) (sort : ℕ) where
  label_ids_lem : (l : Label) → label_ids sort (on_label f r pr l) ≡ label_ids sort l
  unfolding label_ids
  label_ids_lem unlabelled = refl
  label_ids_lem (labelled i n) = refl

  leaf_ids_lem : (l : Leaf) → leaf_ids sort (on_leaf f r pr l) ≡ leaf_ids sort l
  unfolding leaf_ids on_leaf
  leaf_ids_lem epsilon = refl
  leaf_ids_lem (action a) = refl
  leaf_ids_lem (predicate p) = refl
  leaf_ids_lem (call c) = refl
  leaf_ids_lem (token n) = refl
  leaf_ids_lem terminal = refl
  leaf_ids_lem end_of_input = refl

  head_ids_lem : (h : ElementHead) → head_ids sort (on_head f r pr h) ≡ head_ids sort h
  unfolding head_ids
  head_ids_lem h = ap (λ l. only (eqb sort element_sort) h.id ++ l) (label_ids_lem h.label)

  element_ids_lem : {B : Type 0} (on_b : B → B) (ids : B → List ℕ) → ((b : B) → ids (on_b b) ≡ ids b) → (e : Element B)
      → element_ids sort ids (on_element f r pr on_b e) ≡ element_ids sort ids e
  unfolding element_ids on_element
  element_ids_lem on_b ids h (leaf x l) = ap₂ ◌++◌ (head_ids_lem x) (leaf_ids_lem l)
  element_ids_lem on_b ids h (block x b) = ap₂ ◌++◌ (head_ids_lem x) (h b)

  -- The ids of one sort in a body.
  pub block_ids_lem : (d : ℕ) (b : Block d) → block_ids sort d (on_block f r pr d b) ≡ block_ids sort d b
  unfolding block_ids on_block alternative_ids
  block_ids_lem zero b = absurd b
  block_ids_lem (suc d) as' =
      let ids = element_ids sort (block_ids sort d) in
      each_same (on_alternative f r pr (on_block f r pr d)) (alternative_ids sort (block_ids sort d))
      (alternative_ids sort (block_ids sort d))
      (λ a. ap (λ l. only (eqb sort alternative_sort) a.id ++ l)
      (each_same (on_element f r pr (on_block f r pr d)) ids ids
      (element_ids_lem (on_block f r pr d) (block_ids sort d) (block_ids_lem d)) a.elements)) as'
