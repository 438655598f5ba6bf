-- What is taken of each node of a tree, by its sort and id, in the order in which the nodes stand (SPECIFICATION 11.4): an
-- element, its label, then its action, its predicate or the alternatives in it.
use Rattle.std.specs.Prelude.{ℕ, zero, suc, List, [], ◌++◌}
use Rattle.grammar.specs.Lists.{each}
use Rattle.grammar.specs.Numbers.{alternative_sort, element_sort, label_sort, action_sort, predicate_sort}
use Rattle.grammar.specs.Tree.{Label, unlabelled, labelled, ElementHead, Leaf, epsilon, action, predicate, call, token, terminal}
use Rattle.grammar.specs.Tree.{end_of_input, Element, leaf, block, AlternativeOf, Block}

module _ (taken : (sort id : ℕ) → List ℕ) where
  unfoldable pub label_nodes : Label → List ℕ
  label_nodes unlabelled = []
  label_nodes (labelled i n) = taken label_sort i

  unfoldable pub head_nodes : ElementHead → List ℕ
  head_nodes h = taken element_sort h.id ++ label_nodes h.label

  unfoldable pub leaf_nodes : Leaf → List ℕ
  leaf_nodes epsilon = []
  leaf_nodes (action a) = taken action_sort a.id
  leaf_nodes (predicate p) = taken predicate_sort p.id
  leaf_nodes (call c) = []
  leaf_nodes (token n) = []
  leaf_nodes terminal = []
  leaf_nodes end_of_input = []

  module _ {B : Type 0} (block_nodes : B → List ℕ) where
    unfoldable pub element_nodes : Element B → List ℕ
    element_nodes (leaf h l) = head_nodes h ++ leaf_nodes l
    element_nodes (block h b) = head_nodes h ++ block_nodes b

    unfoldable pub alternative_nodes : AlternativeOf B → List ℕ
    alternative_nodes a = taken alternative_sort a.id ++ each element_nodes a.elements

  unfoldable pub block_nodes : (d : ℕ) → Block d → List ℕ
  block_nodes zero b = absurd b
  block_nodes (suc d) as' = each (alternative_nodes (block_nodes d)) as'
