-- The ids of a tree by sort, nested ones too, in the order in which they stand in the sheet (SPECIFICATION 2.18).
use Rattle.std.specs.Prelude.{ℕ, zero, suc, List, [], ◌++◌, map, Bool, ◌&&◌, eqb}
use Rattle.grammar.specs.Tree.{Label, unlabelled, labelled, ElementHead, Leaf, epsilon, action, predicate, call, token, terminal}
use Rattle.grammar.specs.Tree.{end_of_input, Element, leaf, block, AlternativeOf, Block, Rule, body_depth, Counters}
use Rattle.grammar.specs.Numbers.{alternative_sort, element_sort, label_sort, action_sort, predicate_sort}
use Rattle.grammar.specs.Lists.{each, only, distinct, below}

module _ (sort : ℕ) where
  unfoldable pub label_ids : Label → List ℕ
  label_ids unlabelled = []
  label_ids (labelled i n) = only (eqb sort label_sort) i

  unfoldable pub head_ids : ElementHead → List ℕ
  head_ids h = only (eqb sort element_sort) h.id ++ label_ids h.label

  unfoldable pub leaf_ids : Leaf → List ℕ
  leaf_ids epsilon = []
  leaf_ids (action a) = only (eqb sort action_sort) a.id
  leaf_ids (predicate p) = only (eqb sort predicate_sort) p.id
  leaf_ids (call c) = []
  leaf_ids (token n) = []
  leaf_ids terminal = []
  leaf_ids end_of_input = []

  module _ {B : Type 0} (block_ids : B → List ℕ) where
    unfoldable pub element_ids : Element B → List ℕ
    element_ids (leaf h l) = head_ids h ++ leaf_ids l
    element_ids (block h b) = head_ids h ++ block_ids b

    unfoldable pub alternative_ids : AlternativeOf B → List ℕ
    alternative_ids a = only (eqb sort alternative_sort) a.id ++ each element_ids a.elements

  unfoldable pub block_ids : (d : ℕ) → Block d → List ℕ
  block_ids zero b = absurd b
  block_ids (suc d) as' = each (alternative_ids (block_ids d)) as'

  abbrev pub body_ids : List Rule → List ℕ
  body_ids = each λ r. block_ids body_depth r.body

abbrev pub rule_ids : List Rule → List ℕ
rule_ids = map λ r. r.id

abbrev pub rule_names : List Rule → List ℕ
rule_names = map λ r. r.name

-- What refusal 5 excludes (SPECIFICATION 4.5).
unfoldable pub is_distinct : List Rule → Bool
is_distinct rs =
    distinct (rule_ids rs)
    && (distinct (rule_names rs)
    && (distinct (body_ids alternative_sort rs)
    && (distinct (body_ids element_sort rs)
    && (distinct (body_ids label_sort rs) && (distinct (body_ids action_sort rs) && distinct (body_ids predicate_sort rs))))))

-- What refusal 6 excludes (SPECIFICATION 4.6).
unfoldable pub is_below : Counters → List Rule → Bool
is_below c rs =
    below c.alternative (body_ids alternative_sort rs)
    && (below c.element (body_ids element_sort rs)
    && (below c.label (body_ids label_sort rs)
    && (below c.action (body_ids action_sort rs) && below c.predicate (body_ids predicate_sort rs))))
