-- What renumbering gives, part by part: words, entries and counters, in the order in which they are drawn.
use Rattle.std.specs.Prelude.{ℕ, suc, ◌+◌, ◌*◌, ◌≡◌, List, [], ◌∷◌, ◌++◌, length}
use Rattle.std.proofs.Math.Path.{refl, ap}
use Rattle.std.proofs.Common.{◌∙◌, append-nil}
use Rattle.grammar.specs.Numbers.{kind_end, block_kind, alternative_sort, element_sort}
use Rattle.grammar.specs.Tree.{Label, unlabelled, labelled, ElementHead, Leaf, epsilon, action, predicate, call, token, terminal}
use Rattle.grammar.specs.Tree.{end_of_input, leaf, block, AlternativeOf, Block, Counters}
use Rattle.grammar.specs.Encode.{label_id, label_name, encode_option, encode_head, leaf_kind, encode_leaf, encode_element}
use Rattle.grammar.specs.Encode.{encode_alternative_in, encode_block_in, encode_element_in}
use Rattle.grammar.specs.Encode.{encode_alternative}
use Rattle.grammar.specs.Encode.{encode_block}
use Rattle.grammar.specs.Lists.{each}
use Rattle.grammar.specs.Laws.Lists.{each_append}
use Rattle.reference.specs.Apply.{Entry, Fresh, clone, past, fresh_each, renumber_label, renumber_head, renumber_leaf, renumber_element}
use Rattle.reference.specs.Apply.{renumber_elements, renumber_alternative, renumber_block}
use Rattle.reference.specs.Run.{encode_entry}
use Rattle.copies.specs.Laws.Drawn.{each_count}

-- The entries of two, one after the other.
pub both_entries : (xs ys : List Entry) → each encode_entry (xs ++ (ys ++ [])) ≡ each encode_entry xs ++ each encode_entry ys
both_entries xs ys =
    each_append encode_entry xs (ys ++ []) ∙ ap (λ l. each encode_entry xs ++ each encode_entry l) (append-nil ys)

-- A head: fixed words, the label's fresh id among them.
module _ (h : ElementHead) (c : Counters) where
  pub head_words_of : (kind : ℕ) → encode_head (renumber_head h c).node kind
      ≡ c.element
      ∷ h.carried
      ∷ (kind + kind_end * h.quantifier)
      ∷ label_id (renumber_label h.label (past element_sort c)).node
      ∷ label_name h.label
      ∷ length h.options
      ∷ each encode_option h.options
  unfolding encode_head renumber_head renumber_label
  head_words_of kind = rw (name h.label (past element_sort c))
    where
      name : (l : Label) (c : Counters) → label_name (renumber_label l c).node ≡ label_name l
      name unlabelled c = refl
      name (labelled i n) c = refl

  pub head_entries_of : (renumber_head h c).entries
      ≡ (clone element_sort c.element h.id ∷ []) ++ (renumber_label h.label (past element_sort c)).entries
  unfolding renumber_head
  head_entries_of = ap (λ l. clone element_sort c.element h.id ∷ l) (append-nil _)

  pub head_counters_of : (renumber_head h c).counters ≡ (renumber_label h.label (past element_sort c)).counters
  unfolding renumber_head
  head_counters_of = refl

-- A leaf stays of its kind.
pub leaf_kind_of : (l : Leaf) (c : Counters) → leaf_kind (renumber_leaf l c).node ≡ leaf_kind l
unfolding renumber_leaf leaf_kind
leaf_kind_of epsilon c = refl
leaf_kind_of (action a) c = refl
leaf_kind_of (predicate p) c = refl
leaf_kind_of (call k) c = refl
leaf_kind_of (token n) c = refl
leaf_kind_of terminal c = refl
leaf_kind_of end_of_input c = refl

module _ {B : Type 0} (enc : B → List ℕ) (fresh : B → Counters → Fresh B) where
  -- An element that is a leaf.
  module _ (h : ElementHead) (l : Leaf) (c : Counters) where
    pub leaf_words_of : encode_element enc (renumber_element fresh (leaf h l) c).node
        ≡ encode_head (renumber_head h c).node (leaf_kind l) ++ encode_leaf (renumber_leaf l (renumber_head h c).counters).node
    unfolding encode_element_in renumber_element
    leaf_words_of = rw (leaf_kind_of l (renumber_head h c).counters)

    pub leaf_entries_of : each encode_entry (renumber_element fresh (leaf h l) c).entries
        ≡ each encode_entry (renumber_head h c).entries ++ each encode_entry (renumber_leaf l (renumber_head h c).counters).entries
    unfolding renumber_element
    leaf_entries_of = both_entries (renumber_head h c).entries (renumber_leaf l (renumber_head h c).counters).entries

    pub leaf_counters_of : (renumber_element fresh (leaf h l) c).counters ≡ (renumber_leaf l (renumber_head h c).counters).counters
    unfolding renumber_element
    leaf_counters_of = refl

  -- An element that is a block.
  module _ (h : ElementHead) (b : B) (c : Counters) where
    pub block_words_of : encode_element enc (renumber_element fresh (block h b) c).node
        ≡ encode_head (renumber_head h c).node block_kind ++ enc (fresh b (renumber_head h c).counters).node
    unfolding encode_element_in renumber_element
    block_words_of = refl

    pub block_entries_of : each encode_entry (renumber_element fresh (block h b) c).entries
        ≡ each encode_entry (renumber_head h c).entries ++ each encode_entry (fresh b (renumber_head h c).counters).entries
    unfolding renumber_element
    block_entries_of = both_entries (renumber_head h c).entries (fresh b (renumber_head h c).counters).entries

    pub block_counters_of : (renumber_element fresh (block h b) c).counters ≡ (fresh b (renumber_head h c).counters).counters
    unfolding renumber_element
    block_counters_of = refl

  -- An alternative: its fixed words and options, then its elements.
  module _ (a : AlternativeOf B) (c : Counters) where
    pub alternative_words_of : encode_alternative enc (renumber_alternative fresh a c).node
        ≡ (c.alternative ∷ a.carried ∷ a.flag ∷ length a.options ∷ length a.elements ∷ each encode_option a.options)
        ++ each (encode_element enc) (fresh_each (renumber_element fresh) a.elements (past alternative_sort c)).node
    unfolding encode_alternative_in renumber_alternative renumber_elements
    alternative_words_of = rw (each_count (renumber_element fresh) a.elements (past alternative_sort c))

    pub alternative_entries_of : each encode_entry (renumber_alternative fresh a c).entries
        ≡ each encode_entry (clone alternative_sort c.alternative a.id ∷ [])
        ++ each encode_entry (fresh_each (renumber_element fresh) a.elements (past alternative_sort c)).entries
    unfolding renumber_alternative renumber_elements
    alternative_entries_of =
        both_entries (clone alternative_sort c.alternative a.id ∷ [])
        (fresh_each (renumber_element fresh) a.elements (past alternative_sort c)).entries

    pub alternative_counters_of : (renumber_alternative fresh a c).counters
        ≡ (fresh_each (renumber_element fresh) a.elements (past alternative_sort c)).counters
    unfolding renumber_alternative renumber_elements
    alternative_counters_of = refl

-- A block: its count, then its alternatives.
module _ (d : ℕ) (b : Block (suc d)) (c : Counters) where
  pub nested_words_of : encode_block (suc d) (renumber_block (suc d) b c).node
      ≡ (length b ∷ []) ++ each (encode_alternative (encode_block d)) (fresh_each (renumber_alternative (renumber_block d)) b c).node
  unfolding encode_block_in renumber_block
  nested_words_of = rw (each_count (renumber_alternative (renumber_block d)) b c)

  pub nested_is : renumber_block (suc d) b c ≡ fresh_each (renumber_alternative (renumber_block d)) b c
  unfolding renumber_block
  nested_is = refl
