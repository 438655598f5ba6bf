-- Renumbering: a copy with other ids has the same shape, whatever its depth.
use Prim.Native.Nat.{ℕ, zero, suc}
use Rattle.std.specs.Prelude.{◌≡◌, refl, List, [], ◌∷◌, map}
use Rattle.std.proofs.Common.{sym, ap₂, ◌∙◌}
use Rattle.std.proofs.Math.Path.{ap}
use Rattle.grammar.specs.Tree.{Label, unlabelled, labelled, ElementHead, Leaf, epsilon, action, predicate, call, token, terminal}
use Rattle.grammar.specs.Tree.{end_of_input, Element, leaf, block, AlternativeOf, Block, with_action_id, with_predicate_id, with_head_id}
use Rattle.grammar.specs.Tree.{with_label}
use Rattle.grammar.specs.Tree.{with_alternative_id, with_elements}
use Rattle.language.specs.Shape.{Shape, seqs, alts, erase_leaf, erase_element, erase_elements, erase_block}

-- A change of nodes one by one.
pub record Change : Type 0 where
  pub on_alternative : ℕ → ℕ
  pub on_head : ElementHead → ElementHead
  pub on_leaf : Leaf → Leaf

-- It touches nothing that the shape shows.
pub record KeepsShape (f : Change) : Type 0 where
  pub carried : (h : ElementHead) → (f.on_head h).carried ≡ h.carried
  pub quantifier : (h : ElementHead) → (f.on_head h).quantifier ≡ h.quantifier
  pub shape : (c : ℕ) (l : Leaf) → erase_leaf c (f.on_leaf l) ≡ erase_leaf c l

-- The change made at every node of a tree.
module _ (f : Change) where
  module _ {B : Type 0} (on_block : B → B) where
    unfoldable pub change_element : Element B → Element B
    change_element (leaf h l) = leaf (f.on_head h) (f.on_leaf l)
    change_element (block h b) = block (f.on_head h) (on_block b)

    unfoldable pub change_alternative : AlternativeOf B → AlternativeOf B
    change_alternative a = with_alternative_id (f.on_alternative a.id) (with_elements (map change_element a.elements) a)

  unfoldable pub change_block : (d : ℕ) → Block d → Block d
  change_block zero b = absurd b
  change_block (suc d) as' = map (change_alternative (change_block d)) as'

-- What one function does not see of another, item by item, it does not see in a list.
pub map_unseen : {A B : Type 0} (g : A → A) (f : A → B) → ((a : A) → f (g a) ≡ f a) → (as' : List A) → map f (map g as') ≡ map f as'
map_unseen g f h [] = refl
map_unseen g f h (a ∷ as') = ap₂ ◌∷◌ (h a) (map_unseen g f h as')

module _ {f : Change} (k : KeepsShape f) where
  module _ {B : Type 0} (on_block : B → B) (erase_b : B → Shape) (h : (b : B) → erase_b (on_block b) ≡ erase_b b) where
    pub element_shape : (e : Element B) → erase_element erase_b (change_element f on_block e) ≡ erase_element erase_b e
    unfolding erase_element change_element
    element_shape (leaf x l) = rw (k.quantifier x, k.carried x, k.shape x.carried l)
    element_shape (block x b) = rw (k.quantifier x, h b)

    pub elements_shape : (es : List (Element B)) → erase_elements erase_b (map (change_element f on_block) es) ≡ erase_elements erase_b es
    elements_shape es = ap seqs (map_unseen (change_element f on_block) (erase_element erase_b) element_shape es)

  -- The same shape, at every depth.
  pub block_shape : (d : ℕ) (b : Block d) → erase_block d (change_block f d b) ≡ erase_block d b
  unfolding erase_block change_block change_alternative
  block_shape zero b = absurd b
  block_shape (suc d) as' =
      ap alts (map_unseen (change_alternative f (change_block f d)) (λ a. erase_elements (erase_block d) a.elements)
      (λ a. elements_shape (change_block f d) (erase_block d) (block_shape d) a.elements) as')

-- All ids 0: of two trees alike but for their ids the same is left.
abbrev pub drop_label_id : Label → Label
drop_label_id unlabelled = unlabelled
drop_label_id (labelled i n) = labelled 0 n

abbrev pub drop_leaf_id : Leaf → Leaf
drop_leaf_id epsilon = epsilon
drop_leaf_id (action a) = action (with_action_id 0 a)
drop_leaf_id (predicate p) = predicate (with_predicate_id 0 p)
drop_leaf_id (call c) = call c
drop_leaf_id (token n) = token n
drop_leaf_id terminal = terminal
drop_leaf_id end_of_input = end_of_input

abbrev pub drop_ids : Change
drop_ids =
    record {
      on_alternative = λ i. 0;
      on_head = λ h. with_head_id 0 (with_label (drop_label_id h.label) h);
      on_leaf = drop_leaf_id;
    }

drop_leaf : (c : ℕ) (l : Leaf) → erase_leaf c (drop_leaf_id l) ≡ erase_leaf c l
unfolding erase_leaf
drop_leaf c epsilon = refl
drop_leaf c (action a) = refl
drop_leaf c (predicate p) = refl
drop_leaf c (call k) = refl
drop_leaf c (token n) = refl
drop_leaf c terminal = refl
drop_leaf c end_of_input = refl

drop_keeps : KeepsShape drop_ids
drop_keeps = record { carried = λ h. refl; quantifier = λ h. refl; shape = drop_leaf }

-- Two trees alike but for their ids have the same shape.
pub copy_shape : (d : ℕ) (b c : Block d) → change_block drop_ids d b ≡ change_block drop_ids d c → erase_block d b ≡ erase_block d c
copy_shape d b c e = sym (block_shape drop_keeps d b) ∙ ap (erase_block d) e ∙ block_shape drop_keeps d c

pub copies_shape : (d : ℕ) (es fs : List (Element (Block d)))
    → map (change_element drop_ids (change_block drop_ids d)) es ≡ map (change_element drop_ids (change_block drop_ids d)) fs
    → erase_elements (erase_block d) es ≡ erase_elements (erase_block d) fs
copies_shape d es fs e =
    let same = elements_shape drop_keeps (change_block drop_ids d) (erase_block d) (block_shape drop_keeps d) in
    sym (same es) ∙ ap (erase_elements (erase_block d)) e ∙ same fs
