-- Renumbering changes ids alone.
use Rattle.std.specs.Prelude.{ℕ, zero, suc, ◌≡◌, refl, List, [], ◌∷◌, map}
use Rattle.std.proofs.Common.{sym, ap, ap₂, ◌∙◌}
use Rattle.std.proofs.lemmas.Simd.{map-map}
use Rattle.grammar.specs.Tree.{Label, unlabelled, labelled, Leaf, epsilon, action, predicate, call, token, terminal, end_of_input, Element}
use Rattle.grammar.specs.Tree.{leaf, block, AlternativeOf, Block, Counters}
use Rattle.grammar.specs.Laws.Parse.{either}
use Rattle.grammar.specs.Numbers.{alternative_sort, element_sort}
use Rattle.language.specs.Shape.{alts, erase_block}
use Rattle.language.specs.Laws.Copies.{change_element, change_alternative, change_block, drop_ids, drop_label_id, drop_leaf_id}
use Rattle.language.specs.Laws.Copies.{copies_shape}
use Rattle.reference.specs.Substitute.{Planned}
use Rattle.reference.specs.Apply.{Fresh, fresh_each, past, placed, apply_alternative, renumber_label, renumber_head, renumber_leaf}
use Rattle.reference.specs.Apply.{renumber_element, renumber_elements, renumber_alternative, renumber_block}
use Rattle.laws.specs.Planning.Turns.{items_of}
use Rattle.laws.specs.Planning.Substituted.{shape_of, body_of}

-- What is seen of each fresh item is seen of its origin.
pub each_seen : {A B C : Type 0} (g : A → Counters → Fresh B) (f : B → C) (k : A → C) → ((a : A) (c : Counters) → f (g a c).node ≡ k a)
    → (as' : List A) (c : Counters)
    → map f (fresh_each g as' c).node ≡ map k as'
unfolding fresh_each
each_seen g f k h [] c = refl
each_seen g f k h (a ∷ as') c = ap₂ ◌∷◌ (h a c) (each_seen g f k h as' (g a c).counters)

each_unseen : {A B : Type 0} (g : A → Counters → Fresh A) (f : A → B) → ((a : A) (c : Counters) → f (g a c).node ≡ f a)
    → (as' : List A) (c : Counters)
    → map f (fresh_each g as' c).node ≡ map f as'
each_unseen g f h as' c = each_seen g f f h as' c

label_copy : (l : Label) (c : Counters) → drop_label_id (renumber_label l c).node ≡ drop_label_id l
unfolding renumber_label
label_copy unlabelled c = refl
label_copy (labelled i n) c = refl

leaf_copy : (l : Leaf) (c : Counters) → drop_leaf_id (renumber_leaf l c).node ≡ drop_leaf_id l
unfolding renumber_leaf
leaf_copy epsilon c = refl
leaf_copy (action a) c = refl
leaf_copy (predicate p) c = refl
leaf_copy (call k) c = refl
leaf_copy (token n) c = refl
leaf_copy terminal c = refl
leaf_copy end_of_input c = refl

module _ {B : Type 0} (renumber : B → Counters → Fresh B) (drop : B → B)
    (h : (b : B) (c : Counters) → drop (renumber b c).node ≡ drop b) where
  element_copy : (e : Element B) (c : Counters)
      → change_element drop_ids drop (renumber_element renumber e c).node ≡ change_element drop_ids drop e
  unfolding change_element renumber_element renumber_head
  element_copy (leaf x l) c = rw (label_copy x.label (past element_sort c), leaf_copy l (renumber_head x c).counters)
  element_copy (block x b) c = rw (label_copy x.label (past element_sort c), h b (renumber_head x c).counters)

  alternative_copy : (a : AlternativeOf B) (c : Counters)
      → change_alternative drop_ids drop (renumber_alternative renumber a c).node ≡ change_alternative drop_ids drop a
  unfolding change_alternative renumber_alternative renumber_elements
  alternative_copy a c =
      rw (each_unseen (renumber_element renumber) (change_element drop_ids drop) element_copy a.elements (past alternative_sort c))

block_copy : (d : ℕ) (b : Block d) (c : Counters) → change_block drop_ids d (renumber_block d b c).node ≡ change_block drop_ids d b
unfolding change_block renumber_block
block_copy zero b c = absurd b
block_copy (suc d) as' c =
    each_unseen (renumber_alternative (renumber_block d)) (change_alternative drop_ids (change_block drop_ids d))
    (alternative_copy (renumber_block d) (change_block drop_ids d) (block_copy d)) as' c

-- Elements with all ids 0.
abbrev pub idless : (d : ℕ) → List (Element (Block d)) → List (Element (Block d))
idless d = map (change_element drop_ids (change_block drop_ids d))

-- A planned alternative, applied, is as planned but for its ids.
pub applied_alike : (d : ℕ) (p : Planned d) (c : Counters)
    → change_alternative drop_ids (change_block drop_ids d) (apply_alternative d p c).node
    ≡ change_alternative drop_ids (change_block drop_ids d) (placed d p.origin p.elements p)
unfolding apply_alternative renumber_elements change_alternative
applied_alike d p c =
    either p.verbatim
    (λ t. rw (t, apply_alternative))
    (λ f.
    rw (f, apply_alternative)
    (rw (each_unseen (renumber_element (renumber_block d)) (change_element drop_ids (change_block drop_ids d))
    (element_copy (renumber_block d) (change_block drop_ids d) (block_copy d)) p.elements (past alternative_sort c))))

pub applied_copy : (d : ℕ) (p : Planned d) (c : Counters) → idless d (apply_alternative d p c).node.elements ≡ idless d p.elements
unfolding change_alternative
applied_copy d p c = ap (λ a. a.elements) (applied_alike d p c)

-- A planned list, applied: the planned alternatives but for ids.
pub body_alike : (d : ℕ) (ps : List (Planned d)) (c : Counters)
    → change_block drop_ids (suc d) (fresh_each (apply_alternative d) ps c).node
    ≡ change_block drop_ids (suc d) (map (λ p. placed d p.origin p.elements p) ps)
unfolding change_block
body_alike d ps c =
    each_seen (apply_alternative d) (change_alternative drop_ids (change_block drop_ids d))
    (λ p. change_alternative drop_ids (change_block drop_ids d) (placed d p.origin p.elements p)) (applied_alike d) ps c
    ∙ sym (map-map (change_alternative drop_ids (change_block drop_ids d)) (λ p. placed d p.origin p.elements p) ps)

-- The same elements but for ids, and the same shapes.
pub applied_copies : (d : ℕ) (ps : List (Planned d)) (c : Counters)
    → map (λ a. idless d a.elements) (fresh_each (apply_alternative d) ps c).node ≡ map (λ p. idless d p.elements) ps
applied_copies d ps c = each_seen (apply_alternative d) (λ a. idless d a.elements) (λ p. idless d p.elements) (applied_copy d) ps c

pub applied_shape : (d : ℕ) (ps : List (Planned d)) (c : Counters)
    → erase_block (suc d) (fresh_each (apply_alternative d) ps c).node ≡ body_of d (items_of d ps)
unfolding erase_block
applied_shape d ps c =
    ap alts
    (each_seen (apply_alternative d) (λ a. shape_of d a.elements) (λ p. shape_of d p.elements)
    (λ p c. copies_shape d (apply_alternative d p c).node.elements p.elements (applied_copy d p c)) ps c
    ∙ sym (map-map (shape_of d) (λ p. p.elements) ps))
