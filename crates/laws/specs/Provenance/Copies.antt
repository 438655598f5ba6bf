-- What copies record: reason 2, the copies' nodes in order, and as owners the nodes copied.
use Prim.Native.Nat.{ℕ, zero, suc}
use Rattle.std.specs.Prelude.{◌≡◌, eqb}
use Rattle.std.proofs.Math.Path.{refl, ap, ap₂}
use Rattle.std.proofs.Common.{◌∙◌, subst, ⊎_elim}
use mathlib.Core.List.Memᴰ
use mathlib.Core.List.{List, [], ◌∷◌, ◌++◌, append-nil, Memᴰ}
use Rattle.grammar.specs.Tree.{Label, unlabelled, labelled, ElementHead, Leaf, epsilon, action, predicate, call, token, terminal}
use Rattle.grammar.specs.Tree.{end_of_input, Element, leaf, block, AlternativeOf, Block, Counters}
use Rattle.grammar.specs.Lists.{each, only}
use Rattle.grammar.specs.Laws.Lists.{each_append}
use Rattle.grammar.specs.Numbers.{alternative_sort}
use Rattle.grammar.specs.Ids.{label_ids, head_ids, leaf_ids, element_ids, alternative_ids, block_ids}
use Rattle.grammar.specs.Numbers.{element_sort, label_sort, action_sort, predicate_sort}
use Rattle.reference.specs.Apply.{Entry, Fresh, fresh_each, past, clone, renumber_label, renumber_head, renumber_leaf, renumber_element}
use Rattle.reference.specs.Apply.{renumber_elements, renumber_alternative, renumber_block}
use Rattle.reference.specs.Numbers.{block_boundary}
use Rattle.laws.specs.Demands.Nodes.{label_nodes, head_nodes, leaf_nodes, element_nodes, alternative_nodes, block_nodes}
use Rattle.laws.specs.Demands.Trail.{numbers_at}

-- What may be taken of a node's sort and id; and of each node of something, in order.
abbrev pub Taken : Type 0
Taken = ℕ → ℕ → List ℕ

abbrev pub Nodes : Type 0 → Type 0
Nodes A = Taken → A → List ℕ

-- Of anything that has nodes.
pub record Copy {A B : Type 0} (nodes_a : Nodes A) (nodes_b : Nodes B) (old : A) (new : B) (es : List Entry) : Type 0 where
  pub reasons : (e : Entry) → Memᴰ e es → e.reason ≡ block_boundary
  pub ids : (k : Taken) → each (λ e. k e.kind e.id) es ≡ nodes_b k new
  pub owners : (k : Taken) → each (λ e. k e.kind e.owner) es ≡ nodes_a k old

abbrev pub Copies : {A : Type 0} → Nodes A → A → Fresh A → Type 0
Copies nodes old f = Copy nodes nodes old f.node f.entries

each_behind : {A : Type 0} (f : A → List ℕ) (xs ys : List A) → each f (xs ++ (ys ++ [])) ≡ each f xs ++ each f ys
each_behind f xs ys = ap (λ l. each f (xs ++ l)) (append-nil ys) ∙ each_append f xs ys

-- A single copy: a node of a kind, with nothing in it that is copied.
copy_one : (kind id owner : ℕ) → Copy (λ k i. k kind i) (λ k i. k kind i) owner id (clone kind id owner ∷ [])
copy_one kind id owner =
    record {
      reasons = λ e m. ap (λ x. x.reason) (Memᴰ.eq_of_singleton m);
      ids = λ k. append-nil (k kind id);
      owners = λ k. append-nil (k kind owner);
    }

copy_nothing : {A B : Type 0} {ids_a : Nodes A} {ids_b : Nodes B} {a : A} {b : B} → ((k : Taken) → [] ≡ ids_a k a)
    → ((k : Taken) → [] ≡ ids_b k b) → Copy ids_a ids_b a b []
copy_nothing f g = record { reasons = λ e m. absurd (Memᴰ.not-nil m); ids = g; owners = f }

-- One after the other.
copy_both : {A B C D : Type 0} {ids_a : Nodes A} {ids_b : Nodes B} {ids_c : Nodes C} {ids_d : Nodes D} {a : A} {b : B} {c : C} {d : D}
    {es fs : List Entry}
    → Copy ids_a ids_b a b es → Copy ids_c ids_d c d fs
    → Copy {A = A × C} {B = B × D} (λ k x. ids_a k x.0 ++ ids_c k x.1) (λ k x. ids_b k x.0 ++ ids_d k x.1) (a, c) (b, d)
    (es ++ (fs ++ []))
copy_both {es = es} {fs = fs} p q =
    record {
      reasons = λ e m. ⊎_elim (p.reasons e) (λ n. q.reasons e (subst (Memᴰ e) (append-nil fs) n)) (Memᴰ.append_cases es m);
      ids = λ k. each_behind (λ e. k e.kind e.id) es fs ∙ ap₂ ◌++◌ (p.ids k) (q.ids k);
      owners = λ k. each_behind (λ e. k e.kind e.owner) es fs ∙ ap₂ ◌++◌ (p.owners k) (q.owners k);
    }

-- The same entries for other names of the same ids.
copy_as : {A B C D : Type 0} {ids_a : Nodes A} {ids_b : Nodes B} {ids_c : Nodes C} {ids_d : Nodes D} {a : A} {b : B} {c : C} {d : D}
    {es : List Entry}
    → Copy ids_a ids_b a b es → ((k : Taken) → ids_a k a ≡ ids_c k c) → ((k : Taken) → ids_b k b ≡ ids_d k d) → Copy ids_c ids_d c d es
copy_as p f g = record { reasons = p.reasons; ids = λ k. p.ids k ∙ g k; owners = λ k. p.owners k ∙ f k }

copy_label : (l : Label) (c : Counters) → Copies label_nodes l (renumber_label l c)
unfolding renumber_label label_nodes
copy_label unlabelled c = copy_nothing (λ k. refl) (λ k. refl)
copy_label (labelled i n) c = copy_as (copy_one label_sort c.label i) (λ k. refl) (λ k. refl)

copy_leaf : (l : Leaf) (c : Counters) → Copies leaf_nodes l (renumber_leaf l c)
unfolding renumber_leaf leaf_nodes
copy_leaf epsilon c = copy_nothing (λ k. refl) (λ k. refl)
copy_leaf (action a) c = copy_as (copy_one action_sort c.action a.id) (λ k. refl) (λ k. refl)
copy_leaf (predicate p) c = copy_as (copy_one predicate_sort c.predicate p.id) (λ k. refl) (λ k. refl)
copy_leaf (call x) c = copy_nothing (λ k. refl) (λ k. refl)
copy_leaf (token n) c = copy_nothing (λ k. refl) (λ k. refl)
copy_leaf terminal c = copy_nothing (λ k. refl) (λ k. refl)
copy_leaf end_of_input c = copy_nothing (λ k. refl) (λ k. refl)

copy_head_lem : (h : ElementHead) (c : Counters) → Copies head_nodes h (renumber_head h c)
unfolding renumber_head head_nodes
copy_head_lem h c =
    copy_as (copy_both (copy_one element_sort c.element h.id) (copy_label h.label (past element_sort c))) (λ k. refl) (λ k. refl)

copy_each : {A : Type 0} (ids : Nodes A) (g : A → Counters → Fresh A) → ((a : A) (c : Counters) → Copies ids a (g a c))
    → (as' : List A) (c : Counters)
    → Copies (λ k. each (ids k)) as' (fresh_each g as' c)
unfolding fresh_each
copy_each ids g h [] c = copy_nothing (λ k. refl) (λ k. refl)
copy_each ids g h (a ∷ as') c = copy_as (copy_both (h a c) (copy_each ids g h as' (g a c).counters)) (λ k. refl) (λ k. refl)

module _ {B : Type 0} (renumber : B → Counters → Fresh B) (ids : Nodes B) (h : (b : B) (c : Counters) → Copies ids b (renumber b c)) where
  copy_element_lem : (e : Element B) (c : Counters) → Copies (λ k. element_nodes k (ids k)) e (renumber_element renumber e c)
  unfolding renumber_element element_nodes
  copy_element_lem (leaf x l) c = copy_as (copy_both (copy_head_lem x c) (copy_leaf l (renumber_head x c).counters)) (λ k. refl) (λ k. refl)
  copy_element_lem (block x b) c = copy_as (copy_both (copy_head_lem x c) (h b (renumber_head x c).counters)) (λ k. refl) (λ k. refl)

  pub copy_elements_lem : (es : List (Element B)) (c : Counters)
      → Copies (λ k. each (element_nodes k (ids k))) es (renumber_elements renumber es c)
  unfolding renumber_elements
  copy_elements_lem = copy_each (λ k. element_nodes k (ids k)) (renumber_element renumber) copy_element_lem

  copy_alternative_lem : (a : AlternativeOf B) (c : Counters)
      → Copies (λ k. alternative_nodes k (ids k)) a (renumber_alternative renumber a c)
  unfolding renumber_alternative alternative_nodes
  copy_alternative_lem a c =
      copy_as (copy_both (copy_one alternative_sort c.alternative a.id) (copy_elements_lem a.elements (past alternative_sort c)))
      (λ k. refl) (λ k. refl)

pub copy_block : (d : ℕ) (b : Block d) (c : Counters) → Copies (λ k. block_nodes k d) b (renumber_block d b c)
unfolding renumber_block block_nodes
copy_block zero b c = absurd b
copy_block (suc d) as' c =
    copy_each (λ k. alternative_nodes k (block_nodes k d)) (renumber_alternative (renumber_block d))
    (copy_alternative_lem (renumber_block d) (λ k. block_nodes k d) (copy_block d)) as' c

-- Of a sort the nodes give the ids.
module _ (k : ℕ) where
  abbrev pub of_sort : Taken
  of_sort sort i = only (eqb k sort) i

  label_ids_lem : (l : Label) → label_nodes of_sort l ≡ label_ids k l
  unfolding label_nodes label_ids
  label_ids_lem unlabelled = refl
  label_ids_lem (labelled i n) = refl

  head_ids_lem : (h : ElementHead) → head_nodes of_sort h ≡ head_ids k h
  unfolding head_nodes head_ids
  head_ids_lem h = rw (label_ids_lem h.label)

  leaf_ids_lem : (l : Leaf) → leaf_nodes of_sort l ≡ leaf_ids k l
  unfolding leaf_nodes leaf_ids
  leaf_ids_lem epsilon = refl
  leaf_ids_lem (action a) = refl
  leaf_ids_lem (predicate p) = refl
  leaf_ids_lem (call c) = refl
  leaf_ids_lem (token n) = refl
  leaf_ids_lem terminal = refl
  leaf_ids_lem end_of_input = refl

  each_same : {A : Type 0} (f g : A → List ℕ) → ((a : A) → f a ≡ g a) → (as' : List A) → each f as' ≡ each g as'
  each_same f g h [] = refl
  each_same f g h (a ∷ as') = ap₂ ◌++◌ (h a) (each_same f g h as')

  module _ {B : Type 0} (nodes ids : B → List ℕ) (same : (b : B) → nodes b ≡ ids b) where
    element_ids_lem : (e : Element B) → element_nodes of_sort nodes e ≡ element_ids k ids e
    unfolding element_nodes element_ids
    element_ids_lem (leaf h l) = ap₂ ◌++◌ (head_ids_lem h) (leaf_ids_lem l)
    element_ids_lem (block h b) = ap₂ ◌++◌ (head_ids_lem h) (same b)

    alternative_ids_lem : (a : AlternativeOf B) → alternative_nodes of_sort nodes a ≡ alternative_ids k ids a
    unfolding alternative_nodes alternative_ids
    alternative_ids_lem a =
        ap (λ l. of_sort alternative_sort a.id ++ l)
        (each_same (element_nodes of_sort nodes) (element_ids k ids) element_ids_lem a.elements)

  pub block_ids_lem : (d : ℕ) (b : Block d) → block_nodes of_sort d b ≡ block_ids k d b
  unfolding block_nodes block_ids
  block_ids_lem zero b = absurd b
  block_ids_lem (suc d) as' =
      each_same (alternative_nodes of_sort (block_nodes of_sort d)) (alternative_ids k (block_ids k d))
      (alternative_ids_lem (block_nodes of_sort d) (block_ids k d) (block_ids_lem d)) as'

  pub elements_ids : (d : ℕ) (es : List (Element (Block d)))
      → each (element_nodes of_sort (block_nodes of_sort d)) es ≡ each (element_ids k (block_ids k d)) es
  elements_ids d es =
      each_same (element_nodes of_sort (block_nodes of_sort d)) (element_ids k (block_ids k d))
      (element_ids_lem (block_nodes of_sort d) (block_ids k d) (block_ids_lem d)) es

  -- The ids of a sort that copies record.
  pub copied_ids : (d : ℕ) (es : List (Element (Block d))) (c : Counters)
      → numbers_at (λ e. e.id) k (renumber_elements (renumber_block d) es c).entries
      ≡ each (element_ids k (block_ids k d)) (renumber_elements (renumber_block d) es c).node
  copied_ids d es c =
      (copy_elements_lem (renumber_block d) (λ v. block_nodes v d) (copy_block d) es c).ids of_sort
      ∙ elements_ids d (renumber_elements (renumber_block d) es c).node
