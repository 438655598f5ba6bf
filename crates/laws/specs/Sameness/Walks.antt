-- The names that a walk over elements gives are the renamed ones, so that labels, references and bindings collide where they did.
use Prim.Native.Nat.{ℕ, zero, suc}
use Rattle.std.specs.Prelude.{◌≡◌, Bool, take, drop, leb}
use Rattle.std.proofs.Math.Path.{refl, sym, ap, ap₂}
use Rattle.std.proofs.Common.{◌∙◌}
use mathlib.Core.List.{List, [], ◌∷◌, ◌++◌, map, map-append, map-map}
use Rattle.std.proofs.Math.Bool.{◌||◌}
use Rattle.grammar.specs.Lists.{each, member, nothing, keep, meet}
use Rattle.grammar.specs.Numbers.{qualified}
use Rattle.grammar.specs.Tree.{Reference, Label, unlabelled, labelled, Leaf, epsilon, action, predicate, call, token, terminal}
use Rattle.grammar.specs.Tree.{end_of_input}
use Rattle.grammar.specs.Tree.{Element, leaf, block, Block}
use Rattle.reference.specs.Walks.{element_gives, block_gives, elements_give, label_names, leaf_names, references}
use Rattle.reference.specs.Substitute.{without, remaining_actions_reference, collect_labels, action_reference_names, bindable_names}
use Rattle.reference.specs.Substitute.{labels_collide, implicit_bindings_collide}
use Rattle.laws.specs.Lists.Mapped.{take_on, drop_on, any_same, keep_same, each_on}
use Rattle.laws.specs.Demands.Marks.{on_reference, on_label, on_leaf, on_element, on_alternative, on_block}
use Rattle.laws.specs.Sameness.Marked.{same_names}

-- Names told apart as before are the same members.
module _ (f r pr : ℕ → ℕ) (one : (a b : ℕ) → f a ≡ f b → a ≡ b) where
  pub member_names : (n : ℕ) (xs : List ℕ) → member (f n) (map f xs) ≡ member n xs
  unfolding member
  member_names n [] = refl
  member_names n (x ∷ xs) = ap₂ ◌||◌ (same_names f r pr one n x) (member_names n xs)

  meet_names : (xs ys : List ℕ) → meet (map f xs) (map f ys) ≡ meet xs ys
  unfolding meet
  meet_names xs ys = any_same f (λ x. member x (map f ys)) (λ x. member x ys) (λ x. member_names x ys) xs

module _ (f r pr : ℕ → ℕ) where
  -- What a walk gives, where it gives names.
  module _ (of_label : Label → List ℕ) (of_leaf : Leaf → List ℕ) (label : (l : Label) → of_label (on_label f r pr l) ≡ map f (of_label l))
      (leafs : (l : Leaf) → of_leaf (on_leaf f r pr l) ≡ map f (of_leaf l)) where
    element_gives_lem : {B : Type 0} (on_b : B → B) (of_b : B → List ℕ) → ((b : B) → of_b (on_b b) ≡ map f (of_b b)) → (e : Element B)
        → element_gives of_label of_leaf of_b (on_element f r pr on_b e) ≡ map f (element_gives of_label of_leaf of_b e)
    unfolding element_gives on_element
    element_gives_lem on_b of_b h (leaf x l) = ap₂ ◌++◌ (label x.label) (leafs l) ∙ sym (map-append f (of_label x.label) (of_leaf l))
    element_gives_lem on_b of_b h (block x b) = ap₂ ◌++◌ (label x.label) (h b) ∙ sym (map-append f (of_label x.label) (of_b b))

    abbrev gives : (d : ℕ) → Element (Block d) → List ℕ
    gives d = element_gives of_label of_leaf (block_gives of_label of_leaf d)

    block_gives_lem : (d : ℕ) (b : Block d)
        → block_gives of_label of_leaf d (on_block f r pr d b) ≡ map f (block_gives of_label of_leaf d b)
    unfolding block_gives on_block
    block_gives_lem zero b = absurd b
    block_gives_lem (suc d) as' =
        each_on (on_alternative f r pr (on_block f r pr d)) (λ a. each (gives d) a.elements) (λ a. each (gives d) a.elements) f
        (λ a. each_on (on_element f r pr (on_block f r pr d)) (gives d) (gives d) f
        (element_gives_lem (on_block f r pr d) (block_gives of_label of_leaf d) (block_gives_lem d)) a.elements) as'

    elements_give_lem : (d : ℕ) (es : List (Element (Block d)))
        → elements_give of_label of_leaf d (map (on_element f r pr (on_block f r pr d)) es) ≡ map f (elements_give of_label of_leaf d es)
    unfolding elements_give
    elements_give_lem d es =
        each_on (on_element f r pr (on_block f r pr d)) (gives d) (gives d) f
        (element_gives_lem (on_block f r pr d) (block_gives of_label of_leaf d) (block_gives_lem d)) es

  pub label_names_lem : (l : Label) → label_names (on_label f r pr l) ≡ map f (label_names l)
  label_names_lem unlabelled = refl
  label_names_lem (labelled i n) = refl

  leaf_names_lem : (l : Leaf) → leaf_names (on_leaf f r pr l) ≡ map f (leaf_names l)
  unfolding leaf_names on_leaf
  leaf_names_lem epsilon = refl
  leaf_names_lem (action a) = refl
  leaf_names_lem (predicate p) = refl
  leaf_names_lem (call c) = refl
  leaf_names_lem (token n) = refl
  leaf_names_lem terminal = refl
  leaf_names_lem end_of_input = refl

  pub reference_names : (os : List Reference) → map (λ o. o.name) (map (on_reference f r pr) os) ≡ map f (map (λ o. o.name) os)
  reference_names os = map-map (λ o. o.name) (on_reference f r pr) os ∙ sym (map-map f (λ o. o.name) os)

  references_on : (l : Leaf) → references (on_leaf f r pr l) ≡ map (on_reference f r pr) (references l)
  unfolding references on_leaf
  references_on epsilon = refl
  references_on (action a) = refl
  references_on (predicate p) = refl
  references_on (call c) = refl
  references_on (token n) = refl
  references_on terminal = refl
  references_on end_of_input = refl

module _ (f r pr : ℕ → ℕ) (one : (a b : ℕ) → f a ≡ f b → a ≡ b) (d : ℕ) where
  -- An element, changed.
  abbrev pub on : Element (Block d) → Element (Block d)
  on = on_element f r pr (on_block f r pr d)

  pub without_on : (i : ℕ) (es : List (Element (Block d))) → without i (map on es) ≡ map on (without i es)
  without_on i es = ap₂ ◌++◌ (take_on on i es) (drop_on on (suc i) es) ∙ sym (map-append on (take i es) (drop (suc i) es))

  -- The names that a leaf refers to, and those that it refers to by an attribute or a qualified reference.
  abbrev referred : Leaf → List ℕ
  referred l = map (λ o. o.name) (references l)

  abbrev attributed : Leaf → List ℕ
  attributed l = map (λ o. o.name) (keep (λ o. leb o.kind qualified) (references l))

  -- A name is referred to by the other elements where it was.
  pub remaining_on : (es : List (Element (Block d))) (i n : ℕ)
      → remaining_actions_reference d (map on es) i (f n) ≡ remaining_actions_reference d es i n
  unfolding remaining_actions_reference
  remaining_on es i n =
      ap (λ l. member (f n) (elements_give nothing referred d l)) (without_on i es)
      ∙ ap (member (f n)) (elements_give_lem f r pr nothing referred (λ l. refl)
      (λ l. ap (map (λ o. o.name)) (references_on f r pr l) ∙ reference_names f r pr (references l)) d (without i es))
      ∙ member_names f r pr one n (elements_give nothing referred d (without i es))

  -- Labels and bindings collide where they did.
  pub labels_on : (around spliced : List (Element (Block d)))
      → labels_collide d (map on around) (map on spliced) ≡ labels_collide d around spliced
  unfolding labels_collide collect_labels
  labels_on around spliced =
      let give = elements_give_lem f r pr label_names nothing (label_names_lem f r pr) (λ l. refl) d in
      ap₂ meet (give around) (give spliced) ∙ meet_names f r pr one (collect_labels d around) (collect_labels d spliced)

  attributed_on : (l : Leaf) → attributed (on_leaf f r pr l) ≡ map f (attributed l)
  attributed_on l =
      let test : Reference → Bool = λ o. leb o.kind qualified in
      ap (λ rs. map (λ o. o.name) (keep test rs)) (references_on f r pr l)
      ∙ ap (map (λ o. o.name)) (keep_same (on_reference f r pr) test test (λ o. refl) (references l))
      ∙ reference_names f r pr (keep test (references l))

  pub bindings_on : (around spliced : List (Element (Block d)))
      → implicit_bindings_collide d (map on around) (map on spliced) ≡ implicit_bindings_collide d around spliced
  unfolding implicit_bindings_collide action_reference_names bindable_names
  bindings_on around spliced =
      let refer = elements_give_lem f r pr nothing attributed (λ l. refl) attributed_on d in
      let bind = elements_give_lem f r pr label_names leaf_names (label_names_lem f r pr) (leaf_names_lem f r pr) d in
      ap₂ ◌||◌
      (ap₂ meet (refer around) (bind spliced) ∙ meet_names f r pr one (action_reference_names d around) (bindable_names d spliced))
      (ap₂ meet (refer spliced) (bind around) ∙ meet_names f r pr one (action_reference_names d spliced) (bindable_names d around))
