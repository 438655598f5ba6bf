-- What fresh ids do not touch: whether a tree is valid but for its ids, and the numbers that are copied.
use Rattle.std.specs.Prelude.{ℕ, zero, suc, ◌≡◌, List, [], ◌∷◌, ◌++◌, Bool}
use Rattle.std.proofs.Math.Path.{refl, ap, ap₂}
use Rattle.std.proofs.Math.Bool.{◌&&◌}
use Rattle.grammar.specs.Tree.{Label, unlabelled, labelled, ElementHead, Leaf, epsilon, action, predicate, call, token, terminal}
use Rattle.grammar.specs.Tree.{end_of_input, Element, leaf, block, AlternativeOf, Block, Counters}
use Rattle.grammar.specs.Lists.{each, all}
use Rattle.grammar.specs.Valid.{ok_label, ok_head, ok_leaf, ok_element, ok_alternative, ok_block, ok_alternative_in, ok_block_in}
use Rattle.grammar.specs.Valid.{ok_element_in, ok_leaf_in}
use Rattle.grammar.specs.Numbers.{alternative_sort, element_sort}
use Rattle.reference.specs.Apply.{Fresh, fresh_each, past, renumber_label, renumber_head, renumber_leaf, renumber_element}
use Rattle.reference.specs.Apply.{renumber_elements}
use Rattle.reference.specs.Apply.{renumber_alternative, renumber_block}
use Rattle.laws.specs.Validity.Wordy.{leaf_words, head_words, element_words, alternative_words, block_words}

all_kept : {A : Type 0} (g : A → Counters → Fresh A) (f : A → Bool) → ((a : A) (c : Counters) → f (g a c).node ≡ f a)
    → (as' : List A) (c : Counters)
    → all f (fresh_each g as' c).node ≡ all f as'
unfolding fresh_each all
all_kept g f h [] c = refl
all_kept g f h (a ∷ as') c = ap₂ ◌&&◌ (h a c) (all_kept g f h as' (g a c).counters)

each_kept : {A : Type 0} (g : A → Counters → Fresh A) (f : A → List ℕ) → ((a : A) (c : Counters) → f (g a c).node ≡ f a)
    → (as' : List A) (c : Counters)
    → each f (fresh_each g as' c).node ≡ each f as'
unfolding fresh_each
each_kept g f h [] c = refl
each_kept g f h (a ∷ as') c = ap₂ ◌++◌ (h a c) (each_kept g f h as' (g a c).counters)

ok_label_lem : (l : Label) (c : Counters) → ok_label (renumber_label l c).node ≡ ok_label l
unfolding renumber_label ok_label
ok_label_lem unlabelled c = refl
ok_label_lem (labelled i n) c = refl

ok_head_lem : (h : ElementHead) (c : Counters) → ok_head (renumber_head h c).node ≡ ok_head h
unfolding renumber_head ok_head
ok_head_lem h c = rw (ok_label_lem h.label (past element_sort c)) refl

ok_leaf_lem : (l : Leaf) (c : Counters) → ok_leaf (renumber_leaf l c).node ≡ ok_leaf l
unfolding renumber_leaf ok_leaf_in
ok_leaf_lem epsilon c = refl
ok_leaf_lem (action a) c = refl
ok_leaf_lem (predicate p) c = refl
ok_leaf_lem (call k) c = refl
ok_leaf_lem (token n) c = refl
ok_leaf_lem terminal c = refl
ok_leaf_lem end_of_input c = refl

words_leaf : (l : Leaf) (c : Counters) → leaf_words (renumber_leaf l c).node ≡ leaf_words l
unfolding renumber_leaf
words_leaf epsilon c = refl
words_leaf (action a) c = refl
words_leaf (predicate p) c = refl
words_leaf (call k) c = refl
words_leaf (token n) c = refl
words_leaf terminal c = refl
words_leaf end_of_input c = refl

module _ {B : Type 0} (renumber : B → Counters → Fresh B) (ok : B → Bool)
    (h : (b : B) (c : Counters) → ok (renumber b c).node ≡ ok b) where
  pub ok_element_lem : (e : Element B) (c : Counters) → ok_element ok (renumber_element renumber e c).node ≡ ok_element ok e
  unfolding renumber_element ok_element_in
  ok_element_lem (leaf x l) c = ap₂ ◌&&◌ (ok_head_lem x c) (ok_leaf_lem l (renumber_head x c).counters)
  ok_element_lem (block x b) c = ap₂ ◌&&◌ (ok_head_lem x c) (h b (renumber_head x c).counters)

  pub ok_elements : (es : List (Element B)) (c : Counters)
      → all (ok_element ok) (renumber_elements renumber es c).node ≡ all (ok_element ok) es
  unfolding renumber_elements
  ok_elements = all_kept (renumber_element renumber) (ok_element ok) ok_element_lem

  pub ok_alternative_lem : (a : AlternativeOf B) (c : Counters)
      → ok_alternative ok (renumber_alternative renumber a c).node ≡ ok_alternative ok a
  unfolding renumber_alternative ok_alternative_in
  ok_alternative_lem a c = rw (ok_elements a.elements (past alternative_sort c)) refl

pub ok_block_lem : (d : ℕ) (b : Block d) (c : Counters) → ok_block d (renumber_block d b c).node ≡ ok_block d b
unfolding renumber_block ok_block_in
ok_block_lem zero b c = absurd b
ok_block_lem (suc d) as' c =
    all_kept (renumber_alternative (renumber_block d)) (ok_alternative (ok_block d))
    (ok_alternative_lem (renumber_block d) (ok_block d) (ok_block_lem d)) as' c

module _ {B : Type 0} (renumber : B → Counters → Fresh B) (of_block : B → List ℕ)
    (h : (b : B) (c : Counters) → of_block (renumber b c).node ≡ of_block b) where
  words_element : (e : Element B) (c : Counters) → element_words of_block (renumber_element renumber e c).node ≡ element_words of_block e
  unfolding renumber_element element_words renumber_head
  words_element (leaf x l) c = ap (λ l. head_words x ++ l) (words_leaf l (renumber_head x c).counters)
  words_element (block x b) c = ap (λ l. head_words x ++ l) (h b (renumber_head x c).counters)

  pub words_elements : (es : List (Element B)) (c : Counters)
      → each (element_words of_block) (renumber_elements renumber es c).node ≡ each (element_words of_block) es
  unfolding renumber_elements
  words_elements = each_kept (renumber_element renumber) (element_words of_block) words_element

  words_alternative : (a : AlternativeOf B) (c : Counters)
      → alternative_words of_block (renumber_alternative renumber a c).node ≡ alternative_words of_block a
  unfolding renumber_alternative alternative_words
  words_alternative a c = rw (words_elements a.elements (past alternative_sort c)) refl

pub words_block : (d : ℕ) (b : Block d) (c : Counters) → block_words d (renumber_block d b c).node ≡ block_words d b
unfolding renumber_block block_words
words_block zero b c = absurd b
words_block (suc d) as' c =
    each_kept (renumber_alternative (renumber_block d)) (alternative_words (block_words d))
    (words_alternative (renumber_block d) (block_words d) (words_block d)) as' c
