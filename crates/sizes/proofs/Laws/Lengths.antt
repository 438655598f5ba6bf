-- Fresh ids, and what makes an element plain, change words and not how many there are.
use Prim.Native.Nat.{ℕ, zero, suc, ◌+◌, ◌*◌}
use mathlib.Core.Path.{◌≡◌, refl, ap}
use mathlib.Core.List.{List, [], ◌∷◌}
use mathlib.Core.Bool.{Bool, true, false}
use native.Mathlib.Omega.{arith}
use lib.ListN.{length, length-append}
use Rattle.grammar.specs.Numbers.{alternative_sort, block_kind}
use Rattle.grammar.specs.Tree.{ElementHead, Element, leaf, block}
use Rattle.grammar.specs.Tree.{AlternativeOf, Block, Counters}
use Rattle.grammar.specs.Encode.{encode_option, encode_head, leaf_kind, encode_leaf, encode_element, encode_alternative, encode_block}
use Rattle.grammar.specs.Encode.{encode_alternative_in, encode_block_in, encode_element_in}
use Rattle.grammar.specs.Lists.{each}
use Rattle.grammar.specs.Fold.{element_fold}
use Rattle.grammar.specs.Laws.Opened.{options_length}
use Rattle.reference.specs.Substitute.{plain}
use Rattle.reference.specs.Apply.{Fresh, fresh_each, past, renumber_head, renumber_leaf, renumber_element, renumber_elements}
use Rattle.reference.specs.Apply.{renumber_alternative, renumber_block}
use Rattle.planned.specs.Layout.{made_if}
use Rattle.planned.specs.Laws.Leaves.{leaf_length}
use Rattle.sizes.specs.Tally.{counting}
use Rattle.sizes.specs.declared.tally.Tally.{Tally}

-- What a change keeps the length of, it keeps in a list.
keeps_each : {A : Type 0} (enc : A → List ℕ) (f : A → Counters → Fresh A)
    → ((a : A) (c : Counters) → length (enc (f a c).node) ≡ length (enc a))
    → (as' : List A) (c : Counters) → length (each enc (fresh_each f as' c).node) ≡ length (each enc as')
unfolding fresh_each
keeps_each enc f h [] c = refl
keeps_each enc f h (a ∷ as') c =
    let x = length-append (enc (f a c).node) (each enc (fresh_each f as' (f a c).counters).node) in
    let y = length-append (enc a) (each enc as') in
    let u = h a c in
    let v = keeps_each enc f h as' (f a c).counters in
    omega arith

-- The words of an alternative.
pub words_of : {B : Type 0} (enc : B → List ℕ) (a : AlternativeOf B)
    → length (encode_alternative enc a) ≡ 5 + 2 * length a.options + length (each (encode_element enc) a.elements)
unfolding encode_alternative_in
words_of enc a =
    let x = length-append (each encode_option a.options) (each (encode_element enc) a.elements) in
    let y = options_length a.options in
    omega arith

head_length : (h : ElementHead) (c : Counters) (k m : ℕ) → length (encode_head (renumber_head h c).node k) ≡ length (encode_head h m)
unfolding encode_head renumber_head
head_length h c k m = refl

module _ {B : Type 0} (enc : B → List ℕ) (renumber : B → Counters → Fresh B)
    (inner : (b : B) (c : Counters) → length (enc (renumber b c).node) ≡ length (enc b)) where
  element_length : (e : Element B) (c : Counters) → length (encode_element enc (renumber_element renumber e c).node) ≡ length (encode_element enc e)
  unfolding encode_element_in renumber_element
  element_length (leaf h l) c =
      let h' = renumber_head h c in
      let l' = renumber_leaf l h'.counters in
      let x = length-append (encode_head h'.node (leaf_kind l'.node)) (encode_leaf l'.node) in
      let y = length-append (encode_head h (leaf_kind l)) (encode_leaf l) in
      let u = head_length h c (leaf_kind l'.node) (leaf_kind l) in
      let v = leaf_length l h'.counters in
      omega arith
  element_length (block h b) c =
      let h' = renumber_head h c in
      let b' = renumber b h'.counters in
      let x = length-append (encode_head h'.node block_kind) (enc b'.node) in
      let y = length-append (encode_head h block_kind) (enc b) in
      let u = head_length h c block_kind block_kind in
      let v = inner b h'.counters in
      omega arith

  alternative_length : (a : AlternativeOf B) (c : Counters)
      → length (encode_alternative enc (renumber_alternative renumber a c).node) ≡ length (encode_alternative enc a)
  unfolding renumber_alternative renumber_elements
  alternative_length a c =
      let x = words_of enc (renumber_alternative renumber a c).node in
      let y = words_of enc a in
      let z = keeps_each (encode_element enc) (renumber_element renumber) element_length a.elements (past alternative_sort c) in
      omega arith

block_length : (d : ℕ) (b : Block d) (c : Counters) → length (encode_block d (renumber_block d b c).node) ≡ length (encode_block d b)
unfolding encode_block_in renumber_block
block_length zero b c = absurd b
block_length (suc d) b c =
    ap suc (keeps_each (encode_alternative (encode_block d)) (renumber_alternative (renumber_block d))
    (alternative_length (encode_block d) (renumber_block d) (block_length d)) b c)

module _ (d : ℕ) where
  -- A copy of an element, or of several.
  pub copy_length : (e : Element (Block d)) (c : Counters)
      → length (encode_element (encode_block d) (renumber_element (renumber_block d) e c).node) ≡ length (encode_element (encode_block d) e)
  copy_length = element_length (encode_block d) (renumber_block d) (block_length d)

  pub copies_length : (es : List (Element (Block d))) (c : Counters)
      → length (each (encode_element (encode_block d)) (fresh_each (renumber_element (renumber_block d)) es c).node)
      ≡ length (each (encode_element (encode_block d)) es)
  copies_length = keeps_each (encode_element (encode_block d)) (renumber_element (renumber_block d)) copy_length

-- An element that was made plain.
pub made_length : {B : Type 0} (enc : B → List ℕ) (made : Bool) (e : Element B)
    → length (encode_element enc (made_if made e)) ≡ length (encode_element enc e)
unfolding encode_element_in encode_head plain
made_length enc true (leaf h l) = refl
made_length enc true (block h b) = refl
made_length enc false e = refl

pub made_fold : {B : Type 0} (step : Tally → B → Tally) (made : Bool) (t : Tally) (e : Element B)
    → element_fold counting step t (made_if made e) ≡ element_fold counting step t e
unfolding element_fold plain
made_fold step true t (leaf h l) = refl
made_fold step true t (block h b) = refl
made_fold step false t e = refl
