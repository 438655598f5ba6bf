-- The definition's test for what can be empty is the test of shapes.
use Prim.Native.Nat.{ℕ, zero, suc}
use Rattle.std.specs.Prelude.{◌≡◌, Bool, true, false}
use Rattle.std.proofs.Math.Path.{refl, ap, ap₂, fun_ext}
use Rattle.std.proofs.Common.{◌∙◌}
use mathlib.Core.List.{List, [], ◌∷◌}
use Rattle.std.proofs.Math.Option.{Option, none, some}
use Rattle.std.proofs.Math.Bool.{◌||◌, or-true}
use Rattle.std.proofs.lemmas.Bool.{and_from}
use Rattle.std.specs.Cmp.{first_so, second_so}
use Rattle.grammar.specs.Tree.{Leaf, epsilon, action, predicate, call, token, terminal, end_of_input, Element, leaf, block, Block}
use Rattle.grammar.specs.Lists.{member, all, any}
use Rattle.grammar.specs.Laws.Parse.{either}
use Rattle.language.specs.Shape.{Shape, eps, fail, symbol, call_of, seq, alt, opt, star, plus, erase_leaf, erase_element, erase_elements}
use Rattle.language.specs.Shape.{erase_block, is_mark}
use Rattle.language.specs.Laws.Empty.{empty_if, empty_if_quantified, empty_if_seqs}
use Rattle.reference.specs.Walks.{sort_of, is_end, is_optional}
use Rattle.reference.specs.Analysis.{Grammar, target, leaf_nullable, element_nullable, block_is_nullable}

module _ (g : Grammar) where
  abbrev pub is_null : Option ℕ → Bool
  is_null none = false
  is_null (some t) = member t g.nullable

  unfoldable pub named : ℕ → Bool
  named n = is_null (target g n)

  leaf_test : (k : ℕ) (l : Leaf) → empty_if named (erase_leaf k l) ≡ leaf_nullable g l
  unfolding empty_if erase_leaf leaf_nullable sort_of named is_end is_mark
  leaf_test k epsilon = refl
  leaf_test k (action a) = refl
  leaf_test k (predicate p) = refl
  leaf_test k (call c) = refl
  leaf_test k (token n) = refl
  leaf_test k terminal = refl
  leaf_test k end_of_input = refl

  pub element_test : {B : Type 0} (erase_b : B → Shape) (test_b : B → Bool) → ((b : B) → empty_if named (erase_b b) ≡ test_b b)
      → (e : Element B)
      → empty_if named (erase_element erase_b e) ≡ element_nullable g test_b e
  unfolding erase_element element_nullable
  element_test erase_b test_b h (leaf x l) =
      empty_if_quantified named x.quantifier (erase_leaf x.carried l) ∙ ap (λ b. is_optional x || b) (leaf_test x.carried l)
  element_test erase_b test_b h (block x b) = empty_if_quantified named x.quantifier (erase_b b) ∙ ap (λ b. is_optional x || b) (h b)

  all_same : {A : Type 0} {f k : A → Bool} → ((a : A) → f a ≡ k a) → (as' : List A) → all f as' ≡ all k as'
  all_same h as' = ap (λ f. all f as') (fun_ext h)

  pub block_test : (d : ℕ) (b : Block d) → empty_if named (erase_block d b) ≡ block_is_nullable g d b
  unfolding erase_block block_is_nullable empty_if any
  block_test zero b = absurd b
  block_test (suc d) [] = refl
  block_test (suc d) (a ∷ as') =
      ap₂ ◌||◌ (empty_if_seqs named (erase_element (erase_block d)) a.elements
      ∙ all_same (element_test (erase_block d) (block_is_nullable g d) (block_test d)) a.elements) (block_test (suc d) as')

  -- Of an alternative's elements.
  pub elements_test : (d : ℕ) (es : List (Element (Block d)))
      → empty_if named (erase_elements (erase_block d) es) ≡ all (element_nullable g (block_is_nullable g d)) es
  elements_test d es =
      empty_if_seqs named (erase_element (erase_block d)) es
      ∙ all_same (element_test (erase_block d) (block_is_nullable g d) (block_test d)) es

-- What more names let be empty.
pub empty_if_more : (M N : ℕ → Bool) → ((n : ℕ) → M n ≡ true → N n ≡ true) → (s : Shape) → empty_if M s ≡ true → empty_if N s ≡ true
unfolding empty_if
empty_if_more M N h eps t = t
empty_if_more M N h fail t = t
empty_if_more M N h (symbol a) t = t
empty_if_more M N h (call_of n) t = h n t
empty_if_more M N h (seq s r) t =
    and_from _ _ (empty_if_more M N h s (first_so (empty_if M s) (empty_if M r) t))
    (empty_if_more M N h r (second_so (empty_if M s) (empty_if M r) t))
empty_if_more M N h (alt s r) t =
    either (empty_if M s)
    (λ u. rw (empty_if_more M N h s u) refl)
    (λ f. rw (empty_if_more M N h r (rw f at t)) (or-true (empty_if N s)))
empty_if_more M N h (opt s) t = t
empty_if_more M N h (star s) t = t
empty_if_more M N h (plus s) t = empty_if_more M N h s t
