-- No ids in bodies are of a number that is no sort's.
use Prim.Native.Nat.{ℕ, zero, suc}
use mathlib.Core.Path.{◌≡◌, refl, sym}
use mathlib.Core.List.{List, [], ◌∷◌}
use mathlib.Core.Bool.{false}
use native.Mathlib.Omega.{arith}
use lib.Dec.{eqb}
use borrow.Author.Tests.{ne_eqb}
use Rattle.std.specs.Prelude.{Result, Err}
use Rattle.grammar.specs.Tree.{Label, unlabelled, labelled, ElementHead, Leaf, epsilon, action, predicate, call, token, terminal}
use Rattle.grammar.specs.Tree.{end_of_input, Element, leaf, block, AlternativeOf, Block, body_depth}
use Rattle.grammar.specs.Lists.{each}
use Rattle.grammar.specs.Ids.{label_ids, head_ids, leaf_ids, element_ids, alternative_ids, block_ids}
use Rattle.words.specs.declared.numbers.Sort.{Sort}
use Rattle.words.specs.declared.numbers.Sort.TheVariants as sort
use Rattle.words.specs.declared.numbers.Unnamed.{Unnamed}
use Rattle.words.specs.Kinds.{Names, sort_number}
use Rattle.ids.specs.Ids.{CollectedSort}

each_none : {A : Type 0} (f : A → List ℕ) → ((a : A) → f a ≡ []) → (as' : List A) → each f as' ≡ []
each_none f h [] = refl
each_none f h (a ∷ as') = rw (h a) (each_none f h as')

module _ (n : ℕ) (none : (a : Sort) → sort_number a ≡ n → ⊥) where
  is_other : (a : Sort) → eqb n (sort_number a) ≡ false
  is_other a = ne_eqb n (sort_number a) λ e. none a (sym e)

  label_none : (l : Label) → label_ids n l ≡ []
  unfolding label_ids
  label_none unlabelled = refl
  label_none (labelled i m) = rw (is_other sort.Label) refl

  head_none : (h : ElementHead) → head_ids n h ≡ []
  unfolding head_ids
  head_none h = rw (is_other sort.Element, label_none h.label) refl

  leaf_none : (l : Leaf) → leaf_ids n l ≡ []
  unfolding leaf_ids
  leaf_none epsilon = refl
  leaf_none (action a) = rw (is_other sort.Action) refl
  leaf_none (predicate p) = rw (is_other sort.Predicate) refl
  leaf_none (call c) = refl
  leaf_none (token m) = refl
  leaf_none terminal = refl
  leaf_none end_of_input = refl

  module _ {B : Type 0} (f : B → List ℕ) (h : (b : B) → f b ≡ []) where
    element_none : (e : Element B) → element_ids n f e ≡ []
    unfolding element_ids
    element_none (leaf i l) = rw (head_none i) (leaf_none l)
    element_none (block i b) = rw (head_none i) (h b)

    alternative_none : (a : AlternativeOf B) → alternative_ids n f a ≡ []
    unfolding alternative_ids
    alternative_none a = rw (is_other sort.Alternative) (each_none (element_ids n f) element_none a.elements)

  block_none : (d : ℕ) (b : Block d) → block_ids n d b ≡ []
  unfolding block_ids
  block_none zero b = absurd b
  block_none (suc d) b = each_none (alternative_ids n (block_ids n d)) (alternative_none (block_ids n d) (block_none d)) b

  collected_none : (ws : List ℕ) (end k : ℕ) (after : List ℕ) → CollectedSort ws end k n after 0
  collected_none ws end k after =
      record {
        wrote = λ rs q s e. sym (each_none (λ r. block_ids n body_depth r.body) (λ r. block_none body_depth r.body) rs);
        few = omega arith;
      }

-- so none are collected where the number names nothing
pub collected_unnamed : {n : ℕ} {r : Result Sort Unnamed} {x : Unnamed} → r ≡ Err x → Names sort_number n r
    → (ws : List ℕ) (end k : ℕ) (after : List ℕ) → CollectedSort ws end k n after 0
collected_unnamed {n = n} e h ws end k after = let g = rw e at h in collected_none n (λ a. g.1 a) ws end k after
