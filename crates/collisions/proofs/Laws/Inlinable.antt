-- A satellite that can be inlined refers to nothing, so that only what stands around it can refer to what it binds.
use Prim.Native.Nat.{ℕ, zero, suc}
use mathlib.Core.Path.{◌≡◌, refl, ap, ◌∙◌}
use mathlib.Core.List.{List, [], ◌++◌, Memᴰ}
use mathlib.Core.Bool.{true, not, or-false}
use native.Mathlib.Omega.{arith}
use lib.Dec.{eqb}
use borrow.Author.Tests.{not-true, not-false}
use Rattle.std.specs.Cmp.{second_so}
use Rattle.grammar.specs.Lists.{each, all, any, is_empty, nothing, meet, keep}
use Rattle.grammar.specs.Numbers.{action_sort, predicate_sort}
use Rattle.grammar.specs.Tree.{Leaf, epsilon, action, predicate, call, token, terminal, end_of_input, Element, leaf, block, AlternativeOf}
use Rattle.grammar.specs.Tree.{Block, RuleOf}
use Rattle.grammar.specs.Ids.{head_ids, leaf_ids, element_ids, alternative_ids, block_ids}
use Rattle.grammar.specs.Laws.Lists.{empty_none, append_none}
use Rattle.reference.specs.Walks.{element_gives, block_gives, elements_give, references}
use Rattle.reference.specs.Substitute.{Elements, action_reference_names, bindable_names, implicit_bindings_collide}
use Rattle.reference.specs.Plan.{satellite_has_embedded_semantics, satellite_is_inlinable}
use Rattle.collisions.specs.Walks.{binding_names}
use Rattle.collisions.proofs.Laws.Silent.{each_none}

leaf_none : (l : Leaf) → leaf_ids action_sort l ≡ [] → leaf_ids predicate_sort l ≡ [] → binding_names l ≡ []
unfolding leaf_ids references keep
leaf_none epsilon a b = refl
leaf_none (action x) a b = absurd (let z : ◌≡◌ {A = ℕ} 0 1 = cc in omega arith)
leaf_none (predicate x) a b = absurd (let z : ◌≡◌ {A = ℕ} 0 1 = cc in omega arith)
leaf_none (call c) a b = refl
leaf_none (token n) a b = refl
leaf_none terminal a b = refl
leaf_none end_of_input a b = refl

module _ {B : Type 0} (f g h : B → List ℕ) (inner : (b : B) → f b ≡ [] → g b ≡ [] → h b ≡ []) where
  element_none : (e : Element B) → element_ids action_sort f e ≡ [] → element_ids predicate_sort g e ≡ [] → element_gives nothing binding_names h e ≡ []
  unfolding element_ids element_gives
  element_none (leaf i l) a b =
      leaf_none l (append_none (head_ids action_sort i) (leaf_ids action_sort l) a).1 (append_none (head_ids predicate_sort i) (leaf_ids predicate_sort l) b).1
  element_none (block i x) a b =
      inner x (append_none (head_ids action_sort i) (f x) a).1 (append_none (head_ids predicate_sort i) (g x) b).1

  alternative_none : (t : AlternativeOf B) → alternative_ids action_sort f t ≡ [] → alternative_ids predicate_sort g t ≡ []
      → each (element_gives nothing binding_names h) t.elements ≡ []
  unfolding alternative_ids
  alternative_none t a b =
      each_none (element_ids action_sort f) (element_ids predicate_sort g) (element_gives nothing binding_names h) element_none t.elements a b

block_none : (d : ℕ) (b : Block d) → block_ids action_sort d b ≡ [] → block_ids predicate_sort d b ≡ [] → block_gives nothing binding_names d b ≡ []
unfolding block_ids block_gives
block_none zero b p q = absurd b
block_none (suc d) b p q =
    each_none (alternative_ids action_sort (block_ids action_sort d)) (alternative_ids predicate_sort (block_ids predicate_sort d))
    (λ a. each (element_gives nothing binding_names (block_gives nothing binding_names d)) a.elements)
    (alternative_none (block_ids action_sort d) (block_ids predicate_sort d) (block_gives nothing binding_names d) (block_none d)) b p q

-- One of several.
one_none : {A : Type 0} (f : A → List ℕ) {a : A} {as' : List A} → Memᴰ a as' → each f as' ≡ [] → f a ≡ []
one_none f (Memᴰ.head {x = y} {xs = ys} e) p = ap f e ∙ (append_none (f y) (each f ys) p).0
one_none f (Memᴰ.tail {x = y} {xs = ys} m) p = one_none f m (append_none (f y) (each f ys) p).1

pub inlinable_none : (d : ℕ) (r : RuleOf (Block (suc d))) → satellite_is_inlinable d r ≡ true → (a : AlternativeOf (Block d)) → Memᴰ a r.body
    → action_reference_names d a.elements ≡ []
unfolding satellite_is_inlinable satellite_has_embedded_semantics action_reference_names elements_give block_gives
inlinable_none d r t a m =
    let acts = block_ids action_sort (suc d) r.body in
    let tests = block_ids predicate_sort (suc d) r.body in
    let u = second_so (all (λ x. eqb x.flag 0) r.body) _ (second_so (eqb r.flags 0) _ t) in
    let n = append_none acts tests (empty_none (acts ++ tests) (not-false (is_empty (acts ++ tests)) (not-true (not (is_empty (acts ++ tests))) u))) in
    one_none (λ x. each (element_gives nothing binding_names (block_gives nothing binding_names d)) x.elements) m
    (block_none (suc d) r.body n.0 n.1)

-- So one half of the test for bindings is enough.
pub inlinable_binding : (d : ℕ) (around spliced : Elements d) → action_reference_names d spliced ≡ []
    → implicit_bindings_collide d around spliced ≡ meet (action_reference_names d around) (bindable_names d spliced)
unfolding implicit_bindings_collide meet any
inlinable_binding d around spliced e =
    rw e (or-false (meet (action_reference_names d around) (bindable_names d spliced)))
