-- Where nothing has a label or a reference, nothing can collide.
use Prim.Native.Nat.{ℕ, zero, suc}
use mathlib.Core.Path.{◌≡◌, refl, sym, ap, ap₂, ◌∙◌}
use mathlib.Core.List.{List, [], ◌∷◌, ◌++◌, map}
use mathlib.Core.Bool.{Bool, true}
use native.Mathlib.Omega.{arith}
use lib.ListN.{take, drop, take-append-drop}
use Rattle.grammar.specs.Lists.{each, nothing, member, keep}
use Rattle.grammar.specs.Tree.{Reference, Label, Leaf, Element, leaf, block, Block}
use Rattle.grammar.specs.Laws.Lists.{each_append, empty_none, append_none}
use Rattle.reference.specs.Walks.{element_gives, block_gives, elements_give, label_names, references}
use Rattle.reference.specs.Substitute.{without, remaining_actions_reference, collect_labels, action_reference_names}
use Rattle.collisions.specs.Walks.{reference_names, binding_names}
use Rattle.collisions.specs.Quiet.{is_quiet, Silent}

-- Where two functions give nothing of any item, a third gives nothing.
pub each_none : {A : Type 0} (f g h : A → List ℕ) → ((a : A) → f a ≡ [] → g a ≡ [] → h a ≡ []) → (as' : List A) → each f as' ≡ [] → each g as' ≡ []
    → each h as' ≡ []
each_none f g h k [] p q = refl
each_none f g h k (a ∷ as') p q =
    let x = append_none (f a) (each f as') p in
    let y = append_none (g a) (each g as') q in
    ap₂ ◌++◌ (k a x.0 y.0) (each_none f g h k as' x.1 y.1)

pub without_none : {A : Type 0} (f : A → List ℕ) (i : ℕ) (as' : List A) → each f as' ≡ [] → each f (without i as') ≡ []
without_none f i as' e =
    each_append f (take i as') (drop (suc i) as')
    ∙ ap₂ ◌++◌ (append_none (each f (take i as')) (each f (drop i as')) (cut i)).0
    (append_none (each f (take (suc i) as')) (each f (drop (suc i) as')) (cut (suc i))).1
  where
    cut : (j : ℕ) → each f (take j as') ++ each f (drop j as') ≡ []
    cut j = sym (each_append f (take j as') (drop j as')) ∙ ap (each f) (take-append-drop j as') ∙ e

-- What a walk takes that takes no more than another.
module _ (of_label less : Label → List ℕ) (of_leaf fewer : Leaf → List ℕ) (label : (b : Label) → of_label b ≡ [] → less b ≡ [])
    (payload : (l : Leaf) → of_leaf l ≡ [] → fewer l ≡ []) where
  element_none : {B : Type 0} (f g : B → List ℕ) → ((b : B) → f b ≡ [] → g b ≡ []) → (e : Element B) → element_gives of_label of_leaf f e ≡ []
      → element_gives less fewer g e ≡ []
  unfolding element_gives
  element_none f g inner (leaf h l) e =
      let x = append_none (of_label h.label) (of_leaf l) e in ap₂ ◌++◌ (label h.label x.0) (payload l x.1)
  element_none f g inner (block h b) e =
      let x = append_none (of_label h.label) (f b) e in ap₂ ◌++◌ (label h.label x.0) (inner b x.1)

  elements_none : {B : Type 0} (f g : B → List ℕ) → ((b : B) → f b ≡ [] → g b ≡ []) → (es : List (Element B))
      → each (element_gives of_label of_leaf f) es ≡ [] → each (element_gives less fewer g) es ≡ []
  elements_none f g inner es e =
      each_none (element_gives of_label of_leaf f) (element_gives of_label of_leaf f) (element_gives less fewer g)
      (λ a p q. element_none f g inner a p) es e e

  block_none : (d : ℕ) (b : Block d) → block_gives of_label of_leaf d b ≡ [] → block_gives less fewer d b ≡ []
  unfolding block_gives
  block_none zero b e = absurd b
  block_none (suc d) b e =
      let f = element_gives of_label of_leaf (block_gives of_label of_leaf d) in
      let g = element_gives less fewer (block_gives less fewer d) in
      each_none (λ a. each f a.elements) (λ a. each f a.elements) (λ a. each g a.elements)
      (λ a p q. elements_none (block_gives of_label of_leaf d) (block_gives less fewer d) (block_none d) a.elements p) b e e

  around_none : (d i : ℕ) (es : List (Element (Block d))) → elements_give of_label of_leaf d es ≡ [] → elements_give less fewer d (without i es) ≡ []
  unfolding elements_give
  around_none d i es e =
      without_none (element_gives less fewer (block_gives less fewer d)) i es
      (elements_none (block_gives of_label of_leaf d) (block_gives less fewer d) (block_none d) es e)

kept_none : (rs : List Reference) (test : Reference → Bool) → map (λ r. r.name) rs ≡ [] → map (λ r. r.name) (keep test rs) ≡ []
unfolding keep
kept_none [] test e = refl
kept_none (r ∷ rs) test e = absurd (let z : ◌≡◌ {A = ℕ} 0 1 = cc in omega arith)

pub quiet_silent : (d : ℕ) (es : List (Element (Block d))) (i : ℕ) → is_quiet d es ≡ true → Silent d es i
unfolding is_quiet remaining_actions_reference collect_labels action_reference_names member
quiet_silent d es i t =
    let e = empty_none (elements_give label_names reference_names d es) t in
    record {
      no_dangling = λ n. ap (member n) (around_none label_names nothing reference_names reference_names (λ b x. refl) (λ l x. x) d i es e);
      no_labels = around_none label_names label_names reference_names nothing (λ b x. x) (λ l x. refl) d i es e;
      no_references = around_none label_names nothing reference_names binding_names (λ b x. refl) (λ l x. kept_none (references l) _ x) d i es e;
    }
