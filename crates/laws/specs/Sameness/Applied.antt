-- Applying a plan commutes with other names, told apart as before, and other carried numbers.
use Prim.Native.Nat.{ℕ, zero, suc}
use Rattle.std.specs.Prelude.{◌≡◌, List, [], ◌∷◌, ◌++◌, map, eqb}
use Rattle.std.proofs.Math.Path.{refl, ap, fun_ext}
use Rattle.std.proofs.Common.{sym, ◌∙◌}
use Rattle.std.proofs.lemmas.Simd.{map-map}
use Rattle.std.proofs.Math.Bool.{Bool, not}
use Rattle.grammar.specs.Laws.Parse.{either}
use Rattle.grammar.specs.Lists.{member, keep}
use Rattle.grammar.specs.Numbers.{rule_sort, alternative_sort, element_sort}
use Rattle.grammar.specs.Tree.{Label, unlabelled, labelled, ElementHead, Leaf, epsilon, action, predicate, call, token, terminal}
use Rattle.grammar.specs.Tree.{end_of_input, Element, leaf, block, AlternativeOf, Block, RuleOf, Counters, with_head_id, with_label}
use Rattle.grammar.specs.Tree.{with_alternative_id, with_elements}
use Rattle.reference.specs.Substitute.{Planned}
use Rattle.reference.specs.Plan.{CyclePlan}
use Rattle.reference.specs.Apply.{clone, boundary, Fresh, with_entries, unchanged, recording, ◌followed_by◌, fresh_each, past}
use Rattle.reference.specs.Apply.{renumber_label}
use Rattle.reference.specs.Apply.{renumber_head, renumber_leaf, renumber_element, renumber_elements, renumber_alternative, renumber_block}
use Rattle.reference.specs.Apply.{placed}
use Rattle.reference.specs.Apply.{apply_alternative, with_body, apply_plan}
use Rattle.laws.specs.Lists.Mapped.{keep_same}
use Rattle.laws.specs.Demands.Marks.{on_label, on_head, on_leaf, on_element, on_alternative, on_rule, on_block}
use Rattle.laws.specs.Sameness.Marked.{on_rules}
use Rattle.laws.specs.Sameness.Steps.{on_planned}
use Rattle.laws.specs.Sameness.Plans.{on_plan}

-- Another node, the same counters and entries.
abbrev pub on_fresh : {A B : Type 0} → (A → B) → Fresh A → Fresh B
on_fresh h x = record { node = h x.node; counters = x.counters; entries = x.entries }

-- What follows, and what is made of each item in turn.
followed_on : {A A' B B' : Type 0} (h : A → A') (j : B → B') (x : Fresh A) (k : A → Counters → Fresh B) (k' : A' → Counters → Fresh B')
    → k' (h x.node) x.counters ≡ on_fresh j (k x.node x.counters) → (on_fresh h x followed_by k') ≡ on_fresh j (x followed_by k)
followed_on h j x k k' e = ap (λ y. with_entries (x.entries ++ y.entries) y) e

fresh_each_on : {A A' B B' : Type 0} (h : A → A') (j : B → B') (give : A → Counters → Fresh B) (give' : A' → Counters → Fresh B')
    → ((a : A) (c : Counters) → give' (h a) c ≡ on_fresh j (give a c)) → (as' : List A) (c : Counters)
    → fresh_each give' (map h as') c ≡ on_fresh (map j) (fresh_each give as' c)
unfolding fresh_each
fresh_each_on h j give give' e [] c = refl
fresh_each_on {B = B} {B' = B'} h j give give' e (a ∷ as') c =
    ap (λ (x : Fresh B'). x followed_by λ b c₁. fresh_each give' (map h as') c₁ followed_by λ bs c₂. unchanged (b ∷ bs) c₂) (e a c)
    ∙ followed_on j (map j) (give a c) (λ b c₁. fresh_each give as' c₁ followed_by λ bs c₂. unchanged (b ∷ bs) c₂)
    (λ b c₁. fresh_each give' (map h as') c₁ followed_by λ bs c₂. unchanged (b ∷ bs) c₂)
    (ap (λ (x : Fresh (List B')). x followed_by λ bs c₂. unchanged (j (give a c).node ∷ bs) c₂)
    (fresh_each_on h j give give' e as' (give a c).counters))

-- What is numbered afresh.
module _ (f r pr : ℕ → ℕ) where
  label_fresh : (l : Label) (c : Counters) → renumber_label (on_label f r pr l) c ≡ on_fresh (on_label f r pr) (renumber_label l c)
  unfolding renumber_label
  label_fresh unlabelled c = refl
  label_fresh (labelled i n) c = refl

  head_fresh : (h : ElementHead) (c : Counters) → renumber_head (on_head f r pr h) c ≡ on_fresh (on_head f r pr) (renumber_head h c)
  unfolding renumber_head
  head_fresh h c =
      ap (λ (x : Fresh Label). recording (clone element_sort c.element h.id)
      (x followed_by λ l c₁. unchanged (with_head_id c.element (with_label l (on_head f r pr h))) c₁))
      (label_fresh h.label (past element_sort c))

  leaf_fresh : (l : Leaf) (c : Counters) → renumber_leaf (on_leaf f r pr l) c ≡ on_fresh (on_leaf f r pr) (renumber_leaf l c)
  unfolding renumber_leaf on_leaf
  leaf_fresh epsilon c = refl
  leaf_fresh (action a) c = refl
  leaf_fresh (predicate p) c = refl
  leaf_fresh (call k) c = refl
  leaf_fresh (token n) c = refl
  leaf_fresh terminal c = refl
  leaf_fresh end_of_input c = refl

  module _ {B : Type 0} (on_b : B → B) (renumber : B → Counters → Fresh B)
      (e : (b : B) (c : Counters) → renumber (on_b b) c ≡ on_fresh on_b (renumber b c)) where
    element_fresh : (x : Element B) (c : Counters)
        → renumber_element renumber (on_element f r pr on_b x) c ≡ on_fresh (on_element f r pr on_b) (renumber_element renumber x c)
    unfolding renumber_element on_element
    element_fresh (leaf h l) c =
        ap (λ (x : Fresh ElementHead). x followed_by λ h' c₁. renumber_leaf (on_leaf f r pr l) c₁
        followed_by λ l' c₂. unchanged (leaf h' l') c₂)
        (head_fresh h c)
        ∙ ap (λ (y : Fresh Leaf). on_fresh (on_head f r pr) (renumber_head h c) followed_by λ h' c₁. y followed_by λ l' c₂.
        unchanged (leaf h' l') c₂) (leaf_fresh l (renumber_head h c).counters)
    element_fresh (block h b) c =
        ap (λ (x : Fresh ElementHead). x followed_by λ h' c₁. renumber (on_b b) c₁ followed_by λ b' c₂. unchanged (block h' b') c₂)
        (head_fresh h c)
        ∙ ap (λ (y : Fresh B). on_fresh (on_head f r pr) (renumber_head h c) followed_by λ h' c₁. y followed_by λ b' c₂.
        unchanged (block h' b') c₂) (e b (renumber_head h c).counters)

    elements_fresh : (es : List (Element B)) (c : Counters)
        → renumber_elements renumber (map (on_element f r pr on_b) es) c
        ≡ on_fresh (map (on_element f r pr on_b)) (renumber_elements renumber es c)
    unfolding renumber_elements
    elements_fresh es c =
        fresh_each_on (on_element f r pr on_b) (on_element f r pr on_b) (renumber_element renumber)
        (renumber_element renumber) element_fresh es c

    alternative_fresh : (a : AlternativeOf B) (c : Counters)
        → renumber_alternative renumber (on_alternative f r pr on_b a) c
        ≡ on_fresh (on_alternative f r pr on_b) (renumber_alternative renumber a c)
    unfolding renumber_alternative
    alternative_fresh a c =
        ap (λ (x : Fresh (List (Element B))). recording (clone alternative_sort c.alternative a.id)
        (x followed_by λ es c₁. unchanged (with_alternative_id c.alternative (with_elements es (on_alternative f r pr on_b a))) c₁))
        (elements_fresh a.elements (past alternative_sort c))

  block_fresh : (d : ℕ) (b : Block d) (c : Counters)
      → renumber_block d (on_block f r pr d b) c ≡ on_fresh (on_block f r pr d) (renumber_block d b c)
  unfolding renumber_block on_block
  block_fresh zero b c = absurd b
  block_fresh (suc d) as' c =
      fresh_each_on (on_alternative f r pr (on_block f r pr d)) (on_alternative f r pr (on_block f r pr d))
      (renumber_alternative (renumber_block d))
      (renumber_alternative (renumber_block d)) (alternative_fresh (on_block f r pr d) (renumber_block d) (block_fresh d)) as' c

module _ (f r pr : ℕ → ℕ) (one : (a b : ℕ) → f a ≡ f b → a ≡ b) (d : ℕ) where
  abbrev on_whole : RuleOf (Block (suc d)) → RuleOf (Block (suc d))
  on_whole = on_rule f r pr (on_block f r pr (suc d))

  abbrev on_bodied : AlternativeOf (Block d) → AlternativeOf (Block d)
  on_bodied = on_alternative f r pr (on_block f r pr d)

  -- An alternative, and the rules with the hub's body, as a plan leaves them.
  applied_on : (p : Planned d) (c : Counters)
      → apply_alternative d (on_planned f r pr one d p) c ≡ on_fresh on_bodied (apply_alternative d p c)
  unfolding apply_alternative
  applied_on p c =
      either p.verbatim
      (λ t. rw (t, apply_alternative) refl)
      (λ n. rw (n, apply_alternative)
      (ap (λ (x : Fresh (List (Element (Block d)))). recording (boundary alternative_sort c.alternative p.origin)
      (x followed_by λ es c₁. unchanged (placed d c.alternative es (on_planned f r pr one d p)) c₁))
      (elements_fresh f r pr (on_block f r pr d) (renumber_block d) (block_fresh f r pr d) p.elements (past alternative_sort c))))

  body_on : (hub : ℕ) (b : Block (suc d)) (q : RuleOf (Block (suc d)))
      → with_body d hub (on_block f r pr (suc d) b) (on_whole q) ≡ on_whole (with_body d hub b q)
  unfolding with_body
  body_on hub b q = either (eqb q.id hub) (λ t. rw (t, with_body) refl) (λ n. rw (n, with_body) refl)

  bodies_on : (hub : ℕ) (b : Block (suc d)) (rs : List (RuleOf (Block (suc d))))
      → map (with_body d hub (on_block f r pr (suc d) b)) (map on_whole rs) ≡ map on_whole (map (with_body d hub b) rs)
  bodies_on hub b rs =
      map-map (with_body d hub (on_block f r pr (suc d) b)) on_whole rs ∙ ap (λ k. map k rs) (fun_ext (body_on hub b))
      ∙ sym (map-map on_whole (with_body d hub b) rs)

  -- The whole plan: the same counters and entries, and the rules changed.
  pub apply_on : (rs : List (RuleOf (Block (suc d)))) (plan : CyclePlan d) (c : Counters)
      → apply_plan d (on_rules f r pr one (suc d) rs) (on_plan f r pr one d plan) c
      ≡ on_fresh (on_rules f r pr one (suc d)) (apply_plan d rs plan c)
  unfolding apply_plan on_block
  apply_on rs plan c =
      let test : RuleOf (Block (suc d)) → Bool = λ q. not (member q.id plan.removable) in
      let new = fresh_each (apply_alternative d) plan.alternatives c in
      ap (λ (x : Fresh (List (AlternativeOf (Block d)))). x followed_by λ as' c₁. recording (boundary rule_sort plan.hub plan.hub)
      (unchanged (keep test (map (with_body d plan.hub as') (on_rules f r pr one (suc d) rs))) c₁))
      (fresh_each_on (on_planned f r pr one d) on_bodied (apply_alternative d) (apply_alternative d) applied_on plan.alternatives c)
      ∙ ap (λ l. with_entries (new.entries ++ (boundary rule_sort plan.hub plan.hub ∷ [])) (unchanged l new.counters))
      (ap (keep test) (bodies_on plan.hub new.node rs)
      ∙ keep_same on_whole test test (λ q. refl) (map (with_body d plan.hub new.node) rs))
