-- The shape of a joined rule: what planned_hub_is_directly_rewritable tests before a plan holds of what the plan leaves.
use Rattle.std.specs.Prelude.{ℕ, suc, ◌≡◌, ◌⊎◌, ◌||◌, not}
use Rattle.std.proofs.Common.{sym, ap, ◌∙◌, subst, subst₂, arith}
use Rattle.std.proofs.Math.Logic.{inl, inr, ⊎_map}
use mathlib.Core.List.Memᴰ
use mathlib.Core.List.{List, [], ◌∷◌, Memᴰ}
use Rattle.std.proofs.Math.Bool.{false}
use Rattle.std.proofs.lemmas.Bool.{not-true, or_parts}
use Rattle.std.specs.Cmp.{first_so, second_so}
use Rattle.grammar.specs.Laws.Lists.{in_map}
use Rattle.grammar.specs.Tree.{ElementHead, Call, epsilon, action, predicate, call, token, terminal, end_of_input, leaf, block}
use Rattle.grammar.specs.Tree.{AlternativeOf}
use Rattle.grammar.specs.Tree.{Block, RuleOf, Counters}
use Rattle.grammar.specs.Lists.{member, all, any}
use Rattle.language.specs.Shape.{erase_block, erase_rules, EachCall}
use Rattle.language.specs.Derive.{CanBeEmpty}
use Rattle.language.specs.Laws.Empty.{by_same}
use Rattle.grammar.specs.Corners.{Corners}
use Rattle.language.specs.LeftCorners.{Corner}
use Rattle.grammar.specs.Laws.Parse.{either}
use Rattle.language.specs.Laws.Copies.{change_element, drop_ids, copies_shape}
use Rattle.reference.specs.Walks.{is_epsilon_only}
use Rattle.reference.specs.Analysis.{Grammar, grammar_of}
use Rattle.reference.specs.Substitute.{Planned}
use Rattle.reference.specs.Plan.{CyclePlan, gives_hub_arguments, is_recursive, is_primary, is_fit, planned_hub_is_directly_rewritable}
use Rattle.laws.specs.Lists.Lookup.{all_in, any_in}
use Rattle.laws.specs.Planning.Turns.{Items}
use Rattle.laws.specs.Planning.Substituted.{Known, shape_of}
use Rattle.laws.specs.Planning.Sorts.{Recursive, Primary, primary_before, recursive_before}
use Rattle.laws.specs.Planning.Renumber.{idless, applied_copies}
use Rattle.laws.specs.Planning.Plans.{Made}
use Rattle.laws.specs.Planning.OnePlan.{gone, rules_left, new_body, left_stems, left_same, left_corner, body_closed}

-- Two lists alike but for ids: how one starts, the other does.
copy_starts : (d : ℕ) (es : Items d) (h : ElementHead) (c : Call) (rest : Items d) → idless d es ≡ idless d (leaf h (call c) ∷ rest)
    → (h' : ElementHead) × (rest' : Items d) × (es ≡ leaf h' (call c) ∷ rest') × (h'.quantifier ≡ h.quantifier)
    × (idless d rest' ≡ idless d rest)
unfolding change_element
copy_starts d [] h c rest e = absurd (let z : ◌≡◌ {A = ℕ} 0 1 = cc in omega arith)
copy_starts d (leaf h' (call k) ∷ es) h c rest e =
    let p : k ≡ c = cc in
    let r : drop_ids.on_head h' ≡ drop_ids.on_head h = cc in
    (h', es, ap (λ k. leaf h' (call k) ∷ es) p, ap (λ h. h.quantifier) r, cc)
copy_starts d (leaf h' epsilon ∷ es) h c rest e = absurd (let z : ◌≡◌ {A = ℕ} 0 1 = cc in omega arith)
copy_starts d (leaf h' (action a) ∷ es) h c rest e = absurd (let z : ◌≡◌ {A = ℕ} 0 1 = cc in omega arith)
copy_starts d (leaf h' (predicate p) ∷ es) h c rest e = absurd (let z : ◌≡◌ {A = ℕ} 0 1 = cc in omega arith)
copy_starts d (leaf h' (token m) ∷ es) h c rest e = absurd (let z : ◌≡◌ {A = ℕ} 0 1 = cc in omega arith)
copy_starts d (leaf h' terminal ∷ es) h c rest e = absurd (let z : ◌≡◌ {A = ℕ} 0 1 = cc in omega arith)
copy_starts d (leaf h' end_of_input ∷ es) h c rest e = absurd (let z : ◌≡◌ {A = ℕ} 0 1 = cc in omega arith)
copy_starts d (block h' b ∷ es) h c rest e = absurd (let z : ◌≡◌ {A = ℕ} 0 1 = cc in omega arith)

-- What each alternative of a body calls has a property.
pub each_alternative : (P : ℕ → Type 0) (d : ℕ) {a : AlternativeOf (Block d)} {as' : Block (suc d)} → EachCall P (erase_block (suc d) as')
    → Memᴰ a as'
    → EachCall P (shape_of d a.elements)
unfolding erase_block
each_alternative P d p (Memᴰ.head e) = subst (λ a. EachCall P (shape_of d a.elements)) (sym e) p.0
each_alternative P d p (Memᴰ.tail m) = each_alternative P d p.1 m

module _ {c : Corners} {d : ℕ} {rs : List (RuleOf (Block (suc d)))} (k : Known (suc d) rs (grammar_of (suc d) rs))
    {preserved cycle : List ℕ} {plan : CyclePlan d}
    (x : Made c d rs (grammar_of (suc d) rs) preserved cycle plan) (counters : Counters) where
  abbrev g : Grammar
  g = grammar_of (suc d) rs

  without_arguments : (p : Planned d) → Memᴰ p plan.alternatives → any (gives_hub_arguments g x.hub.id) p.elements ≡ false
  unfolding planned_hub_is_directly_rewritable is_fit
  without_arguments p m =
      let fit =
      all_in (λ p. is_fit c g cycle x.hub.id d p.elements)
      (first_so (all (λ p. is_fit c g cycle x.hub.id d p.elements) plan.alternatives) _ x.is_fit) m in
      (or_parts _ _ (not-true (any (gives_hub_arguments g x.hub.id) p.elements || all is_epsilon_only p.elements) (first_so _ _ fit))).0

  -- Every planned alternative is of one sort or the other.
  sorts_before : (p : Planned d) → Memᴰ p plan.alternatives
      → Recursive d rs x.hub.name p.elements ⊎ Primary d rs c cycle p.elements
  unfolding planned_hub_is_directly_rewritable is_fit
  sorts_before p m =
      let es = p.elements in
      let fit =
      all_in (λ p. is_fit c g cycle x.hub.id d p.elements)
      (first_so (all (λ p. is_fit c g cycle x.hub.id d p.elements) plan.alternatives) _ x.is_fit) m in
      either (is_primary c g cycle x.hub.id d es)
      (λ y. inr (primary_before c k cycle x.is_rule es y))
      (λ n. inl (recursive_before c k cycle x.is_rule es (rw n at
      (second_so (not (any (gives_hub_arguments g x.hub.id) es || all is_epsilon_only es)) _ fit)) (without_arguments p m)))

  one_primary : (p : Planned d) × Memᴰ p plan.alternatives × Primary d rs c cycle p.elements
  unfolding planned_hub_is_directly_rewritable
  one_primary =
      let both = second_so (all (λ p. is_fit c g cycle x.hub.id d p.elements) plan.alternatives) _ x.is_fit in
      let (p, m, t) = any_in (λ p. is_primary c g cycle x.hub.id d p.elements) plan.alternatives (first_so _ _ both) in
      (p, m, primary_before c k cycle x.is_rule p.elements t)

  one_recursive : (p : Planned d) × Memᴰ p plan.alternatives × Recursive d rs x.hub.name p.elements
  unfolding planned_hub_is_directly_rewritable
  one_recursive =
      let both = second_so (all (λ p. is_fit c g cycle x.hub.id d p.elements) plan.alternatives) _ x.is_fit in
      let (p, m, t) =
      any_in (λ p. is_recursive g x.hub.id d p.elements) plan.alternatives
      (second_so (any (λ p. is_primary c g cycle x.hub.id d p.elements) plan.alternatives) _ both) in
      (p, m, recursive_before c k cycle x.is_rule p.elements t (without_arguments p m))

  -- After the plan: each alternative has a planned one, and each planned one an alternative.
  abbrev Copies : AlternativeOf (Block d) → Planned d → Type 0
  Copies a p = idless d a.elements ≡ idless d p.elements

  planned_of : {a : AlternativeOf (Block d)} → Memᴰ a (new_body k x counters)
      → (p : Planned d) × Memᴰ p plan.alternatives × Copies a p
  planned_of {a} m =
      let (p, n, e) = Memᴰ.of_map (λ p. idless d p.elements) plan.alternatives
      (subst (Memᴰ (idless d a.elements)) (applied_copies d plan.alternatives counters)
      (in_map (λ a. idless d a.elements) m)) in
      (p, n, sym e)

  of_planned : {p : Planned d} → Memᴰ p plan.alternatives
      → (a : AlternativeOf (Block d)) × Memᴰ a (new_body k x counters) × Copies a p
  of_planned {p} m =
      Memᴰ.of_map (λ a. idless d a.elements) (new_body k x counters)
      (subst (Memᴰ (idless d p.elements)) (sym (applied_copies d plan.alternatives counters))
      (in_map (λ p. idless d p.elements) m))

  module _ {a : AlternativeOf (Block d)} (m : Memᴰ a (new_body k x counters)) (p : Planned d) (e : Copies a p) where
    stays : EachCall (λ n. gone k x counters n ≡ false) (shape_of d a.elements)
    stays = each_alternative (λ n. gone k x counters n ≡ false) d (body_closed k x counters) m

    primary_after : Primary d rs c cycle p.elements → Primary d (rules_left k x counters) c cycle a.elements
    primary_after h q n i y =
        let s = left_stems k x counters n in
        let z = (left_corner k x counters c (shape_of d a.elements) stays).1 y in
        h s.rule s.is_rule (ap (λ j. member j cycle) (sym s.id) ∙ i)
        (subst₂ (Corner c (erase_rules (suc d) rs)) (copies_shape d a.elements p.elements e) s.name z)

    recursive_after : Recursive d rs x.hub.name p.elements → Recursive d (rules_left k x counters) x.hub.name a.elements
    recursive_after h =
        let (head, rest, w, q, r) = copy_starts d a.elements h.head h.site h.rest (e ∙ ap (idless d) h.starts) in
        let u : EachCall (λ n. gone k x counters n ≡ false) (shape_of d (leaf head (call h.site) ∷ rest)) =
        subst (λ l. EachCall (λ n. gone k x counters n ≡ false) (shape_of d l)) w stays in
        record {
          head = head;
          site = h.site;
          rest = rest;
          starts = w;
          called = h.called;
          plain = q ∙ h.plain;
          bare = h.bare;
          goes_on =
              λ o. h.goes_on (subst (CanBeEmpty (erase_rules (suc d) rs)) (copies_shape d rest h.rest r)
              (by_same (left_same k x counters (shape_of d rest) u.1).back o));
        }

  pub sorts_after : (a : AlternativeOf (Block d)) → Memᴰ a (new_body k x counters)
      → Recursive d (rules_left k x counters) x.hub.name a.elements ⊎ Primary d (rules_left k x counters) c cycle a.elements
  sorts_after a m =
      let (p, n, e) = planned_of m in
      ⊎_map (recursive_after m p e) (primary_after m p e) (sorts_before p n)

  pub recursive_one : (a : AlternativeOf (Block d)) × Memᴰ a (new_body k x counters)
      × Recursive d (rules_left k x counters) x.hub.name a.elements
  recursive_one =
      let (p, n, h) = one_recursive in
      let (a, m, e) = of_planned n in
      (a, m, recursive_after m p e h)

  pub primary_one : (a : AlternativeOf (Block d)) × Memᴰ a (new_body k x counters)
      × Primary d (rules_left k x counters) c cycle a.elements
  primary_one =
      let (p, n, h) = one_primary in
      let (a, m, e) = of_planned n in
      (a, m, primary_after m p e h)
