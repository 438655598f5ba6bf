-- What holds of every alternative that a plan holds, and the ids of those that it leaves untouched.
use Rattle.std.specs.Prelude.{ℕ, suc, ◌+◌, ◌≤◌, ◌<◌, ◌≡◌, Bool, true, eqb}
use Rattle.std.proofs.Math.Path.{refl, ap, subst}
use Rattle.std.proofs.Common.{sym, ◌∙◌}
use Rattle.std.proofs.Math.Logic.{⊎_elim}
use mathlib.Core.List.Memᴰ
use mathlib.Core.List.{List, [], ◌∷◌, ◌++◌, append-nil, Memᴰ}
use Rattle.std.proofs.Math.Bool.{false}
use native.Mathlib.Omega.{arith}
use Rattle.grammar.specs.Tree.{OptionDecl, call, Element, leaf, AlternativeOf, Block, RuleOf, Counters, with_quantifier}
use Rattle.grammar.specs.Lists.{each, only}
use Rattle.grammar.specs.Ids.{element_ids, alternative_ids, block_ids}
use Rattle.grammar.specs.Laws.Parse.{either}
use Rattle.grammar.specs.Laws.Lists.{each_append}
use Rattle.grammar.specs.Numbers.{once, alternative_sort}
use Rattle.reference.specs.Analysis.{Grammar}
use Rattle.reference.specs.Substitute.{plain, Planned}
use Rattle.reference.specs.Plan.{as_they_are}
use Rattle.reference.specs.Apply.{fresh_each, past, renumber_elements, renumber_block, apply_alternative}
use Rattle.laws.specs.Lists.Count.{count, count_append}
use Rattle.laws.specs.Demands.Step.{MadeFrom, split, splice}
use Rattle.laws.specs.Provenance.Copies.{copied_ids}
use Rattle.laws.specs.Demands.Applied.{of_alternative}
use Rattle.laws.specs.Provenance.Trail.{Up, past_up, Trail, t_end, t_fresh, trail_append, trail_nil, trail_up, ids_at, Below, below_up}
use Rattle.laws.specs.Provenance.Trail.{copied_elements, copied_block}
use Rattle.laws.specs.Planning.Chain.{joined_in, spliced_in, StepTo, here, later, Chain, chain_keeps}

-- Any property of the parts of alternatives that making an element plain keeps.
module _ (d : ℕ) (A : ℕ → ℕ → Type 0) (I : ℕ → Type 0) (O : OptionDecl → Type 0) (E : Element (Block d) → Type 0) where
  pub record Holds (carried flag id : ℕ) (os : List OptionDecl) (es : List (Element (Block d))) : Type 0 where
    pub slot : A carried flag
    pub origin : I id
    pub options : (o : OptionDecl) → Memᴰ o os → O o
    pub elements : (e : Element (Block d)) → Memᴰ e es → E e

  abbrev pub Planned-holds : Planned d → Type 0
  Planned-holds p = Holds p.carried p.flag p.origin p.options p.elements

  abbrev pub Alternative-holds : AlternativeOf (Block d) → Type 0
  Alternative-holds a = Holds a.carried a.flag a.id a.options a.elements

  module _ (plainly : (e : Element (Block d)) → E e → E (plain e)) (rs : List (RuleOf (Block (suc d))))
      (given : (r : RuleOf (Block (suc d))) → Memᴰ r rs → (a : AlternativeOf (Block d)) → Memᴰ a r.body
      → Alternative-holds a) where
    replaced_holds : {g : Grammar} {cycle : List ℕ} {hub : ℕ} {p : Planned d} {qs : List (Planned d)} → MadeFrom d rs g cycle hub p qs
        → Planned-holds p
        → (q : Planned d) → Memᴰ q qs → Planned-holds q
    unfolding plain
    replaced_holds {p = p} (split x one) h q m =
        ⊎_elim
        (λ e. subst Planned-holds (sym e) (record { slot = h.slot; origin = h.origin; options = h.options; elements = present }))
        (λ n.
        subst Planned-holds (sym (Memᴰ.eq_of_singleton n))
        (record {
          slot = h.slot;
          origin = h.origin;
          options = h.options;
          elements = λ y l. ⊎_elim (in_front y) (behind y) (Memᴰ.append_cases x.front l);
        }))
        (Memᴰ.cases_cons m)
      where
        at : (y : Element (Block d)) → Memᴰ y (x.front ++ (leaf x.head (call x.site) ∷ x.rest)) → E y
        at y l = h.elements y (subst (Memᴰ y) x.whole l)

        in_front : (y : Element (Block d)) → Memᴰ y x.front → E y
        in_front y l = at y (Memᴰ.append_left (leaf x.head (call x.site) ∷ x.rest) l)

        behind : (y : Element (Block d)) → Memᴰ y x.rest → E y
        behind y l = at y (Memᴰ.append_right x.front (Memᴰ.tail l))

        present : (y : Element (Block d))
            → Memᴰ y (x.front ++ (leaf (with_quantifier once x.head) (call x.site) ∷ x.rest)) → E y
        present y l =
            ⊎_elim (in_front y)
            (λ r.
            ⊎_elim
            (λ e. subst E (sym e) (plainly (leaf x.head (call x.site))
            (at (leaf x.head (call x.site)) (Memᴰ.append_right x.front (Memᴰ.head refl)))))
            (behind y) (Memᴰ.cases_cons r))
            (Memᴰ.append_cases x.front l)
    replaced_holds {p = p} (splice x one ne r m id s) h q n =
        let z = spliced_in s n in
        let g = given r m z.alternative z.there in
        subst Planned-holds z.whole
        (record {
          slot = h.slot;
          origin = g.origin;
          options = λ o l. ⊎_elim (h.options o) (g.options o) (joined_in z.joined l);
          elements = λ y l.
              ⊎_elim (λ a. at y (Memᴰ.append_left (leaf x.head (call x.site) ∷ x.rest) a))
              (λ b. ⊎_elim (g.elements y) (λ c. at y (Memᴰ.append_right x.front (Memᴰ.tail c)))
              (Memᴰ.append_cases z.alternative.elements b))
              (Memᴰ.append_cases x.front l);
        })
      where
        at : (y : Element (Block d)) → Memᴰ y (x.front ++ (leaf x.head (call x.site) ∷ x.rest)) → E y
        at y l = h.elements y (subst (Memᴰ y) x.whole l)

    step_holds : {ps qs : List (Planned d)} → StepTo d rs ps qs → ((p : Planned d) → Memᴰ p ps → Planned-holds p) → (q : Planned d)
        → Memᴰ q qs → Planned-holds q
    step_holds (here {p = p} {qs = qs} r) h q m =
        ⊎_elim (replaced_holds r (h p (Memᴰ.head refl)) q) (λ n. h q (Memᴰ.tail n)) (Memᴰ.append_cases qs m)
    step_holds (later s) h q (Memᴰ.head e) = h q (Memᴰ.head e)
    step_holds (later s) h q (Memᴰ.tail m) = step_holds s (λ p n. h p (Memᴰ.tail n)) q m

    -- It holds of every planned alternative.
    pub plan_holds : {r : RuleOf (Block (suc d))} → Memᴰ r rs → {qs : List (Planned d)} → Chain d rs (as_they_are r.body) qs
        → (q : Planned d) → Memᴰ q qs → Planned-holds q
    unfolding as_they_are
    plan_holds {r} m c =
        chain_keeps d rs (λ ps. (p : Planned d) → Memᴰ p ps → Planned-holds p) (λ ps qs s h. step_holds s h) c
        λ p n. let (a, k, e) = Memᴰ.of_map _ r.body n in subst Planned-holds e (given r m a k)

module _ (d : ℕ) where
  -- The ids of an alternative that is left untouched.
  abbrev pub untouched_if : ℕ → Planned d → Bool → List ℕ
  untouched_if k p true = only (eqb k alternative_sort) p.origin ++ each (element_ids k (block_ids k d)) p.elements
  untouched_if k p false = []

  unfoldable pub untouched : ℕ → Planned d → List ℕ
  untouched k p = untouched_if k p p.verbatim

  new_none : (k : ℕ) (qs : List (Planned d)) → ((q : Planned d) → Memᴰ q qs → q.verbatim ≡ false) → each (untouched k) qs ≡ []
  unfolding untouched
  new_none k [] h = refl
  new_none k (q ∷ qs) h = rw (h q (Memᴰ.head refl)) (new_none k qs λ p m. h p (Memᴰ.tail m))

  count_each : {A : Type 0} (f : A → List ℕ) (xs ys : List A) (x : ℕ)
      → count x (each f (xs ++ ys)) ≡ count x (each f xs) + count x (each f ys)
  count_each f xs ys x = ap (count x) (each_append f xs ys) ∙ count_append x (each f xs) (each f ys)

  module _ (rs : List (RuleOf (Block (suc d)))) (k x : ℕ) where
    replaced_new : {g : Grammar} {cycle : List ℕ} {hub : ℕ} {p : Planned d} {qs : List (Planned d)} → MadeFrom d rs g cycle hub p qs
        → (q : Planned d) → Memᴰ q qs → q.verbatim ≡ false
    replaced_new (split x one) q m =
        ⊎_elim (λ e. ap (λ q. q.verbatim) e) (λ n. ap (λ q. q.verbatim) (Memᴰ.eq_of_singleton n)) (Memᴰ.cases_cons m)
    replaced_new (splice x one ne r m id s) q n = ap (λ q. q.verbatim) (sym (spliced_in s n).whole)

    step_untouched : {ps qs : List (Planned d)} → StepTo d rs ps qs → count x (each (untouched k) qs) ≤ count x (each (untouched k) ps)
    unfolding count
    step_untouched (here {p = p} {qs = qs} {ps = ps} r) =
        let a = count_each (untouched k) qs ps x in
        let b : count x (each (untouched k) qs) ≡ 0 = ap (count x) (new_none k qs (replaced_new r)) in
        let c = count_append x (untouched k p) (each (untouched k) ps) in
        omega arith
    step_untouched (later {p = p} {ps = ps} {qs = qs} s) =
        let h = step_untouched s in
        let a = count_append x (untouched k p) (each (untouched k) ps) in
        let b = count_append x (untouched k p) (each (untouched k) qs) in
        omega arith

    as_they_are_lem : (b : List (AlternativeOf (Block d))) → each (untouched k) (as_they_are b) ≡ block_ids k (suc d) b
    unfolding as_they_are untouched block_ids alternative_ids
    as_they_are_lem [] = refl
    as_they_are_lem (a ∷ b) =
        ap (λ l. (only (eqb k alternative_sort) a.id ++ each (element_ids k (block_ids k d)) a.elements) ++ l) (as_they_are_lem b)

    -- No id of the hub stands twice in what is left untouched.
    pub plan_untouched : (b : List (AlternativeOf (Block d))) {qs : List (Planned d)} → Chain d rs (as_they_are b) qs
        → count x (each (untouched k) qs) ≤ count x (block_ids k (suc d) b)
    plan_untouched b c =
        chain_keeps d rs (λ ps. count x (each (untouched k) ps) ≤ count x (block_ids k (suc d) b))
        (λ ps qs s h. let l = step_untouched s in omega arith) c
        (let e = ap (count x) (as_they_are_lem b) in omega arith)

  -- A planned alternative whose ids are below the counters.
  pub record Planned-below (c : Counters) (p : Planned d) : Type 0 where
    pub origin : p.origin < c.alternative
    pub inside : Below c (λ k. each (element_ids k (block_ids k d))) p.elements

  planned_up : {c c' : Counters} {p : Planned d} → Up c c' → Planned-below c p → Planned-below c' p
  planned_up {p = p} u h =
      record {
        origin = (let a = h.origin in let b = u of_alternative in omega arith);
        inside = below_up (λ k. each (element_ids k (block_ids k d))) p.elements u h.inside;
      }

  -- Of one alternative: the entries, and its ids.
  one_trail : (p : Planned d) (c : Counters) → Planned-below c p
      → Trail c (apply_alternative d p c).entries (apply_alternative d p c).counters
  unfolding apply_alternative
  one_trail p c h =
      either p.verbatim
      (λ t. rw (t, apply_alternative) t_end)
      (λ f.
      rw (f, apply_alternative)
      (t_fresh of_alternative false p.origin h.origin
      (trail_nil (copied_elements (renumber_block d) (λ k. block_ids k d) (copied_block d) p.elements (past alternative_sort c)
      (below_up (λ k. each (element_ids k (block_ids k d))) p.elements (past_up alternative_sort c) h.inside)))))

  one_ids : (k : ℕ) (p : Planned d) (c : Counters)
      → alternative_ids k (block_ids k d) (apply_alternative d p c).node ≡ untouched k p ++ ids_at k (apply_alternative d p c).entries
  unfolding apply_alternative alternative_ids untouched
  one_ids k p c =
      either p.verbatim
      (λ t. rw (t, apply_alternative)
      (sym (append-nil (only (eqb k alternative_sort) p.origin ++ each (element_ids k (block_ids k d)) p.elements))))
      (λ f.
      rw (f, apply_alternative)
      (rw (
        append-nil (renumber_elements (renumber_block d) p.elements (past alternative_sort c)).entries,
        copied_ids k d p.elements
            (past alternative_sort c),
      ) refl))

  -- Of the whole body.
  pub applied_trail : (ps : List (Planned d)) (c : Counters) → ((p : Planned d) → Memᴰ p ps → Planned-below c p)
      → Trail c (fresh_each (apply_alternative d) ps c).entries (fresh_each (apply_alternative d) ps c).counters
  unfolding fresh_each
  applied_trail [] c h = t_end
  applied_trail (p ∷ ps) c h =
      let t = one_trail p c (h p (Memᴰ.head refl)) in
      trail_append t (trail_nil (applied_trail ps (apply_alternative d p c).counters λ q m. planned_up (trail_up t)
      (h q (Memᴰ.tail m))))

  pub applied_ids : (k x : ℕ) (ps : List (Planned d)) (c : Counters)
      → count x (block_ids k (suc d) (fresh_each (apply_alternative d) ps c).node)
      ≡ count x (each (untouched k) ps) + count x (ids_at k (fresh_each (apply_alternative d) ps c).entries)
  unfolding fresh_each block_ids count
  applied_ids k x [] c = omega arith
  applied_ids k x (p ∷ ps) c =
      let f = apply_alternative d p c in
      let more = fresh_each (apply_alternative d) ps f.counters in
      let h = applied_ids k x ps f.counters in
      let a = count_append x (alternative_ids k (block_ids k d) f.node) (each (alternative_ids k (block_ids k d)) more.node) in
      let b = ap (count x) (one_ids k p c) ∙ count_append x (untouched k p) (ids_at k f.entries) in
      let e = count_append x (untouched k p) (each (untouched k) ps) in
      let g =
      ap (count x) (each_append (λ e. only (eqb k e.kind) e.id) f.entries (more.entries ++ []))
      ∙ count_append x (ids_at k f.entries) (ids_at k (more.entries ++ [])) in
      let i = ap (λ l. count x (ids_at k l)) (append-nil more.entries) in
      omega arith
