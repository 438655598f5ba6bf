-- A property of every leaf, through a plan: copies with other ids have it where what is copied has it, and so does all that a
-- plan leaves.
use Prim.Native.Nat.{ℕ, zero, suc}
use Rattle.std.specs.Prelude.{◌≡◌, refl}
use Rattle.std.proofs.Common.{sym, ⊎_elim}
use Rattle.std.proofs.Math.Path.{subst}
use mathlib.Core.List.Memᴰ
use mathlib.Core.List.{List, [], ◌∷◌, ◌++◌, map, Memᴰ}
use Rattle.grammar.specs.Laws.Lists.{in_map}
use Rattle.grammar.specs.Lists.{AllOf}
use Rattle.grammar.specs.Tree.{ElementHead, Call, Leaf, call, leaf, block, AlternativeOf, Block, RuleOf, Counters}
use Rattle.grammar.specs.Corners.{Corners}
use Rattle.language.specs.Shape.{OnElement, OnBlock}
use Rattle.language.specs.Laws.Copies.{Change, change_element, change_alternative, change_block, drop_ids, drop_leaf_id}
use Rattle.reference.specs.Analysis.{Grammar}
use Rattle.reference.specs.Substitute.{plain_head, Planned}
use Rattle.reference.specs.Plan.{CyclePlan, as_they_are}
use Rattle.reference.specs.Apply.{fresh_each, apply_alternative}
use Rattle.laws.specs.Planning.Turns.{Items, items_of, as_they_were, Turn, split, splice, Moved, here, later, Moves, still, onward}
use Rattle.laws.specs.Planning.Substituted.{Known}
use Rattle.laws.specs.Planning.Renumber.{idless, applied_copies}
use Rattle.laws.specs.Planning.Plans.{Made}
use Rattle.laws.specs.Planning.OnePlan.{rules_left, left_stems}

-- Copies with other ids.
module _ (P : ElementHead → Leaf → Type 0) (f : Change) where
  -- The change does not touch the property, either way.
  elements_changed : ((h : ElementHead) (l : Leaf) → P h l → P (f.on_head h) (f.on_leaf l)) → (d : ℕ)
      → ((b : Block d) → OnBlock P d b → OnBlock P d (change_block f d b))
      → (es : Items d) → AllOf (OnElement P (OnBlock P d)) es
      → AllOf (OnElement P (OnBlock P d)) (map (change_element f (change_block f d)) es)
  unfolding change_element
  elements_changed k d g [] p = tt
  elements_changed k d g (leaf h l ∷ es) p = (k h l p.0, elements_changed k d g es p.1)
  elements_changed k d g (block h b ∷ es) p = (g b p.0, elements_changed k d g es p.1)

  pub block_changed : ((h : ElementHead) (l : Leaf) → P h l → P (f.on_head h) (f.on_leaf l)) → (d : ℕ) (b : Block d) → OnBlock P d b
      → OnBlock P d (change_block f d b)
  unfolding OnBlock change_block change_alternative
  block_changed k zero b p = tt
  block_changed k (suc d) [] p = tt
  block_changed k (suc d) (a ∷ as') p = (elements_changed k d (block_changed k d) a.elements p.0, block_changed k (suc d) as' p.1)

  elements_unchanged : ((h : ElementHead) (l : Leaf) → P (f.on_head h) (f.on_leaf l) → P h l) → (d : ℕ)
      → ((b : Block d) → OnBlock P d (change_block f d b) → OnBlock P d b)
      → (es : Items d) → AllOf (OnElement P (OnBlock P d)) (map (change_element f (change_block f d)) es)
      → AllOf (OnElement P (OnBlock P d)) es
  unfolding change_element
  elements_unchanged k d g [] p = tt
  elements_unchanged k d g (leaf h l ∷ es) p = (k h l p.0, elements_unchanged k d g es p.1)
  elements_unchanged k d g (block h b ∷ es) p = (g b p.0, elements_unchanged k d g es p.1)

  pub block_unchanged : ((h : ElementHead) (l : Leaf) → P (f.on_head h) (f.on_leaf l) → P h l) → (d : ℕ) (b : Block d)
      → OnBlock P d (change_block f d b) → OnBlock P d b
  unfolding OnBlock change_block change_alternative
  block_unchanged k zero b p = tt
  block_unchanged k (suc d) [] p = tt
  block_unchanged k (suc d) (a ∷ as') p =
      (elements_unchanged k d (block_unchanged k d) a.elements p.0, block_unchanged k (suc d) as' p.1)

-- Of an alternative's elements, and of lists of them.
abbrev pub On : (ElementHead → Leaf → Type 0) → (d : ℕ) → Items d → Type 0
On P d = AllOf (OnElement P (OnBlock P d))

abbrev pub OnAll : (ElementHead → Leaf → Type 0) → (d : ℕ) → List (Items d) → Type 0
OnAll P d ps = (es : Items d) → Memᴰ es ps → On P d es

-- A property that ids do not touch and that every plain call has.
pub record Copied (P : ElementHead → Leaf → Type 0) : Type 0 where
  pub dropped : (h : ElementHead) (l : Leaf) → P h l → P (drop_ids.on_head h) (drop_leaf_id l)
  pub undropped : (h : ElementHead) (l : Leaf) → P (drop_ids.on_head h) (drop_leaf_id l) → P h l
  pub plain : (h : ElementHead) (k : Call) → P (plain_head h) (call k)

module _ {P : ElementHead → Leaf → Type 0} (x : Copied P) where
  -- What a list of elements has, its copies have.
  copy_on : (d : ℕ) (es fs : Items d) → idless d es ≡ idless d fs → On P d fs → On P d es
  copy_on d es fs e p =
      let gone =
      elements_changed P drop_ids x.dropped d (block_changed P drop_ids x.dropped d) fs p in
      elements_unchanged P drop_ids x.undropped d (block_unchanged P drop_ids x.undropped d) es (subst (On P d) (sym e) gone)

  on_cut : (d : ℕ) (α β : Items d) → On P d (α ++ β) → On P d α × On P d β
  on_cut d [] β p = (tt, p)
  on_cut d (e ∷ α) β p = let r = on_cut d α β p.1 in ((p.0, r.0), r.1)

  on_join : (d : ℕ) (α β : Items d) → On P d α → On P d β → On P d (α ++ β)
  on_join d [] β p q = q
  on_join d (e ∷ α) β p q = (p.0, on_join d α β p.1 q)

  pub body_on : (d : ℕ) {a : AlternativeOf (Block d)} (as' : Block (suc d)) → OnBlock (P) (suc d) as' → Memᴰ a as'
      → On P d a.elements
  unfolding OnBlock
  body_on d as' p (Memᴰ.head {xs = xs} e) = subst (λ a. On P d a.elements) (sym e) p.0
  body_on d as' p (Memᴰ.tail {xs = xs} m) = body_on d xs p.1 m

  pub on_body : (d : ℕ) (as' : Block (suc d)) → ((a : AlternativeOf (Block d)) → Memᴰ a as' → On P d a.elements)
      → OnBlock (P) (suc d) as'
  unfolding OnBlock
  on_body d [] h = tt
  on_body d (a ∷ as') h = (h a (Memᴰ.head refl), on_body d as' (λ b m. h b (Memᴰ.tail m)))

  module _ {d : ℕ} {rs : List (RuleOf (Block (suc d)))}
      (all_on : (r : RuleOf (Block (suc d))) → Memᴰ r rs → OnBlock (P) (suc d) r.body)
      {g : Grammar} {cycle : List ℕ} {hub : ℕ} where
    turn_on : {es : Items d} {news : List (Items d)} → Turn d rs g cycle hub es news → On P d es → OnAll P d news
    turn_on (split y q) p fs m =
        let c = on_cut d y.front (leaf y.head (call y.site) ∷ y.rest) (subst (On P d) (sym y.whole) p) in
        ⊎_elim
        (λ e. subst (On P d) (sym e) (on_join d y.front (leaf (plain_head y.head) (call y.site) ∷ y.rest) c.0
        (x.plain y.head y.site, c.1.1)))
        (λ n. subst (On P d) (sym (Memᴰ.eq_of_singleton n)) (on_join d y.front y.rest c.0 c.1.1))
        (Memᴰ.cases_cons m)
    turn_on (splice y q ne r i e) p fs m =
        let c = on_cut d y.front (leaf y.head (call y.site) ∷ y.rest) (subst (On P d) (sym y.whole) p) in
        let (a, n, w) = Memᴰ.of_map (λ s. y.front ++ (s.elements ++ y.rest)) r.body m in
        subst (On P d) w
        (on_join d y.front (a.elements ++ y.rest) c.0
        (on_join d a.elements y.rest (body_on d r.body (all_on r i) n) c.1.1))

    moved_on : {ps qs : List (Items d)} → Moved d rs g cycle hub ps qs → OnAll P d ps → OnAll P d qs
    moved_on (here {es = es} {news = news} t) p fs m =
        ⊎_elim (turn_on t (p es (Memᴰ.head refl)) fs) (λ n. p fs (Memᴰ.tail n)) (Memᴰ.append_cases news m)
    moved_on (later y) p fs m =
        ⊎_elim (λ e. p fs (Memᴰ.head e)) (λ n. moved_on y (λ es k. p es (Memᴰ.tail k)) fs n) (Memᴰ.cases_cons m)

    pub moves_on : {ps qs : List (Items d)} {n : ℕ} → Moves d rs g cycle hub ps n qs → OnAll P d ps → OnAll P d qs
    moves_on still p = p
    moves_on (onward y z) p = moves_on z (moved_on y p)

  pub start_on : (d : ℕ) (r : RuleOf (Block (suc d))) → OnBlock (P) (suc d) r.body
      → OnAll P d (items_of d (as_they_are r.body))
  start_on d r p es n =
      let (a, k, e) = as_they_were d r.body n in
      subst (On P d) e (body_on d r.body p k)

  -- A planned list, applied.
  pub applied_on : (d : ℕ) (ps : List (Planned d)) (c : Counters) → OnAll P d (items_of d ps)
      → OnBlock (P) (suc d) (fresh_each (apply_alternative d) ps c).node
  applied_on d ps c p =
      on_body d (fresh_each (apply_alternative d) ps c).node
      (λ a m.
      let (q, n, e) =
      Memᴰ.of_map (λ p. idless d p.elements) ps
      (subst (Memᴰ (idless d a.elements)) (applied_copies d ps c) (in_map (λ a. idless d a.elements) m)) in
      copy_on d a.elements q.elements (sym e) (p q.elements (in_map (λ p. p.elements) n)))

  -- What a plan leaves.
  module _ {c : Corners} {d : ℕ} {rs : List (RuleOf (Block (suc d)))} {g : Grammar} (k : Known (suc d) rs g) {preserved cycle : List ℕ}
      {plan : CyclePlan d}
      (y : Made c d rs g preserved cycle plan) (counters : Counters)
      (all_on : (r : RuleOf (Block (suc d))) → Memᴰ r rs → OnBlock P (suc d) r.body) where
    pub left_on : (q : RuleOf (Block (suc d))) → Memᴰ q (rules_left k y counters) → OnBlock P (suc d) q.body
    left_on q m =
        let s = left_stems k y counters m in
        let new =
        applied_on d plan.alternatives counters (moves_on all_on y.moves (start_on d y.hub (all_on y.hub y.is_rule))) in
        ⊎_elim (λ u. subst (OnBlock P (suc d)) (sym u.1) new)
        (λ u. subst (λ r. OnBlock P (suc d) r.body) (sym u.1) (all_on s.rule s.is_rule)) s.body
