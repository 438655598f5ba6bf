-- A step declines exactly where the first alternative with work left is stuck, and for its reason.
use Rattle.std.specs.Prelude.{ℕ, suc, ◌↔◌, Bool, not, take}
use Rattle.std.proofs.Math.Path.{◌≡◌, refl, sym, ap, subst}
use Rattle.std.proofs.Common.{ap₂, ◌∙◌, subst₂, inl, inr, arith}
use mathlib.Core.List.Memᴰ
use mathlib.Core.List.{List, [], ◌∷◌, ◌++◌, Memᴰ}
use Rattle.std.proofs.Math.Option.{Option, none, some, some-injective}
use Rattle.std.proofs.Math.Bool.{true, false, true≢false}
use Rattle.std.proofs.Math.ListN.{drop}
use Rattle.std.proofs.Math.Dec.{eqb}
use borrow.Author.Tests.{not-true, not-false, eqb-false}
use Rattle.grammar.specs.Lists.{distinct}
use Rattle.grammar.specs.Laws.Parse.{either}
use Rattle.grammar.specs.Tree.{OptionDecl, call, leaf, AlternativeOf, Block, RuleOf}
use Rattle.graph.specs.Members.{one_with}
use Rattle.reference.specs.Analysis.{Grammar, ids_of, names_of, rule_with_id}
use Rattle.reference.specs.Substitute.{Clause, dangling_reference, label_collision, binding_collision, option_collision, Decided, decided}
use Rattle.reference.specs.Substitute.{declined, overfull, ◌and_then◌, require, found, decide_each, in_slot_of, PlannedCorner, without}
use Rattle.reference.specs.Substitute.{split_optional, union_options, Planned, remaining_actions_reference, labels_collide}
use Rattle.reference.specs.Substitute.{implicit_bindings_collide, splice_alternative, splice_satellite, replacement, step}
use Rattle.laws.specs.Demands.Step.{CornerAt, Work, NoWork}
use Rattle.laws.specs.Demands.Collisions.{Items, RefersTo, SameLabel, SameBinding, OtherValue}
use Rattle.laws.specs.Demands.Declines.{Collides, labels, bindings, options, later, Stuck, blocked_at, dangling_at, colliding_at}
use Rattle.laws.specs.Demands.Declines.{FirstStuck, DeclinesTold}
use Rattle.laws.specs.Lists.Lookup.{first_none, rule_with_id_lem}
use Rattle.laws.specs.Planning.Decisions.{require_so}
use Rattle.laws.specs.Planning.Corner.{take_front, drop_behind}
use Rattle.laws.specs.Planning.Options.{never}
use Rattle.laws.specs.Planning.OtherValues.{values_told}
use Rattle.laws.specs.Planning.Collisions.{labels_told, bindings_told, dangling_told}
use Rattle.laws.specs.Planning.Lines.{Finds, finds_split, finds_splice, finds_block, finds_none, corner_finds, corners_told_lem}
use Rattle.laws.specs.Planning.Steps.{Reply, reply, step_by, passed_more, no_work, step_told}

declined_inj : {A : Type 0} {c k : Clause} → ◌≡◌ {A = Decided A} (declined c) (declined k) → c ≡ k
declined_inj e = cc

-- What is declined before a decision that never declines.
then_declined : {A B : Type 0} (f : A → B) {k : Clause} (x : Decided A) → (x and_then λ a. decided (f a)) ≡ declined k → x ≡ declined k
then_declined f (decided a) e = absurd (let z : ◌≡◌ {A = ℕ} 0 1 = cc in omega arith)
then_declined f (declined c) e = ap declined (declined_inj e)
then_declined f overfull e = absurd (let z : ◌≡◌ {A = ℕ} 0 1 = cc in omega arith)

module _ (g : Grammar) (cycle : List ℕ) (hub : ℕ) (d : ℕ) (rs : List (RuleOf (Block (suc d)))) where
  module _ (p : Planned d) (i : ℕ) (front rest : Items d) (w : without i p.elements ≡ front ++ rest) where
    abbrev around : Items d
    around = front ++ rest

    -- What comes of one alternative of a satellite.
    data Tried (a : AlternativeOf (Block d)) : Decided (Planned d) → Type 0 where
      t_labels : SameLabel d around a.elements → Tried a (declined label_collision)
      t_bindings : (SameLabel d around a.elements → ⊥) → SameBinding d around a.elements → Tried a (declined binding_collision)
      t_options : (SameLabel d around a.elements → ⊥) → (SameBinding d around a.elements → ⊥) → OtherValue p.options a.options
          → Tried a (declined option_collision)
      t_made : {q : Planned d} → (SameLabel d around a.elements → ⊥) → (SameBinding d around a.elements → ⊥)
          → (OtherValue p.options a.options → ⊥) → Tried a (decided q)

    tried : (a : AlternativeOf (Block d)) → Tried a (splice_alternative d p i a)
    unfolding splice_alternative
    tried a =
        let es = without i p.elements in
        require_so (Tried a) label_collision (not (labels_collide d es a.elements)) _
        (λ f. t_labels (subst (λ l. SameLabel d l a.elements) w ((labels_told d es a.elements).0
        (not-false (labels_collide d es a.elements) f))))
        (λ t.
        let no_label : SameLabel d around a.elements → ⊥ =
        λ x. true≢false (sym ((labels_told d es a.elements).1 (subst (λ l. SameLabel d l a.elements) (sym w) x))
        ∙ not-true (labels_collide d es a.elements) t) in
        require_so (Tried a) binding_collision (not (implicit_bindings_collide d es a.elements)) _
        (λ f. t_bindings no_label (subst (λ l. SameBinding d l a.elements) w ((bindings_told d es a.elements).0
        (not-false (implicit_bindings_collide d es a.elements) f))))
        (λ u.
        let no_binding : SameBinding d around a.elements → ⊥ =
        λ x. true≢false (sym ((bindings_told d es a.elements).1 (subst (λ l. SameBinding d l a.elements) (sym w) x))
        ∙ not-true (implicit_bindings_collide d es a.elements) u) in
        go no_label no_binding (union_options p.options a.options) refl))
      where
        go : (SameLabel d around a.elements → ⊥) → (SameBinding d around a.elements → ⊥) → (o : Option (List OptionDecl))
            → union_options p.options a.options ≡ o
            → Tried a (found option_collision o and_then λ os.
            decided (in_slot_of p os a.id (take i p.elements ++ (a.elements ++ drop (suc i) p.elements))))
        go x y none e = t_options x y ((values_told p.options a.options).0 e)
        go x y (some os) e = t_made x y (λ z. never (sym ((values_told p.options a.options).1 z) ∙ e))

    abbrev each_by : Decided (Planned d) → Decided (List (Planned d)) → Decided (List (Planned d))
    each_by x y = x and_then λ b. y and_then λ bs. decided (b ∷ bs)

    collides : (as' : List (AlternativeOf (Block d))) {why : Clause} → decide_each (splice_alternative d p i) as' ≡ declined why
        → Collides g cycle hub d rs p front rest as' why
    unfolding decide_each
    collides [] e = absurd (let z : ◌≡◌ {A = ℕ} 0 1 = cc in omega arith)
    collides (a ∷ as') {why} e = go (tried a) (decide_each (splice_alternative d p i) as') (collides as') e
      where
        go : {x : Decided (Planned d)} → Tried a x → (y : Decided (List (Planned d)))
            → (y ≡ declined why → Collides g cycle hub d rs p front rest as' why)
            → each_by x y ≡ declined why → Collides g cycle hub d rs p front rest (a ∷ as') why
        go (t_labels l) y ih f = subst (Collides g cycle hub d rs p front rest (a ∷ as')) (declined_inj f) (labels l)
        go (t_bindings l b) y ih f = subst (Collides g cycle hub d rs p front rest (a ∷ as')) (declined_inj f) (bindings l b)
        go (t_options l b o) y ih f = subst (Collides g cycle hub d rs p front rest (a ∷ as')) (declined_inj f) (options l b o)
        go (t_made {q = q} l b o) y ih f = later l b o (ih (then_declined (λ bs. q ∷ bs) y f))

    collided : {as' : List (AlternativeOf (Block d))} {why : Clause} → Collides g cycle hub d rs p front rest as' why
        → decide_each (splice_alternative d p i) as' ≡ declined why
    unfolding decide_each
    collided (labels {a = a} {as' = as'} l) =
        ap (λ x. each_by x (decide_each (splice_alternative d p i) as')) (go (tried a))
      where
        go : {x : Decided (Planned d)} → Tried a x → x ≡ declined label_collision
        go (t_labels y) = refl
        go (t_bindings y b) = absurd (y l)
        go (t_options y b o) = absurd (y l)
        go (t_made y b o) = absurd (y l)
    collided (bindings {a = a} {as' = as'} l b) =
        ap (λ x. each_by x (decide_each (splice_alternative d p i) as')) (go (tried a))
      where
        go : {x : Decided (Planned d)} → Tried a x → x ≡ declined binding_collision
        go (t_labels y) = absurd (l y)
        go (t_bindings y z) = refl
        go (t_options y z o) = absurd (z b)
        go (t_made y z o) = absurd (z b)
    collided (options {a = a} {as' = as'} l b o) =
        ap (λ x. each_by x (decide_each (splice_alternative d p i) as')) (go (tried a))
      where
        go : {x : Decided (Planned d)} → Tried a x → x ≡ declined option_collision
        go (t_labels y) = absurd (l y)
        go (t_bindings y z) = absurd (b z)
        go (t_options y z u) = refl
        go (t_made y z u) = absurd (u o)
    collided (later {a = a} {as' = as'} {why = why} l b o c) = go (tried a) (collided c)
      where
        go : {x : Decided (Planned d)} → Tried a x → {y : Decided (List (Planned d))} → y ≡ declined why → each_by x y ≡ declined why
        go (t_labels y) e = absurd (l y)
        go (t_bindings y z) e = absurd (b z)
        go (t_options y z u) e = absurd (o u)
        go (t_made {q = q} y z u) e = ap (λ y. y and_then λ bs. decided (q ∷ bs)) e

  -- The elements without the call, and what they refer to.
  module _ (p : Planned d) {i t : ℕ} (x : CornerAt g cycle p.elements i t) where
    others : without i p.elements ≡ x.front ++ x.rest
    others =
        let e = leaf x.head (call x.site) in
        ap₂ ◌++◌ (take_front x.front e x.rest x.whole x.place) (drop_behind x.front e x.rest x.whole x.place)

    refers : (n : ℕ) → (remaining_actions_reference d p.elements i n ≡ true) ↔ RefersTo d n (x.front ++ x.rest)
    refers n =
        subst₂ (λ l j. (remaining_actions_reference d l j n ≡ true) ↔ RefersTo d n (x.front ++ x.rest)) x.whole x.place
        (dangling_told d x.front x.rest (leaf x.head (call x.site)) n)

    refers_not : (n : ℕ) → remaining_actions_reference d p.elements i n ≡ false → RefersTo d n (x.front ++ x.rest) → ⊥
    refers_not n f y = true≢false (sym ((refers n).1 y) ∙ f)

  -- Where nothing can take the place of an alternative, it is stuck.
  stuck_of : (p : Planned d) {k : PlannedCorner} → Finds g cycle hub p.elements k → {why : Clause}
      → replacement d rs p k ≡ some (declined why) → Stuck g cycle hub d rs p why
  unfolding replacement splice_satellite
  stuck_of p (finds_split {i = i} {t = t} x y) {why} e = go (rule_with_id rs t) refl e
    where
      tested : (r : RuleOf (Block (suc d))) → rule_with_id rs t ≡ some r → (b : Bool)
          → remaining_actions_reference d p.elements i r.name ≡ b
          → require dangling_reference (not b) (λ _. decided (split_optional p i)) ≡ declined why → Stuck g cycle hub d rs p why
      tested r k true u f =
          let (there, id) = rule_with_id_lem rs t k in
          subst (Stuck g cycle hub d rs p) (declined_inj f) (dangling_at x (inl y) r there id ((refers p x r.name).0 u))
      tested r k false u f = absurd (let z : ◌≡◌ {A = ℕ} 0 1 = cc in omega arith)

      go : (o : Option (RuleOf (Block (suc d)))) → rule_with_id rs t ≡ o
          → ◌≡◌ {A = Reply d rs g cycle hub} (elim o as (λ y. Reply d rs g cycle hub) [
            | none ↦ none
            | some r ↦ some
                (require dangling_reference (not (remaining_actions_reference d p.elements i r.name)) λ _. decided (split_optional p i))
          ]) (some (declined why))
          → Stuck g cycle hub d rs p why
      go none k f = never f
      go (some r) k f =
          tested r k (remaining_actions_reference d p.elements i r.name) refl (some-injective _ (declined why) f)
  stuck_of p (finds_splice {i = i} {t = t} x y) {why} e = go (rule_with_id rs t) refl e
    where
      tested : (r : RuleOf (Block (suc d))) → rule_with_id rs t ≡ some r → (b : Bool)
          → remaining_actions_reference d p.elements i r.name ≡ b
          → require dangling_reference (not b) (λ _. decide_each (splice_alternative d p i) r.body) ≡ declined why
          → Stuck g cycle hub d rs p why
      tested r k true u f =
          let (there, id) = rule_with_id_lem rs t k in
          subst (Stuck g cycle hub d rs p) (declined_inj f) (dangling_at x (inr y) r there id ((refers p x r.name).0 u))
      tested r k false u f =
          let (there, id) = rule_with_id_lem rs t k in
          colliding_at x y r there id (refers_not p x r.name u) (collides p i x.front x.rest (others p x) r.body f)

      go : (o : Option (RuleOf (Block (suc d)))) → rule_with_id rs t ≡ o
          → ◌≡◌ {A = Reply d rs g cycle hub}
          (elim o as (λ y. Reply d rs g cycle hub) [ none ↦ none | some r ↦ some (splice_satellite d p i r) ]) (some (declined why))
          → Stuck g cycle hub d rs p why
      go none k f = never f
      go (some r) k f =
          tested r k (remaining_actions_reference d p.elements i r.name) refl (some-injective _ (declined why) f)
  stuck_of p (finds_block x y) {why} e =
      subst (Stuck g cycle hub d rs p) (declined_inj (some-injective _ (declined why) e)) (blocked_at x y)
  stuck_of p finds_none e = never e

  -- The other way round, where rules are told apart by their ids.
  module _ (ids : distinct (ids_of rs) ≡ true) where
    with_id : {r : RuleOf (Block (suc d))} {t : ℕ} → Memᴰ r rs → r.id ≡ t → rule_with_id rs t ≡ some r
    unfolding rule_with_id
    with_id {r} {t} m e = go (rule_with_id rs t) refl
      where
        go : (o : Option (RuleOf (Block (suc d)))) → rule_with_id rs t ≡ o → o ≡ some r
        go none k = absurd (eqb-false r.id t (first_none (λ r. eqb r.id t) k m) e)
        go (some q) k = let (there, id) = rule_with_id_lem rs t k in ap some (one_with (λ r. r.id) rs ids there m (id ∙ sym e))

    stuck_reply : (p : Planned d) {why : Clause} → Stuck g cycle hub d rs p why → reply d rs g cycle hub p ≡ some (declined why)
    unfolding replacement splice_satellite
    stuck_reply p (blocked_at {i = i} {t = t} x y) =
        rw ((corners_told_lem g cycle hub p.elements).blocks.1 (i, t, x, y), replacement)
    stuck_reply p (dangling_at {i = i} {t = t} x (inl y) r m e k) =
        rw (((corners_told_lem g cycle hub p.elements).splits i t).1 (x, y), replacement)
        (rw (with_id m e) (rw ((refers p x r.name).1 k)))
    stuck_reply p (dangling_at {i = i} {t = t} x (inr y) r m e k) =
        rw (((corners_told_lem g cycle hub p.elements).splices i t).1 (x, y), replacement)
        (rw (with_id m e) (rw ((refers p x r.name).1 k)))
    stuck_reply p (colliding_at {i = i} {t = t} x y r m e k {why} c) =
        let f : remaining_actions_reference d p.elements i r.name ≡ false =
        either (remaining_actions_reference d p.elements i r.name) (λ u. absurd (k ((refers p x r.name).0 u))) (λ u. u) in
        rw (((corners_told_lem g cycle hub p.elements).splices i t).1 (x, y), replacement)
        (rw (with_id m e) (rw f (ap some (collided p i x.front x.rest (others p x) c))))

    idle_reply : (p : Planned d) → (Work g cycle hub p.elements → ⊥) → reply d rs g cycle hub p ≡ none
    unfolding replacement
    idle_reply p h = rw ((corners_told_lem g cycle hub p.elements).settles.1 h, replacement)

    module _ (named : g.names ≡ names_of rs) where
      idle_more : {p : Planned d} {qs : List (Planned d)} → reply d rs g cycle hub p ≡ none → NoWork d rs g cycle hub qs
          → NoWork d rs g cycle hub (p ∷ qs)
      idle_more {p} k h q (Memᴰ.head e) =
          no_work d rs g cycle hub named (p ∷ []) (passed_more d rs g cycle hub k (λ z m. absurd (Memᴰ.not-nil m))) q
          (Memᴰ.head e)
      idle_more k h q (Memᴰ.tail m) = h q m

      first_stuck : (ps : List (Planned d)) {why : Clause} → step d rs g cycle hub ps ≡ some (declined why)
          → FirstStuck g cycle hub d rs ps why
      unfolding step
      first_stuck [] e = never e
      first_stuck (p ∷ ps) {why} e = go (reply d rs g cycle hub p) refl (step d rs g cycle hub ps) (first_stuck ps) e
        where
          go : (o : Reply d rs g cycle hub) → reply d rs g cycle hub p ≡ o → (o' : Reply d rs g cycle hub)
              → (o' ≡ some (declined why) → FirstStuck g cycle hub d rs ps why)
              → ◌≡◌ {A = Reply d rs g cycle hub} (step_by d rs g cycle hub p ps o o') (some (declined why))
              → FirstStuck g cycle hub d rs (p ∷ ps) why
          go none k none ih f = never f
          go none k (some r) ih f =
              let s = ih (ap some (then_declined (λ qs. p ∷ qs) r (some-injective _ (declined why) f))) in
              record {
                front = p ∷ s.front;
                slot = s.slot;
                rest = s.rest;
                whole = ap (λ l. p ∷ l) s.whole;
                is_first = idle_more k s.is_first;
                is_stuck = s.is_stuck;
              }
          go (some r) k o' ih f =
              record {
                front = [];
                slot = p;
                rest = ps;
                whole = refl;
                is_first = λ q m. absurd (Memᴰ.not-nil m);
                is_stuck = stuck_of p (corner_finds g cycle hub p.elements)
                    (k ∙ ap some (then_declined (λ qs. qs ++ ps) r (some-injective _ (declined why) f)));
              }

      stuck_first : (front rest : List (Planned d)) (slot : Planned d) {why : Clause} → NoWork d rs g cycle hub front
          → Stuck g cycle hub d rs slot why → step d rs g cycle hub (front ++ (slot ∷ rest)) ≡ some (declined why)
      unfolding step
      stuck_first [] rest slot h s = rw (stuck_reply slot s, step)
      stuck_first (p ∷ front) rest slot h s =
          rw (idle_reply p (h p (Memᴰ.head refl)), step)
          (rw (stuck_first front rest slot (λ q m. h q (Memᴰ.tail m)) s))

      all_idle : (ps : List (Planned d)) → NoWork d rs g cycle hub ps → step d rs g cycle hub ps ≡ none
      unfolding step
      all_idle [] h = refl
      all_idle (p ∷ ps) h =
          rw (idle_reply p (h p (Memᴰ.head refl)), step) (rw (all_idle ps (λ q m. h q (Memᴰ.tail m))))

      pub declines_told_lem : (ps : List (Planned d)) → DeclinesTold g cycle hub d rs ps
      declines_told_lem ps =
          record {
            declines = λ why. (
              first_stuck ps,
              λ x. subst (λ l. step d rs g cycle hub l ≡ some (declined why)) x.whole
                  (stuck_first x.front x.rest x.slot x.is_first x.is_stuck),
            );
            ends = ((step_told d rs g cycle hub named ps).ends, all_idle ps);
          }
