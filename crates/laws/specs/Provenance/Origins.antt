-- Origins: what a trail of fresh ids leaves in the provenance index.
use Rattle.std.specs.Prelude.{ℕ, suc, ◌≤◌, ◌<◌, ◌≡◌, refl, ◌⊎◌, Bool, true, false}
use Rattle.std.proofs.Common.{sym, ap, ◌∙◌, subst, inl, inr, ⊎_elim, true≢false, arith, eq-eqb}
use mathlib.Core.List.Memᴰ
use mathlib.Core.List.{List, [], ◌∷◌, ◌++◌, map, foldl, Memᴰ}
use Rattle.std.proofs.lemmas.Bool.{eqb-false}
use Rattle.grammar.specs.Tree.{Counters}
use Rattle.grammar.specs.Lists.{any}
use Rattle.grammar.specs.Laws.Parse.{either}
use Rattle.grammar.specs.Numbers.{rule_sort}
use Rattle.reference.specs.Apply.{Entry, boundary, past, moved, Node, Origin, Origins, same_node, origins, add_origins, node_of, origin_of}
use Rattle.reference.specs.Apply.{recorded, provenance}
use Rattle.reference.specs.Numbers.{rule_boundary}
use Rattle.laws.specs.Demands.Trail.{Traced}
use Rattle.graph.specs.Order.{Distinct}
use Rattle.laws.specs.Demands.Applied.{Sort, number, counter_at}
use Rattle.laws.specs.Provenance.Trail.{number_same, number_one, past_at, past_up, Trail, t_end, t_rule, t_fresh}
use Rattle.laws.specs.Provenance.Recording.{owner_id, same_node_lem, node_same, record_at, recorded_two, recorded_other, recorded_away}
use Rattle.laws.specs.Provenance.Recording.{add_new, distinct_snoc}

-- A node with a counter, and a rule.
abbrev pub at : Sort → ℕ → Node
at s i = record { kind = number s; id = i }

abbrev pub rule : ℕ → Node
rule h = record { kind = rule_sort; id = h }

abbrev hub_origin : ℕ → Origin
hub_origin h = record { reason = rule_boundary; owner = rule h }

not_rule : (s : Sort) (i h : ℕ) → at s i ≡ rule h → ⊥
not_rule s i h e = eqb-false (number s) 1 (number_one s) (ap (λ n. n.kind) e)

-- What holds of the index while counters stand at c.
record Kept (c : Counters) (index : List Origins) : Type 0 where
  fresh : (s : Sort) (i : ℕ) → counter_at s c ≤ i → origins index (at s i) ≡ []
  apart : (s : Sort) (i : ℕ) → Distinct (map owner_id (origins index (at s i)))
  lower : (s : Sort) (i : ℕ) (o : Origin) → Memᴰ o (origins index (at s i)) → owner_id o < i
  hubs : (h : ℕ) → (origins index (rule h) ≡ []) ⊎ (origins index (rule h) ≡ hub_origin h ∷ [])

kept_empty : (c : Counters) → Kept c []
unfolding origins
kept_empty c = record { fresh = λ s i l. refl; apart = λ s i. tt; lower = λ s i o m. absurd (Memᴰ.not-nil m); hubs = λ h. inl refl }

-- The entry of the hub.
hub_add : (h : ℕ) (os : List Origin) → (os ≡ []) ⊎ (os ≡ hub_origin h ∷ []) → add_origins os (hub_origin h ∷ []) ≡ hub_origin h ∷ []
unfolding add_origins any
hub_add h os (inl e) = rw e refl
hub_add h os (inr e) = rw e (rw (eq-eqb h h refl, add_origins) refl)

hub_at : (index : List Origins) (h : ℕ) → (origins index (rule h) ≡ []) ⊎ (origins index (rule h) ≡ hub_origin h ∷ [])
    → origins (recorded index (boundary rule_sort h h)) (rule h) ≡ hub_origin h ∷ []
hub_at index h k =
    ap (λ x. origins x (rule h)) (recorded_other index (boundary rule_sort h h) (λ e. omega arith))
    ∙ record_at index (rule h) (hub_origin h ∷ []) ∙ hub_add h (origins index (rule h)) k

kept_hub : {c : Counters} {index : List Origins} (h : ℕ) → Kept c index → Kept c (recorded index (boundary rule_sort h h))
kept_hub {c} {index} h k =
    record {
      fresh = λ s i l. away s i ∙ k.fresh s i l;
      apart = λ s i. subst (λ l. Distinct (map owner_id l)) (sym (away s i)) (k.apart s i);
      lower = λ s i o m. k.lower s i o (subst (Memᴰ o) (away s i) m);
      hubs = λ g.
          either (same_node (rule h) (rule g))
          (λ t. let e : h ≡ g = ap (λ n. n.id) (same_node_lem (rule h) (rule g) t) in inr
          (subst (λ x. origins (recorded index (boundary rule_sort h h)) (rule x) ≡ hub_origin x ∷ []) e (hub_at index h (k.hubs h))))
          (λ f.
          let e = recorded_away index (boundary rule_sort h h) (rule g) (λ q. true≢false (sym (node_same (rule h) (rule g) q) ∙ f)) in
          ⊎_elim (λ x. inl (e ∙ x)) (λ x. inr (e ∙ x)) (k.hubs g));
    }
  where
    away : (s : Sort) (i : ℕ) → origins (recorded index (boundary rule_sort h h)) (at s i) ≡ origins index (at s i)
    away s i = recorded_away index (boundary rule_sort h h) (at s i) (λ e. not_rule s i h (sym e))

-- A fresh entry, of reason 2 or 1.
abbrev fresh_entry : Counters → Sort → Bool → ℕ → Entry
fresh_entry c s b o = record { kind = number s; id = counter_at s c; reason = moved b 1; owner = o }

-- The list that it leaves at its node.
abbrev list_for : List Origins → Counters → Sort → Bool → ℕ → List Origin
list_for index c s true o = origins index (at s o) ++ (origin_of (fresh_entry c s true o) ∷ [])
list_for index c s false o = origin_of (fresh_entry c s false o) ∷ []

module _ {c : Counters} {index : List Origins} (k : Kept c index) (s : Sort) (o : ℕ) (l : o < counter_at s c) where
  list_apart : (b : Bool) → Distinct (map owner_id (list_for index c s b o))
  list_apart true = distinct_snoc (origins index (at s o)) (origin_of (fresh_entry c s true o)) (k.apart s o) (k.lower s o)
  list_apart false = (λ m. Memᴰ.not-nil m, tt)

  list_lower : (b : Bool) (p : Origin) → Memᴰ p (list_for index c s b o) → owner_id p < counter_at s c
  list_lower true p m =
      ⊎_elim (λ n. let h = k.lower s o p n in omega arith) (λ n. let h = ap owner_id (Memᴰ.eq_of_singleton n) in omega arith)
      (Memᴰ.append_cases (origins index (at s o)) m)
  list_lower false p m = let h = ap owner_id (Memᴰ.eq_of_singleton m) in omega arith

  fresh_at : (b : Bool) → origins (recorded index (fresh_entry c s b o)) (at s (counter_at s c)) ≡ list_for index c s b o
  fresh_at true =
      ap (λ x. origins x (at s (counter_at s c))) (recorded_two index (fresh_entry c s true o) refl)
      ∙ record_at index (at s (counter_at s c)) (list_for index c s true o)
      ∙ ap (λ h. add_origins h (list_for index c s true o)) (k.fresh s (counter_at s c) (omega arith))
      ∙ add_new [] (list_for index c s true o) (list_apart true)
  fresh_at false =
      ap (λ x. origins x (at s (counter_at s c))) (recorded_other index (fresh_entry c s false o) (λ e. omega arith))
      ∙ record_at index (at s (counter_at s c)) (list_for index c s false o)
      ∙ ap (λ h. add_origins h (list_for index c s false o)) (k.fresh s (counter_at s c) (omega arith))
      ∙ add_new [] (list_for index c s false o) (list_apart false)

  module _ (b : Bool) where
    -- At its node, or at another.
    cases : {R : Type 0} (t : Sort) (i : ℕ) → ((s ≡ t) → (counter_at s c ≡ i) → R)
        → (origins (recorded index (fresh_entry c s b o)) (at t i) ≡ origins index (at t i) → R) → R
    cases t i f g =
        either (same_node (at s (counter_at s c)) (at t i))
        (λ u. let e = same_node_lem (at s (counter_at s c)) (at t i) u in f (number_same s t (ap (λ n. n.kind) e)) (ap (λ n. n.id) e))
        (λ u. g (recorded_away index (fresh_entry c s b o) (at t i)
        (λ q. true≢false (sym (node_same (at s (counter_at s c)) (at t i) q) ∙ u))))

    list_is : (t : Sort) (i : ℕ) → s ≡ t → counter_at s c ≡ i
        → origins (recorded index (fresh_entry c s b o)) (at t i) ≡ list_for index c s b o
    list_is t i p q =
        subst (λ x. origins (recorded index (fresh_entry c s b o)) (at x i) ≡ list_for index c s b o) p
        (subst (λ j. origins (recorded index (fresh_entry c s b o)) (at s j) ≡ list_for index c s b o) q (fresh_at b))

    kept_fresh : Kept (past (number s) c) (recorded index (fresh_entry c s b o))
    kept_fresh =
        record {
          fresh = λ t i h.
              let up = past_up (number s) c t in
              cases t i
              (λ p q.
              let more : counter_at s (past (number s) c) ≡ suc (counter_at s c) =
              past_at s (number s) c ∙ ap (λ b. moved b (counter_at s c)) (eq-eqb (number s) (number s) refl) in
              let h₂ : counter_at s (past (number s) c) ≤ i = subst (λ x. counter_at x (past (number s) c) ≤ i) (sym p) h in
              absurd (omega arith))
              (λ e. e ∙ k.fresh t i (omega arith));
          apart = λ t i.
              cases t i
              (λ p q. subst (λ l. Distinct (map owner_id l)) (sym (list_is t i p q)) (list_apart b))
              (λ e. subst (λ l. Distinct (map owner_id l)) (sym e) (k.apart t i));
          lower = λ t i p m.
              cases t i
              (λ u q. let h = list_lower b p (subst (Memᴰ p) (list_is t i u q) m) in omega arith)
              (λ e. k.lower t i p (subst (Memᴰ p) e m));
          hubs = λ h.
              let e = recorded_away index (fresh_entry c s b o) (rule h) (not_rule s (counter_at s c) h) in
              ⊎_elim (λ x. inl (e ∙ x)) (λ x. inr (e ∙ x)) (k.hubs h);
        }

-- Nodes below the counters stay as they are.
stays : {c c' : Counters} {es : List Entry} → Trail c es c' → (index : List Origins) (s : Sort) (i : ℕ) → i < counter_at s c
    → origins (foldl recorded index es) (at s i) ≡ origins index (at s i)
stays t_end index s i l = refl
stays (t_rule h w t) index s i l =
    stays t (recorded index (boundary rule_sort h h)) s i l
    ∙ recorded_away index (boundary rule_sort h h) (at s i) (λ e. not_rule s i h (sym e))
stays (t_fresh {c = c} k b o m t) index s i l =
    let up = past_up (number k) c s in
    stays t (recorded index (fresh_entry c k b o)) s i (omega arith)
    ∙ recorded_away index (fresh_entry c k b o) (at s i)
    (λ e.
    let q : counter_at k c ≡ i = ap (λ n. n.id) e in
    let p : counter_at k c ≡ counter_at s c = ap (λ r. counter_at r c) (number_same k s (ap (λ n. n.kind) e)) in
    omega arith)

-- So does a hub's.
hub_stays_lem : {c c' : Counters} {es : List Entry} → Trail c es c' → (index : List Origins) (h : ℕ)
    → origins index (rule h) ≡ hub_origin h ∷ []
    → origins (foldl recorded index es) (rule h) ≡ hub_origin h ∷ []
hub_stays_lem t_end index h e = e
hub_stays_lem (t_rule g w t) index h e =
    hub_stays_lem t (recorded index (boundary rule_sort g g)) h
    (either (same_node (rule g) (rule h))
    (λ u. let q : g ≡ h = ap (λ n. n.id) (same_node_lem (rule g) (rule h) u) in
    subst (λ x. origins (recorded index (boundary rule_sort x x)) (rule h) ≡ hub_origin h ∷ []) (sym q) (hub_at index h (inr e)))
    (λ f. recorded_away index (boundary rule_sort g g) (rule h) (λ q. true≢false (sym (node_same (rule g) (rule h) q) ∙ f)) ∙ e))
hub_stays_lem (t_fresh {c = c} k b o m t) index h e =
    hub_stays_lem t (recorded index (fresh_entry c k b o)) h
    (recorded_away index (fresh_entry c k b o) (rule h) (not_rule k (counter_at k c) h) ∙ e)

traced_hub : (index : List Origins) (h : ℕ) → origins index (rule h) ≡ hub_origin h ∷ [] → Traced index (boundary rule_sort h h)
traced_hub index h e = record { is_reason = inl refl; copied = λ r. absurd (omega arith); bounded = λ r. e }

traced_fresh : (index : List Origins) (c : Counters) (s : Sort) (b : Bool) (o : ℕ)
    → origins index (at s (counter_at s c)) ≡ list_for index c s b o → Traced index (fresh_entry c s b o)
traced_fresh index c s true o e = record { is_reason = inr refl; copied = λ r. e; bounded = λ r. absurd (omega arith) }
traced_fresh index c s false o e = record { is_reason = inl refl; copied = λ r. absurd (omega arith); bounded = λ r. e }

list_moves : (index later : List Origins) (c : Counters) (s : Sort) (b : Bool) (o : ℕ) → origins later (at s o) ≡ origins index (at s o)
    → list_for index c s b o ≡ list_for later c s b o
list_moves index later c s true o e = ap (λ l. l ++ (origin_of (fresh_entry c s true o) ∷ [])) (sym e)
list_moves index later c s false o e = refl

-- Every entry of a trail is told by the index that the trail leaves.
trace : {c c' : Counters} {es : List Entry} → Trail c es c' → (index : List Origins) → Kept c index → (e : Entry) → Memᴰ e es
    → Traced (foldl recorded index es) e
trace t_end index k e m = absurd (Memᴰ.not-nil m)
trace (t_rule {es = es} h w t) index k e (Memᴰ.head q) =
    subst (Traced (foldl recorded (recorded index (boundary rule_sort h h)) es)) (sym q)
    (traced_hub _ h (hub_stays_lem t (recorded index (boundary rule_sort h h)) h (hub_at index h (k.hubs h))))
trace (t_rule h w t) index k e (Memᴰ.tail m) = trace t (recorded index (boundary rule_sort h h)) (kept_hub h k) e m
trace (t_fresh {c = c} {es = es} s b o l t) index k e (Memᴰ.head q) =
    let next = recorded index (fresh_entry c s b o) in
    let more : counter_at s (past (number s) c) ≡ suc (counter_at s c) =
    past_at s (number s) c ∙ ap (λ b. moved b (counter_at s c)) (eq-eqb (number s) (number s) refl) in
    let own : origins (foldl recorded next es) (at s o) ≡ origins index (at s o) =
    stays t next s o (omega arith) ∙ recorded_away index (fresh_entry c s b o) (at s o)
    (λ e. let z : counter_at s c ≡ o = ap (λ n. n.id) e in omega arith) in
    subst (Traced (foldl recorded next es)) (sym q)
    (traced_fresh (foldl recorded next es) c s b o
    (stays t next s (counter_at s c) (omega arith) ∙ fresh_at k s o l b ∙ list_moves index (foldl recorded next es) c s b o own))
trace (t_fresh {c = c} s b o l t) index k e (Memᴰ.tail m) = trace t (recorded index (fresh_entry c s b o)) (kept_fresh k s o l b) e m

pub trail_traced : {c c' : Counters} {es : List Entry} → Trail c es c' → (e : Entry) → Memᴰ e es → Traced (provenance es) e
unfolding provenance
trail_traced {c} t e m = trace t [] (kept_empty c) e m

-- A node that no entry is about has no origins.
away_from : (es : List Entry) (index : List Origins) (n : Node) → ((e : Entry) → Memᴰ e es → node_of e ≡ n → ⊥)
    → origins (foldl recorded index es) n ≡ origins index n
away_from [] index n h = refl
away_from (e ∷ es) index n h =
    away_from es (recorded index e) n (λ f m. h f (Memᴰ.tail m)) ∙ recorded_away index e n (h e (Memᴰ.head refl))

pub untraced : (es : List Entry) (n : Node) → ((e : Entry) → Memᴰ e es → node_of e ≡ n → ⊥) → origins (provenance es) n ≡ []
unfolding provenance origins
untraced es n h = away_from es [] n h
