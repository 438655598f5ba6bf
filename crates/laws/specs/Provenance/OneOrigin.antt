-- No node has two origins: what is copied, and what is an origin, stands in rules that were never joined, so that its ids are
-- older than every id that the run handed out, and no origin was recorded for it.
use Prim.Native.Nat.{ℕ, ◌≤◌, ◌<◌}
use Rattle.std.specs.Prelude.{◌≡◌, refl, ◌⊎◌, true, not, ◌||◌, length}
use Rattle.std.proofs.Common.{sym, ap, ◌∙◌, inl, inr, true≢false, arith, eqb-true, eq-eqb}
use Rattle.std.proofs.Math.Path.{subst}
use Rattle.std.proofs.Math.Logic.{⊎_elim}
use mathlib.Core.List.Memᴰ
use mathlib.Core.List.{List, [], ◌∷◌, ◌++◌, map, Memᴰ}
use Rattle.std.proofs.Math.Bool.{false}
use Rattle.std.proofs.Math.Dec.{eqb}
use Rattle.std.proofs.lemmas.Bool.{eqb-false, not-true}
use Rattle.std.specs.Cmp.{first_so, second_so}
use Rattle.grammar.specs.Lists.{any, member, distinct, keep, only}
use Rattle.grammar.specs.Tree.{Element, leaf, block, Block, Alternative, Rule, body_depth, Counters}
use Rattle.grammar.specs.Ids.{head_ids, element_ids, block_ids}
use Rattle.grammar.specs.Corners.{Corners}
use Rattle.grammar.specs.Laws.Parse.{either}
use Rattle.grammar.specs.Laws.Lists.{in_member}
use Rattle.grammar.specs.Numbers.{rule_sort}
use Rattle.reference.specs.Analysis.{grammar_of}
use Rattle.reference.specs.Substitute.{Limits, plain, Planned}
use Rattle.reference.specs.Apply.{Entry, Node, same_node, origins, provenance}
use Rattle.reference.specs.Run.{inner_depth, Stage, entries_of}
use Rattle.reference.specs.Numbers.{rule_boundary, block_boundary}
use Rattle.laws.specs.Demands.Trail.{numbers_at, node_of, owner_of, origin_of, TrailOf, closing, untouched, anew, OneOrigin}
use Rattle.laws.specs.Demands.Applied.{Sort, of_alternative, number, counter_at}
use Rattle.graph.specs.Members.{in_keep, keep_in, each_in, one_with}
use Rattle.laws.specs.Lists.Lookup.{any_in, any_false}
use Rattle.laws.specs.Planning.Steps.{step_told}
use Rattle.laws.specs.Planning.Endless.{StartsItself, steps_among}
use Rattle.laws.specs.Planning.Applied.{Planned-holds, Alternative-holds, plan_holds}
use Rattle.laws.specs.Running.Leaves.{Told}
use Rattle.laws.specs.Running.Stages.{known, Happened, Chain, last, next, stage_made, stage_leaves}
use Rattle.laws.specs.Running.OneStage.{stage_shape, stage_stands}
use Rattle.laws.specs.Provenance.Trail.{number_same, number_one, past_up, Trail, t_end, t_rule, t_fresh}
use Rattle.laws.specs.Provenance.Copies.{elements_ids}
use Rattle.laws.specs.Provenance.PlanTrail.{stage_trail}
use Rattle.laws.specs.Provenance.Recording.{same_node_lem, node_same}
use Rattle.laws.specs.Provenance.Origins.{trail_traced, untraced}

no_rule : (s : Sort) → number s ≡ rule_sort → ⊥
no_rule s e = true≢false (sym (eq-eqb (number s) rule_sort e) ∙ number_one s)

-- Of a trail: each id is at or above the counter of its sort, and an entry that is no hub's has a sort.
trail_high : {c c' : Counters} {es : List Entry} → Trail c es c' → (e : Entry) → Memᴰ e es → (s : Sort) → e.kind ≡ number s
    → counter_at s c ≤ e.id
trail_high t_end e m s k = absurd (Memᴰ.not-nil m)
trail_high (t_rule h l t) e (Memᴰ.head w) s k = absurd (no_rule s (sym k ∙ ap (λ x. x.kind) w))
trail_high (t_rule h l t) e (Memᴰ.tail m) s k = trail_high t e m s k
trail_high (t_fresh {c = c} u b o l t) e (Memᴰ.head w) s k =
    let q : e.id ≡ counter_at s c = ap (λ x. x.id) w ∙ ap (λ r. counter_at r c) (number_same u s (sym (ap (λ x. x.kind) w) ∙ k)) in
    omega arith
trail_high (t_fresh {c = c} u b o l t) e (Memᴰ.tail m) s k =
    let a = trail_high t e m s k in let b = past_up (number u) c s in omega arith

trail_sort : {c c' : Counters} {es : List Entry} → Trail c es c' → (e : Entry) → Memᴰ e es
    → ((e.kind ≡ rule_sort) × (e.reason ≡ rule_boundary)) ⊎ ((s : Sort) × (e.kind ≡ number s))
trail_sort t_end e m = absurd (Memᴰ.not-nil m)
trail_sort (t_rule h l t) e (Memᴰ.head w) = inl (ap (λ x. x.kind) w, ap (λ x. x.reason) w)
trail_sort (t_rule h l t) e (Memᴰ.tail m) = trail_sort t e m
trail_sort (t_fresh u b o l t) e (Memᴰ.head w) = inr (u, ap (λ x. x.kind) w)
trail_sort (t_fresh u b o l t) e (Memᴰ.tail m) = trail_sort t e m

numbers_in : (f : Entry → ℕ) (k : ℕ) {e : Entry} {es : List Entry} → Memᴰ e es → e.kind ≡ k → Memᴰ (f e) (numbers_at f k es)
numbers_in f k (Memᴰ.head {x = x} {xs = xs} w) e = rw (eq-eqb k x.kind (sym e ∙ ap (λ y. y.kind) w)) (Memᴰ.head (ap f w))
numbers_in f k (Memᴰ.tail {x = x} {xs = xs} m) e = Memᴰ.append_right (only (eqb k x.kind) (f x)) (numbers_in f k m e)

-- An element whose ids are below counters.
abbrev Low : Counters → Element (Block inner_depth) → Type 0
Low c e = (s : Sort) (i : ℕ) → Memᴰ i (element_ids (number s) (block_ids (number s) inner_depth) e) → i < counter_at s c

plain_low : (c : Counters) (e : Element (Block inner_depth)) → Low c e → Low c (plain e)
unfolding plain element_ids head_ids
plain_low c (leaf h l) p = p
plain_low c (block h b) p = p

-- An alternative, planned or as it was, whose own id and those of its elements are.
abbrev PlannedLow : Counters → Planned inner_depth → Type 0
PlannedLow c = Planned-holds inner_depth (λ _ _. Unit {0}) (λ i. i < c.alternative) (λ _. Unit {0}) (Low c)

abbrev pub AlternativeLow : Counters → Alternative → Type 0
AlternativeLow c = Alternative-holds inner_depth (λ _ _. Unit {0}) (λ i. i < c.alternative) (λ _. Unit {0}) (Low c)

abbrev OwnersLow : Counters → List Entry → Type 0
OwnersLow c es = (e : Entry) → Memᴰ e es → (s : Sort) → e.kind ≡ number s → e.owner < counter_at s c

trail_owners : (c : Counters) {hub : ℕ} {ps : List (Planned inner_depth)} {as' : List Alternative} {es : List Entry} → TrailOf hub ps as' es
    → ((p : Planned inner_depth) → Memᴰ p ps → PlannedLow c p) → OwnersLow c es
trail_owners c closing h e m s k = absurd (no_rule s (sym k ∙ ap (λ x. x.kind) (Memᴰ.eq_of_singleton m)))
trail_owners c (untouched v t) h e m s k = trail_owners c t (λ p n. h p (Memᴰ.tail n)) e m s k
trail_owners c (anew {p = p} {copies = copies} id elements v told t) h e (Memᴰ.head w) s k =
    let low = (h p (Memᴰ.head refl)).origin in
    let owner = ap (λ x. x.owner) w in
    let q : c.alternative ≡ counter_at s c = ap (λ r. counter_at r c) (number_same of_alternative s (sym (ap (λ x. x.kind) w) ∙ k)) in
    omega arith
trail_owners c (anew {p = p} {copies = copies} id elements v told t) h e (Memᴰ.tail m) s k =
    ⊎_elim
    (λ n.
    let (x, l, i) =
    each_in (element_ids (number s) (block_ids (number s) inner_depth)) p.elements
    (subst (Memᴰ e.owner) (told.owners (λ sort i. only (eqb (number s) sort) i)
    ∙ elements_ids (number s) inner_depth p.elements) (numbers_in (λ e. e.owner) (number s) n k)) in
    (h p (Memᴰ.head refl)).elements x l s e.owner i)
    (λ n. trail_owners c t (λ p n. h p (Memᴰ.tail n)) e n s k)
    (Memᴰ.append_cases copies m)

-- One origin at most, where owners are below the counters that the trail starts from.
pub one_origin : {c c' : Counters} {es : List Entry} → Trail c es c' → OwnersLow c es → OneOrigin es
one_origin {c} {c'} {es} t low =
    record {
      one = λ n. either (any (λ e. same_node (node_of e) n) es) (found n) (none n);
      owners = λ e m. ⊎_elim (λ x. inl x.0) (λ y. inr (old e m y.0 y.1)) (trail_sort t e m);
    }
  where
    none : (n : Node) → any (λ e. same_node (node_of e) n) es ≡ false → length (origins (provenance es) n) ≤ 1
    none n f =
        let e = untraced es n (λ e m w. true≢false (sym (node_same (node_of e) n w) ∙ any_false (λ e. same_node (node_of e) n) f m)) in
        let z = ap length e in
        omega arith

    -- The owner has no origin.
    old : (e : Entry) → Memᴰ e es → (s : Sort) → e.kind ≡ number s → origins (provenance es) (owner_of e) ≡ []
    old e m s k =
        untraced es (owner_of e)
        (λ x n w.
        let a = trail_high t x n s (ap (λ y. y.kind) w ∙ k) in
        let b = low e m s k in
        let same = ap (λ y. y.id) w in
        omega arith)

    copied : (e : Entry) → Memᴰ e es → e.reason ≡ block_boundary → origins (provenance es) (owner_of e) ≡ []
    copied e m r =
        ⊎_elim (λ x. absurd (let z = sym x.1 ∙ r in omega arith)) (λ y. old e m y.0 y.1) (trail_sort t e m)

    found : (n : Node) → any (λ e. same_node (node_of e) n) es ≡ true → length (origins (provenance es) n) ≤ 1
    found n y =
        let (e, m, w) = any_in (λ e. same_node (node_of e) n) es y in
        let x = trail_traced t e m in
        let at : node_of e ≡ n = same_node_lem (node_of e) n w in
        let size : length (origins (provenance es) (node_of e)) ≡ 1 =
        ⊎_elim (λ r. ap length (x.bounded r)) (λ r. ap length (x.copied r ∙ ap (λ l. l ++ (origin_of e ∷ [])) (copied e m r)))
        x.is_reason in
        let z = ap (λ k. length (origins (provenance es) k)) at in
        omega arith

module _ (limits : Limits) (corners : Corners) (preserved : List ℕ) (handed : List Rule) (c : Counters)
    (old : (r : Rule) → Memᴰ r handed → (a : Alternative) → Memᴰ a r.body → AlternativeLow c a) where
  -- The rules joined so far start with themselves, and the others were handed in.
  pub record Sorted (rs : List Rule) (done : List ℕ) : Type 0 where
    pub joined : (r : Rule) → Memᴰ r rs → member r.id done ≡ true → StartsItself inner_depth r
    pub others : (r : Rule) → Memᴰ r rs → member r.id done ≡ false → Memᴰ r handed

  -- What a plan copies was handed in.
  planned_low : {t : Stage} → Told t.before → Happened limits corners preserved t → {done : List ℕ} → Sorted t.before done
      → member t.plan.hub done ≡ false
      → (p : Planned inner_depth) → Memᴰ p t.plan.alternatives → PlannedLow c p
  planned_low {t} k h {done} x away p m =
      let g = grammar_of body_depth t.before in
      let kn = known t.before k in
      let f = stage_made limits corners preserved h in
      let selves : (r : Rule) → Memᴰ r t.before → member r.id done ≡ true
      → StartsItself inner_depth r × (r.id ≡ f.hub.id → ⊥) =
      λ r n y. (x.joined r n y, λ e. true≢false (sym y ∙ ap (λ i. member i done) (e ∙ f.is_hub) ∙ away)) in
      let done-work = (step_told inner_depth t.before g t.cycle f.hub.id kn.named t.plan.alternatives).ends f.settled in
      let chain = steps_among kn t.cycle f.hub.id done selves f.path done-work in
      let there = keep_in (λ r. not (member r.id done)) f.is_rule (ap (λ i. not (member i done)) f.is_hub ∙ ap not away) in
      plan_holds inner_depth (λ _ _. Unit {0}) (λ i. i < c.alternative) (λ _. Unit {0}) (Low c) (plain_low c)
      (keep (λ r. not (member r.id done)) t.before)
      (λ r n a i.
      let (was, free) = in_keep (λ r. not (member r.id done)) t.before n in
      old r (x.others r was (not-true (member r.id done) free)) a i)
      there chain p m

  sorted_next : {t : Stage} → Told t.before → Happened limits corners preserved t → {done : List ℕ} → Sorted t.before done
      → Sorted t.after.node (t.plan.hub ∷ done)
  unfolding member
  sorted_next {t} k h {done} x =
      record {
        joined =
            λ r m y. either (eqb r.id t.plan.hub) (λ e. hub r m (eqb-true r.id t.plan.hub e))
            (λ n. x.joined r (stays r m n) (ap (λ b. b || member r.id done) (sym n) ∙ y));
        others =
            λ r m y. either (eqb r.id t.plan.hub) (λ e. absurd (true≢false (ap (λ b. b || member r.id done) (sym e) ∙ y)))
            (λ n. x.others r (stays r m n) (ap (λ b. b || member r.id done) (sym n) ∙ y));
      }
    where
      stays : (r : Rule) → Memᴰ r t.after.node → eqb r.id t.plan.hub ≡ false → Memᴰ r t.before
      stays r m n = stage_stands limits corners preserved k h r m (eqb-false r.id t.plan.hub n)

      hub : (r : Rule) → Memᴰ r t.after.node → r.id ≡ t.plan.hub → StartsItself inner_depth r
      hub r m e =
          let j = stage_shape limits corners preserved k h in
          let same =
          one_with (λ r. r.id) t.after.node (stage_leaves limits corners preserved k h).told.ids j.is_left m
          (j.is_hub ∙ sym e) in
          let (a, i, w) = j.one_continues in
          subst (StartsItself inner_depth) same
          (record {
            alternative = a;
            is_alternative = i;
            head = w.head;
            site = w.site;
            rest = w.rest;
            starts = w.starts;
            called = w.called;
            plain = w.plain;
          })

  -- So it is along the run.
  pub owners_low : {rs : List Rule} {ts : List Stage} → Told rs → Chain limits corners preserved rs ts → {done : List ℕ} → Sorted rs done
      → distinct (map (λ t. t.plan.hub) ts) ≡ true → ((i : ℕ) → Memᴰ i (map (λ t. t.plan.hub) ts) → member i done ≡ false)
      → OwnersLow c (entries_of ts)
  unfolding entries_of distinct member
  owners_low k last x d f e m s w = absurd (Memᴰ.not-nil m)
  owners_low k (next {t = t} {ts = ts} q h u) {done} x d f e m s w =
      let b = subst Told (sym q) k in
      let y = subst (λ rs. Sorted rs done) (sym q) x in
      let j = stage_shape limits corners preserved b h in
      ⊎_elim
      (λ n.
      trail_owners c ((stage_trail limits corners preserved b h).is j.rule j.is_left j.is_hub)
      (planned_low b h y (f t.plan.hub (Memᴰ.head refl))) e n s w)
      (λ n.
      owners_low (stage_leaves limits corners preserved b h).told u (sorted_next b h y)
      (second_so (not (member t.plan.hub (hubs ts))) (distinct (hubs ts)) d) away e n s w)
      (Memᴰ.append_cases t.after.entries m)
    where
      hubs : List Stage → List ℕ
      hubs = map λ t. t.plan.hub

      away : (i : ℕ) → Memᴰ i (hubs ts) → member i (t.plan.hub ∷ done) ≡ false
      away i n =
          either (eqb i t.plan.hub)
          (λ v.
          let fresh =
          not-true (member t.plan.hub (hubs ts)) (first_so (not (member t.plan.hub (hubs ts))) (distinct (hubs ts)) d) in
          absurd (true≢false (sym (subst (λ l. member l (hubs ts) ≡ true) (eqb-true i t.plan.hub v) (in_member n)) ∙ fresh)))
          (λ v. ap (λ b. b || member i done) v ∙ f i (Memᴰ.tail n))
