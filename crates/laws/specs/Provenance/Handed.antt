-- Ids are handed out one after the other, in the order in which they stand in the new alternatives.
use Rattle.std.specs.Prelude.{ℕ, suc, ◌+◌, ◌≡◌, refl, List, ◌∷◌, ◌++◌, false, length, eqb}
use Rattle.std.proofs.Common.{sym, ap, ap₂, ◌∙◌, subst, append_assoc, arith, eqb-true, eq-eqb, ne_eqb}
use Rattle.std.proofs.lemmas.Bool.{eqb-false}
use Rattle.grammar.specs.Tree.{Alternative, body_depth, Counters}
use Rattle.grammar.specs.Lists.{each, only}
use Rattle.grammar.specs.Ids.{element_ids, alternative_ids, block_ids}
use Rattle.grammar.specs.Laws.Parse.{either}
use Rattle.grammar.specs.Laws.Lists.{each_append}
use Rattle.grammar.specs.Numbers.{rule_sort, alternative_sort}
use Rattle.reference.specs.Substitute.{Planned}
use Rattle.reference.specs.Apply.{Entry, moved, past}
use Rattle.reference.specs.Run.{inner_depth}
use Rattle.laws.specs.Demands.Trail.{TrailOf, closing, untouched, anew}
use Rattle.laws.specs.Demands.Applied.{Sort, number, counter_at, up_from, Handed, new_ones}
use Rattle.laws.specs.Provenance.Copies.{elements_ids}
use Rattle.laws.specs.Provenance.Trail.{number_same, number_one, past_at, Trail, t_end, t_rule, t_fresh, ids_at}

-- What a trail says of one sort.
record HandedOne (from to : ℕ) (ids : List ℕ) : Type 0 where
  pub in_order : ids ≡ up_from from (length ids)
  pub ends : to ≡ from + length ids

one_more : {from to : ℕ} {ids : List ℕ} → HandedOne (suc from) to ids → HandedOne from to (from ∷ ids)
unfolding up_from
one_more {from} h = record { in_order = ap (λ l. from ∷ l) h.in_order; ends = (let e = h.ends in omega arith) }

trail_one : {c c' : Counters} {es : List Entry} → Trail c es c' → (s : Sort)
    → HandedOne (counter_at s c) (counter_at s c') (ids_at (number s) es)
unfolding up_from
trail_one t_end s = record { in_order = refl; ends = omega arith }
trail_one (t_rule h l t) s = rw (number_one s) (trail_one t s)
trail_one {c} {c'} (t_fresh {es = es} k b o l t) s =
    let more = trail_one t s in
    either (eqb (number s) (number k))
    (λ u.
    let e = eqb-true (number s) (number k) u in
    let p : counter_at s (past (number k) c) ≡ suc (counter_at s c) =
    past_at s (number k) c ∙ ap (λ b. moved b (counter_at s c)) (eq-eqb (number k) (number s) (sym e)) in
    let q : counter_at k c ≡ counter_at s c = ap (λ r. counter_at r c) (sym (number_same s k e)) in
    rw (u, q) (one_more (subst (λ n. HandedOne n (counter_at s c') (ids_at (number s) es)) p more)))
    (λ f.
    let ne = ne_eqb (number k) (number s) (λ e. eqb-false (number s) (number k) f (sym e)) in
    let p : counter_at s (past (number k) c) ≡ counter_at s c = past_at s (number k) c ∙ ap (λ b. moved b (counter_at s c)) ne in
    rw f (subst (λ n. HandedOne n (counter_at s c') (ids_at (number s) es)) p more))

pub trail_handed : {c c' : Counters} {es : List Entry} → Trail c es c' → Handed c c' (λ k. ids_at k es)
trail_handed t = record { in_order = λ s. (trail_one t s).in_order; ends = λ s. (trail_one t s).ends }

-- The ids that the trail of a plan records are those in its new alternatives.
pub new_ids : (k : ℕ) → eqb k rule_sort ≡ false → {hub : ℕ} {ps : List (Planned inner_depth)} {as' : List Alternative} {es : List Entry}
    → TrailOf hub ps as' es
    → ids_at k es ≡ block_ids k body_depth (new_ones ps as')
unfolding new_ones block_ids alternative_ids
new_ids k e closing = rw e
new_ids k e (untouched v t) = rw (v, new_ones) (new_ids k e t)
new_ids k e (anew {copies = copies} {es = es} id elements v c t) =
    rw (v, new_ones)
    (ap (λ l. only (eqb k alternative_sort) id ++ l)
    (each_append (λ e. only (eqb k e.kind) e.id) copies es
    ∙ ap₂ ◌++◌ (c.ids (λ sort i. only (eqb k sort) i) ∙ elements_ids k inner_depth elements) (new_ids k e t))
    ∙ sym (append_assoc (only (eqb k alternative_sort) id) (each (element_ids k (block_ids k inner_depth)) elements) _))

-- So a plan's new alternatives have the ids handed out, in order.
pub plan_handed : {c c' : Counters} {hub : ℕ} {ps : List (Planned inner_depth)} {as' : List Alternative} {es : List Entry} → Trail c es c'
    → TrailOf hub ps as' es
    → Handed c c' (λ k. block_ids k body_depth (new_ones ps as'))
plan_handed {c} {c'} t o =
    let h : (s : Sort) → HandedOne (counter_at s c) (counter_at s c') (block_ids (number s) body_depth (new_ones _ _)) =
    λ s. subst (HandedOne (counter_at s c) (counter_at s c')) (new_ids (number s) (number_one s) o) (trail_one t s) in
    record { in_order = λ s. (h s).in_order; ends = λ s. (h s).ends }
