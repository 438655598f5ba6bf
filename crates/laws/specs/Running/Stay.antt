-- Rules that are neither joined nor removed stay as they were, and all that stay keep their order.
use Rattle.std.specs.Prelude.{ℕ, ◌≡◌, ◌||◌, not, eqb}
use Rattle.std.proofs.Math.Path.{refl, subst}
use Rattle.std.proofs.Common.{sym, ap, ◌∙◌, eq-eqb}
use mathlib.Core.List.Memᴰ
use mathlib.Core.List.Sublistᴰ
use mathlib.Core.List.{List, [], map, Memᴰ, Sublistᴰ}
use Rattle.std.proofs.Math.Bool.{true, false, true≢false}
use Rattle.std.proofs.lemmas.Bool.{or_parts}
use Rattle.grammar.specs.Laws.Lists.{in_member, member_in, in_map}
use Rattle.grammar.specs.Lists.{member}
use Rattle.grammar.specs.Tree.{Rule, Sheet, with_rule_body}
use Rattle.grammar.specs.Corners.{Corners}
use Rattle.grammar.specs.Laws.Parse.{either}
use Rattle.language.specs.Laws.Copies.{map_unseen}
use Rattle.reference.specs.Analysis.{ids_of}
use Rattle.reference.specs.Substitute.{Limits}
use Rattle.reference.specs.Apply.{with_body}
use Rattle.reference.specs.Run.{inner_depth, Stage, sheet_after}
use Rattle.laws.specs.Demands.Applied.{RulesStay}
use Rattle.graph.specs.Members.{keep_is_part, part_map, one_with}
use Rattle.laws.specs.Lists.Lookup.{not_in}
use Rattle.laws.specs.Planning.Bodied.{body_aside}
use Rattle.laws.specs.Planning.Removed.{removable_satellite}
use Rattle.laws.specs.Planning.OnePlan.{new_body, gone_ids, left_in}
use Rattle.laws.specs.Running.Leaves.{Told, no_id}
use Rattle.laws.specs.Running.Stages.{rules_after, sheet_after_lem, Happened, Chain, last, next, stage_leaves}
use Rattle.laws.specs.Running.OneStage.{made, names, left, stage_rules, stage_stands}

module _ (limits : Limits) (corners : Corners) (preserved : List ℕ) where
  abbrev hubs : List Stage → List ℕ
  hubs = map λ t. t.plan.hub

  abbrev aside : List Rule → List Rule
  aside = map (with_rule_body [])

  stage_order : {t : Stage} → Told t.before → Happened limits corners preserved t → Sublistᴰ (aside t.after.node) (aside t.before)
  stage_order {t} k h =
      let m = made limits corners preserved k h in
      let n = names limits corners preserved k h in
      let gone = gone_ids n m h.counters in
      let joined = map (with_body inner_depth m.hub.id (new_body n m h.counters)) t.before in
      subst (λ rs. Sublistᴰ (aside rs) (aside t.before)) (stage_rules limits corners preserved k h)
      (subst (Sublistᴰ (aside (left limits corners preserved k h)))
      (map_unseen (with_body inner_depth m.hub.id (new_body n m h.counters)) (with_rule_body [])
      (body_aside inner_depth m.hub.id (new_body n m h.counters)) t.before)
      (part_map (with_rule_body []) (keep_is_part (λ r. not (member r.id gone)) joined)))

  chain_order : {rs : List Rule} {ts : List Stage} → Told rs → Chain limits corners preserved rs ts
      → Sublistᴰ (aside (rules_after rs ts)) (aside rs)
  chain_order {rs} k last = Sublistᴰ.refl (aside rs)
  chain_order {rs} k (next {t = t} e h c) =
      let b = subst Told (sym e) k in
      Sublistᴰ.trans (chain_order (stage_leaves limits corners preserved b h).told c)
      (subst (λ l. Sublistᴰ (aside t.after.node) (aside l)) e (stage_order b h))

  -- A rule left that no plan joined was there from the beginning.
  pub chain_stands : {rs : List Rule} {ts : List Stage} → Told rs → Chain limits corners preserved rs ts → (q : Rule)
      → Memᴰ q (rules_after rs ts)
      → member q.id (hubs ts) ≡ false → Memᴰ q rs
  unfolding member
  chain_stands k last q m f = m
  chain_stands k (next {t = t} {ts = ts} e h c) q m f =
      let b = subst Told (sym e) k in
      let (apart, later) = or_parts (eqb q.id t.plan.hub) (member q.id (hubs ts)) f in
      let there = chain_stands (stage_leaves limits corners preserved b h).told c q m later in
      subst (Memᴰ q) e
      (stage_stands limits corners preserved b h q there
      (λ w. true≢false (sym (eq-eqb q.id t.plan.hub w) ∙ apart)))

  -- A rule is removed by a plan whose satellite it is.
  Taken : ℕ → List Stage → Type 0
  Taken i ts = (t : Stage) × Memᴰ t ts × (member i t.cycle ≡ true) × (i ≡ t.plan.hub → ⊥)

  stage_takes : {t : Stage} → Told t.before → Happened limits corners preserved t → (i : ℕ) → Memᴰ i (ids_of t.before)
      → member i (ids_of t.after.node) ≡ false
      → (member i t.cycle ≡ true) × (i ≡ t.plan.hub → ⊥)
  stage_takes {t} k h i m f =
      let x = made limits corners preserved k h in
      let n = names limits corners preserved k h in
      let gone = gone_ids n x h.counters in
      let (r, there, e) = Memᴰ.of_map (λ (r : Rule). r.id) t.before m in
      either (member r.id gone)
      (λ u.
      let (c, s) = removable_satellite _ _ t.before x.hub.id t.plan.alternatives t.cycle preserved (member_in gone u) in (
        subst (λ j. member j t.cycle ≡ true) e (in_member c),
        λ w. true≢false
            (sym (ap (λ b. b || member r.id preserved) (eq-eqb r.id x.hub.id (e ∙ w ∙ sym x.is_hub))) ∙ s),
      ))
      (λ u.
      let here = subst (λ j. Memᴰ j (ids_of (left limits corners preserved k h))) e (left_in n x h.counters there u) in
      absurd (not_in i (ids_of t.after.node) f (subst (λ rs. Memᴰ i (ids_of rs)) (stage_rules limits corners preserved k h) here)))

  chain_takes : {rs : List Rule} {ts : List Stage} → Told rs → Chain limits corners preserved rs ts → (i : ℕ) → Memᴰ i (ids_of rs)
      → member i (ids_of (rules_after rs ts)) ≡ false
      → Taken i ts
  unfolding Taken
  chain_takes {rs} k last i m f = absurd (not_in i (ids_of rs) f m)
  chain_takes k (next {t = t} e h c) i m f =
      let b = subst Told (sym e) k in
      either (member i (ids_of t.after.node))
      (λ u. let (v, n, x, y) = chain_takes (stage_leaves limits corners preserved b h).told c i (member_in (ids_of t.after.node) u)
      f in (v, Memᴰ.tail n, x, y))
      (λ u. let (x, y) = stage_takes b h i (subst (λ rs. Memᴰ i (ids_of rs)) (sym e) m) u in (t, Memᴰ.head refl, x, y))

pub rules_stay : (limits : Limits) (corners : Corners) (s : Sheet) {ts : List Stage} → Told s.rules
    → Chain limits corners s.preserved s.rules ts → RulesStay s ts
unfolding Taken
rules_stay limits corners s {ts} k c =
    let after = (sheet_after s ts).rules in
    let e = sheet_after_lem s ts in
    record {
      untouched = λ r q m n w g.
          let was =
          chain_stands limits corners s.preserved k c q (subst (Memᴰ q) e n)
          (ap (λ i. member i (map (λ t. t.plan.hub) ts)) w ∙ g) in
          subst (λ r. Memᴰ r after) (one_with (λ r. r.id) s.rules k.ids was m w) n;
      in_order =
          subst (λ rs. Sublistᴰ (map (with_rule_body []) rs) (map (with_rule_body []) s.rules)) (sym e)
          (chain_order limits corners s.preserved k c);
      removed = λ r m f.
          chain_takes limits corners s.preserved k c r.id (in_map (λ (r : Rule). r.id) m)
          (ap (λ rs. member r.id (ids_of rs)) (sym e) ∙ no_id r after f);
    }
