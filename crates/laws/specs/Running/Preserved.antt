-- The sheet around the rules: unit kind and preserved list are copied, and no preserved rule is removed.
use Rattle.std.specs.Prelude.{ℕ, ◌≡◌, refl, List, [], ◌∷◌, true, false, ◌||◌, eqb}
use Rattle.std.proofs.Common.{sym, ap, ◌∙◌, subst, true≢false}
use mathlib.Core.List.Memᴰ
use Rattle.std.proofs.Math.Bool.{or-true}
use Rattle.grammar.specs.Laws.Lists.{in_member, in_map, member_in}
use Rattle.grammar.specs.Tree.{Rule, Sheet}
use Rattle.grammar.specs.Lists.{member}
use Rattle.grammar.specs.Corners.{Corners}
use Rattle.grammar.specs.Laws.Parse.{either}
use Rattle.reference.specs.Analysis.{ids_of}
use Rattle.reference.specs.Substitute.{Limits}
use Rattle.reference.specs.Run.{Stage, sheet_with, sheet_after}
use Rattle.laws.specs.Demands.Run.{PreservedStay, rules_of}
use Rattle.laws.specs.Planning.Removed.{removable_satellite}
use Rattle.laws.specs.Planning.OnePlan.{gone_ids, rules_left, applied_rules, left_in}
use Rattle.laws.specs.Running.Leaves.{Told}
use Rattle.laws.specs.Running.Stages.{rules_after, sheet_after_lem, sheet_preserved, known, Happened, Chain, last, next, stage_made}
use Rattle.laws.specs.Running.Stages.{stage_leaves}

module _ (limits : Limits) (corners : Corners) (preserved : List ℕ) (i : ℕ) (p : member i preserved ≡ true) where
  stage_keeps : {t : Stage} → Told t.before → Happened limits corners preserved t → member i (ids_of t.before) ≡ true
      → member i (ids_of t.after.node) ≡ true
  stage_keeps {t} k h m =
      let x = stage_made limits corners preserved h in
      let gone = gone_ids (known t.before k) x h.counters in
      let (r, there, e) = Memᴰ.of_map (λ (r : Rule). r.id) t.before (member_in (ids_of t.before) m) in
      let stays : member r.id gone ≡ false =
      either (member r.id gone)
      (λ u.
      let s = removable_satellite _ _ t.before x.hub.id t.plan.alternatives t.cycle preserved (member_in gone u) in
      let kept : member r.id preserved ≡ true = ap (λ j. member j preserved) e ∙ p in
      absurd (true≢false (sym (ap (λ b. eqb r.id x.hub.id || b) kept ∙ or-true (eqb r.id x.hub.id)) ∙ s.1)))
      (λ f. f) in
      let left = in_member (left_in (known t.before k) x h.counters there stays) in
      let here : member i (ids_of (rules_left (known t.before k) x h.counters)) ≡ true =
      subst (λ j. member j (ids_of (rules_left (known t.before k) x h.counters)) ≡ true) e left in
      subst (λ f. member i (ids_of f.node) ≡ true) (sym h.left)
      (subst (λ rs. member i (ids_of rs) ≡ true) (sym (applied_rules (known t.before k) x h.counters)) here)

  chain_keeps : {rs : List Rule} {ts : List Stage} → Told rs → Chain limits corners preserved rs ts → member i (ids_of rs) ≡ true
      → member i (ids_of (rules_after rs ts)) ≡ true
  chain_keeps k last m = m
  chain_keeps k (next {t = t} e h c) m =
      let told = subst Told (sym e) k in
      chain_keeps (stage_leaves limits corners preserved told h).told c
      (stage_keeps told h (subst (λ rs. member i (ids_of rs) ≡ true) (sym e) m))

pub same_kind : (s : Sheet) (ts : List Stage) → (sheet_after s ts).kind ≡ s.kind
unfolding sheet_after
same_kind s [] = refl
same_kind s (t ∷ ts) = same_kind (sheet_with s.kind s.preserved t.after) ts

pub preserved_stay : (limits : Limits) (corners : Corners) (s : Sheet) {ts : List Stage} → Told s.rules
    → Chain limits corners s.preserved s.rules ts → PreservedStay s ts
preserved_stay limits corners s {ts} k c =
    record {
      kind = same_kind s ts;
      copied = sheet_preserved s ts;
      stay = λ r m p.
          let kept = chain_keeps limits corners s.preserved r.id p k c (in_member (in_map (λ (r : Rule). r.id) m)) in
          let there : member r.id (ids_of (rules_of s ts)) ≡ true =
          subst (λ rs. member r.id (ids_of rs) ≡ true) (sym (sheet_after_lem s ts)) kept in
          Memᴰ.of_map (λ (r : Rule). r.id) (rules_of s ts) (member_in (ids_of (rules_of s ts)) there);
    }
