-- A plan removes all that it may: no set of satellites is left that are not preserved and that nothing else calls.
use Rattle.std.specs.Prelude.{ℕ, ◌≡◌, true, ◌||◌}
use Rattle.std.proofs.Common.{sym, ap, ◌∙◌, true≢false, ne_eqb}
use Rattle.std.proofs.Math.Path.{subst}
use Rattle.std.proofs.Math.Logic.{⊎_elim}
use mathlib.Core.List.Memᴰ
use mathlib.Core.List.{List, ◌++◌, map, Memᴰ}
use Rattle.std.proofs.Math.Option.{some}
use Rattle.std.proofs.Math.Bool.{false, not}
use Rattle.std.proofs.Math.Dec.{eqb}
use Rattle.std.proofs.lemmas.Bool.{eqb-false, not-true, or_parts}
use Rattle.grammar.specs.Lists.{each, member, keep}
use Rattle.grammar.specs.Tree.{Rule, body_depth}
use Rattle.grammar.specs.Corners.{Corners}
use Rattle.grammar.specs.Laws.Parse.{either}
use Rattle.language.specs.Shape.{erase_block, EachCall}
use Rattle.grammar.specs.Laws.Lists.{in_member, in_map}
use Rattle.reference.specs.Analysis.{Grammar, grammar_of, ids_of, collect_calls_in_elements, collect_calls_into}
use Rattle.reference.specs.Substitute.{Limits}
use Rattle.reference.specs.Plan.{calls_kept}
use Rattle.reference.specs.Apply.{with_body}
use Rattle.reference.specs.Run.{inner_depth, Stage}
use Rattle.laws.specs.Demands.Shape.{Calls}
use Rattle.laws.specs.Demands.Applied.{RemovesMost}
use Rattle.laws.specs.Derivation.Called.{called_each}
use Rattle.grammar.specs.Laws.Lists.{member_in}
use Rattle.graph.specs.Members.{in_keep, keep_in, each_in}
use Rattle.laws.specs.Lists.Lookup.{not_in, target_name}
use Rattle.laws.specs.Planning.Turns.{items_of}
use Rattle.laws.specs.Planning.Named.{Named, block_named, items_named}
use Rattle.laws.specs.Planning.Removed.{removable_uncalled, calls_fewer, removable_satellite, removable_most}
use Rattle.laws.specs.Planning.Renumber.{applied_shape}
use Rattle.laws.specs.Planning.Bodied.{with_other}
use Rattle.laws.specs.Planning.OnePlan.{each_map, new_body, gone_ids, left_stems, hub_after, hub_id_lem, hub_body, hub_in}
use Rattle.laws.specs.Planning.Substituted.{Known}
use Rattle.laws.specs.Planning.Plans.{Made}
use Rattle.laws.specs.Running.Leaves.{Told}
use Rattle.laws.specs.Running.Stages.{Happened}
use Rattle.laws.specs.Running.OneStage.{made, names, left, stage_rules}

module _ (limits : Limits) (corners : Corners) (preserved : List ℕ) {t : Stage} (told : Told t.before)
    (h : Happened limits corners preserved t) where
  abbrev g : Grammar
  g = grammar_of body_depth t.before

  abbrev gone : List ℕ
  gone = gone_ids (names limits corners preserved told h) (made limits corners preserved told h) h.counters

  abbrev hub : ℕ
  hub = (made limits corners preserved told h).hub.id

  abbrev after : List Rule
  after = left limits corners preserved told h

  abbrev nm : Known body_depth t.before g
  nm = names limits corners preserved told h

  abbrev x : Made corners inner_depth t.before g preserved t.cycle t.plan
  x = made limits corners preserved told h

  away : (is : List ℕ) (i : ℕ) → (Memᴰ i is → ⊥) → member i is ≡ false
  away is i f = either (member i is) (λ y. absurd (f (member_in is y))) (λ n. n)

  -- Other rules stay as they were.
  other_left : (r : Rule) → Memᴰ r t.before → member r.id gone ≡ false → (r.id ≡ hub → ⊥) → Memᴰ r after
  other_left r m f ne =
      let b = new_body nm x h.counters in
      let same = with_other inner_depth hub b r ne in
      keep_in (λ r. not (member r.id gone))
      (subst (λ q. Memᴰ q (map (with_body inner_depth hub b) t.before)) same (Memᴰ.map (with_body inner_depth hub b) m)) (ap not f)

  module _ (set : List ℕ) (satellites : (i : ℕ) → member i set ≡ true
      → (member i t.cycle ≡ true) × (i ≡ t.plan.hub → ⊥) × (member i preserved ≡ false))
      (uncalled : (q : Rule) → Memᴰ q after → member q.id set ≡ false → (r : Rule) → Memᴰ r after → member r.id set ≡ true
      → EachCall (λ n. n ≡ r.name → ⊥) (erase_block body_depth q.body)) where
    -- Those of the set that are left, and those removed.
    abbrev live : List ℕ
    live = keep (λ i. member i (ids_of after)) set

    abbrev both : List ℕ
    both = live ++ gone

    not_live : (q : Rule) → Memᴰ q after → (Memᴰ q.id live → ⊥) → member q.id set ≡ false
    not_live q m f = away set q.id (λ z. f (keep_in (λ i. member i (ids_of after)) z (in_member (in_map (λ (r : Rule). r.id) m))))

    -- A rule that is left is not what a name means that is not its own.
    other_name : {r : Rule} → Memᴰ r after → Named g (λ n. n ≡ r.name → ⊥) r.id → ⊥
    other_name {r} m (n, e, ne) =
        let s = left_stems nm x h.counters m in
        ne (sym (target_name t.before g nm.named told.ids s.is_rule n (e ∙ ap some s.id)) ∙ sym s.name)

    set_uncalled : (r : Rule) → Memᴰ r after → member r.id set ≡ true
        → Memᴰ r.id (calls_kept g inner_depth t.before hub t.plan.alternatives both) → ⊥
    unfolding calls_kept collect_calls_into
    set_uncalled r m y c =
        ⊎_elim
        (λ n.
        let lone : member (hub_after nm x h.counters).id set ≡ false =
        away set (hub_after nm x h.counters).id
        (λ z. (satellites (hub_after nm x h.counters).id (in_member z)).1 (hub_id_lem nm x h.counters ∙ x.is_hub)) in
        let hubs = uncalled (hub_after nm x h.counters) (hub_in nm x h.counters) lone r m y in
        let shape =
        subst (EachCall (λ n. n ≡ r.name → ⊥))
        (ap (erase_block body_depth) (hub_body nm x h.counters) ∙ applied_shape inner_depth t.plan.alternatives h.counters)
        hubs in
        other_name m (items_named g (λ n. n ≡ r.name → ⊥) r.id inner_depth (items_of inner_depth t.plan.alternatives) shape
        (subst (Memᴰ r.id) (sym (each_map (collect_calls_in_elements g inner_depth) (λ p. p.elements) t.plan.alternatives))
        n)))
        (λ n.
        let (q, k, i) =
        each_in (λ r. collect_calls_into g body_depth r.body) (keep (λ r. not (member r.id both || eqb r.id hub)) t.before)
        n in
        let (there, f) = in_keep (λ r. not (member r.id both || eqb r.id hub)) t.before k in
        let (out, ne) = or_parts (member q.id both) (eqb q.id hub) (not-true _ f) in
        let free = not_in q.id both out in
        let stays = other_left q there (away gone q.id (λ z. free (Memᴰ.append_right live z))) (eqb-false q.id hub ne) in
        other_name m (block_named g (λ n. n ≡ r.name → ⊥) r.id body_depth q.body
        (uncalled q stays (not_live q stays (λ z. free (Memᴰ.append_left gone z))) r m y) i))
        (Memᴰ.append_cases (each (λ p. collect_calls_in_elements g inner_depth p.elements) t.plan.alternatives) c)

    both_satellites : (i : ℕ) → Memᴰ i both → Memᴰ i t.cycle × ((eqb i hub || member i preserved) ≡ false)
    both_satellites i m =
        ⊎_elim
        (λ n.
        let (c, ne, p) = satellites i (in_member (in_keep (λ i. member i (ids_of after)) set n).0) in
        (member_in t.cycle c, ap (λ b. b || member i preserved) (ne_eqb i hub (λ e. ne (e ∙ x.is_hub))) ∙ p))
        (λ n. removable_satellite g inner_depth t.before hub t.plan.alternatives t.cycle preserved n)
        (Memᴰ.append_cases live m)

    both_uncalled : (i : ℕ) → Memᴰ i both → Memᴰ i (calls_kept g inner_depth t.before hub t.plan.alternatives both) → ⊥
    both_uncalled i m c =
        ⊎_elim
        (λ n.
        let (s, l) = in_keep (λ i. member i (ids_of after)) set n in
        let (r, k, e) = Memᴰ.of_map (λ (r : Rule). r.id) after (member_in (ids_of after) l) in
        set_uncalled r k (subst (λ j. member j set ≡ true) (sym e) (in_member s))
        (subst (λ j. Memᴰ j (calls_kept g inner_depth t.before hub t.plan.alternatives both)) (sym e) c))
        (λ n.
        not_in i (calls_kept g inner_depth t.before hub t.plan.alternatives gone)
        (removable_uncalled g inner_depth t.before hub t.plan.alternatives t.cycle preserved n)
        (calls_fewer g inner_depth t.before hub t.plan.alternatives t.cycle preserved (λ j z. Memᴰ.append_right live z) c))
        (Memᴰ.append_cases live m)

    no_steps_left : (r : Rule) → Memᴰ r after → member r.id set ≡ false
    no_steps_left r m =
        not_live r m
        (λ z.
        let g =
        removable_most g inner_depth t.before hub t.plan.alternatives t.cycle preserved both both_satellites both_uncalled
        r.id (Memᴰ.append_left gone z) in
        let (_, f) = in_keep (λ r. not (member r.id gone)) (map (with_body inner_depth hub (new_body nm x h.counters)) t.before) m in
        true≢false (sym (in_member g) ∙ not-true (member r.id gone) f))

  pub removes_most : RemovesMost preserved t
  removes_most =
      record {
        none_left = λ set s u r m.
            let e = stage_rules limits corners preserved told h in
            let back : (q : Rule) → Memᴰ q after → Memᴰ q t.after.node = λ q n. subst (Memᴰ q) e n in
            let none : (q : Rule) → Memᴰ q after → member q.id set ≡ false → (p : Rule) → Memᴰ p after
            → member p.id set ≡ true → EachCall (λ n. n ≡ p.name → ⊥) (erase_block body_depth q.body) =
            λ q n f p k y. called_each (λ n. n ≡ p.name → ⊥) inner_depth q.body
            (λ i c w. u q (back q n) f p (back p k) y (subst (Calls inner_depth q.body) w c)) in
            no_steps_left set s none r (subst (Memᴰ r) (sym e) m);
      }
