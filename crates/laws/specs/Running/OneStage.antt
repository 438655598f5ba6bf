-- What one stage of a run does: the shape it leaves, that reach shrinks, that the other rules stay.
use Rattle.std.specs.Prelude.{ℕ, ◌≡◌}
use Rattle.std.proofs.Common.{sym, ap, ◌∙◌, subst, ⊎_elim}
use Rattle.std.proofs.Math.Logic.{⊎_map}
use mathlib.Core.List.{List, Memᴰ}
use Rattle.grammar.specs.Tree.{Alternative, Rule, body_depth}
use Rattle.language.specs.Shape.{erase_rules}
use Rattle.grammar.specs.Corners.{Corners}
use Rattle.language.specs.LeftCorners.{Reaches}
use Rattle.reference.specs.Analysis.{grammar_of}
use Rattle.reference.specs.Substitute.{Limits}
use Rattle.reference.specs.Apply.{fresh_each, apply_alternative}
use Rattle.reference.specs.Run.{inner_depth, Stage}
use Rattle.laws.specs.Demands.Shape.{Continues, NoCorner, JoinedShape}
use Rattle.laws.specs.Running.Leaves.{Told, plan_stands}
use Rattle.laws.specs.Planning.Substituted.{Known}
use Rattle.laws.specs.Planning.Plans.{Made}
use Rattle.laws.specs.Planning.OnePlan.{new_body, rules_left, applied_rules, hub_after, hub_id_lem, hub_name, hub_body, hub_in, left_stems}
use Rattle.laws.specs.Running.Joined.{sorts_after, recursive_one, primary_one}
use Rattle.laws.specs.Planning.Sorts.{Recursive}
use Rattle.laws.specs.Running.Shrinks.{left_leads, reaches_map}
use Rattle.laws.specs.Running.Stages.{known, Happened, stage_made}

module _ (limits : Limits) (corners : Corners) (preserved : List ℕ) {t : Stage} (told : Told t.before)
    (h : Happened limits corners preserved t) where
  abbrev pub before : List Rule
  before = t.before

  abbrev pub made : Made corners inner_depth before (grammar_of body_depth before) preserved t.cycle t.plan
  made = stage_made limits corners preserved h

  abbrev pub names : Known body_depth before (grammar_of body_depth before)
  names = known before told

  abbrev pub left : List Rule
  left = rules_left names made h.counters

  pub stage_rules : left ≡ t.after.node
  stage_rules = sym (ap (λ f. f.node) h.left ∙ applied_rules names made h.counters)

  abbrev hub : Rule
  hub = hub_after names made h.counters

  continues : (a : Alternative) → Recursive inner_depth left made.hub.name a.elements → Continues left hub.name a.elements
  continues a r =
      subst (λ n. Continues left n a.elements) (sym (hub_name names made h.counters))
      (record {
        head = r.head;
        site = r.site;
        rest = r.rest;
        starts = r.starts;
        called = r.called;
        plain = r.plain;
        bare = r.bare;
        goes_on = r.goes_on;
      })

  in_hub : {a : Alternative} → Memᴰ a (new_body names made h.counters) → Memᴰ a hub.body
  in_hub {a} m = subst (Memᴰ a) (sym (hub_body names made h.counters)) m

  -- Demand 3's shape, of what is left.
  pub stage_shape : JoinedShape (NoCorner corners t.after.node t.cycle) t.after.node t.plan.hub
  stage_shape =
      let (a, i, r) = recursive_one names made h.counters in
      let (b, j, p) = primary_one names made h.counters in
      subst (λ ks. JoinedShape (NoCorner corners ks t.cycle) ks t.plan.hub) stage_rules
      (record {
        rule = hub;
        is_left = hub_in names made h.counters;
        is_hub = hub_id_lem names made h.counters ∙ made.is_hub;
        every = λ a m.
            ⊎_map (continues a) (λ p. record { none = p })
            (sorts_after names made h.counters a (subst (Memᴰ a) (hub_body names made h.counters) m));
        one_continues = (a, in_hub i, continues a r);
        one_without = (b, in_hub j, record { none = p });
      })

  pub stage_reaches : (o : Corners) {n m : ℕ} → Reaches o (erase_rules body_depth t.after.node) n m
      → Reaches o (erase_rules body_depth before) n m
  stage_reaches o {n} {m} r =
      reaches_map (λ n m. left_leads names made h.counters o) (subst (λ l. Reaches o (erase_rules body_depth l) n m) (sym stage_rules) r)

  -- A rule left that is not the hub is a rule of before.
  pub stage_stands : (q : Rule) → Memᴰ q t.after.node → (q.id ≡ t.plan.hub → ⊥) → Memᴰ q before
  stage_stands q m ne = plan_stands names made h.counters (subst (λ f. Memᴰ q f.node) h.left m) ne

  -- The rule joined has the planned alternatives, applied, as its body.
  pub stage_body : (q : Rule) → Memᴰ q t.after.node → q.id ≡ t.plan.hub
      → q.body ≡ (fresh_each (apply_alternative inner_depth) t.plan.alternatives h.counters).node
  stage_body q m e =
      let s = left_stems names made h.counters (subst (Memᴰ q) (sym stage_rules) m) in
      ⊎_elim (λ u. u.1) (λ u. absurd (u.0 (sym s.id ∙ e ∙ sym made.is_hub))) s.body
