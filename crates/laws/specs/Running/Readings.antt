-- The readings of a run: what each plan pairs, one plan after the other.
use Rattle.std.specs.Prelude.{ℕ, ◌≡◌, refl}
use Rattle.std.proofs.Math.Path.{sym, subst}
use Rattle.std.proofs.Common.{ap, ◌∙◌}
use mathlib.Core.List.{List, [], ◌∷◌, Memᴰ}
use Rattle.std.proofs.Math.Option.{some}
use mathlib.Core.Equiv.{Iso, comp_iso, inv_iso}
use Rattle.grammar.specs.Tree.{Rule, body_depth}
use Rattle.grammar.specs.Corners.{Corners}
use Rattle.graph.specs.Members.{one_with}
use Rattle.language.specs.Shape.{Word, call_of, erase_block, find, bodies_by}
use Rattle.language.specs.Derive.{Der, RuleDerives}
use Rattle.language.specs.Readings.{tree_of, Stays}
use Rattle.language.specs.Laws.Rules.{rule_found}
use Rattle.language.specs.Laws.Trees.Replace.{Paired, paired_refl, paired_trans}
use Rattle.language.specs.Laws.Trees.Derivations.{paired_derivations, paired_tree}
use Rattle.language.specs.Laws.Trees.Rules.{rule_readings, readings_tree, readings_tree_back}
use Rattle.reference.specs.Substitute.{Limits}
use Rattle.reference.specs.Run.{Stage}
use Rattle.laws.specs.Demands.Shape.{SameReadings}
use Rattle.laws.specs.Demands.Readings.{shapes_of, PlanTrees, Plans, none, next, StaysOver, over, RuleTold, ReadingsTold, PlanReadings}
use Rattle.laws.specs.Planning.OnePlan.{rules_left, applied_rules, left_stays}
use Rattle.laws.specs.Planning.Paired.{gone_stays, plan_trees}
use Rattle.laws.specs.Running.Leaves.{Told, Leaves}
use Rattle.laws.specs.Running.Stages.{rules_after, known, Happened, Chain, stage_made, stage_leaves, chain_leaves}
use Rattle.laws.specs.Running.Stages as Stages

-- Readings that pair off, and which with which.
abbrev pub Read : List Rule → List Stage → List Rule → Type 0
Read before ts after = (r : SameReadings before after) × ReadingsTold before ts after r

-- How a plan pairs trees, and that the name of each rule left stays.
abbrev StageTrees : List Rule → Stage → List Rule → Type 0
StageTrees before t after = PlanTrees before t after × ((q : Rule) → Memᴰ q after → Stays before after q.name)

-- How plans do.
abbrev ChainTrees : List Rule → List Stage → List Rule → Type 0
ChainTrees before ts after = (ps : Plans before ts after) × ((q : Rule) → Memᴰ q after → StaysOver ps q.name)

module _ (limits : Limits) (corners : Corners) (preserved : List ℕ) where
  stage_trees : {t : Stage} → Told t.before → Happened limits corners preserved t → StageTrees t.before t t.after.node
  stage_trees {t} told h =
      let k = known t.before told in
      let x = stage_made limits corners preserved h in
      let e : t.after.node ≡ rules_left k x h.counters = ap (λ f. f.node) h.left ∙ applied_rules k x h.counters in
      subst (StageTrees t.before t) (sym e) (
        record {
          starts = refl;
          leaves = e;
          hub = x.hub;
          is_rule = x.is_rule;
          is_hub = x.is_hub;
          trees = plan_trees k x h.counters;
        },
        λ q m. gone_stays k x h.counters q.name (left_stays k x h.counters m),
      )

  chain_trees : {rs : List Rule} {ts : List Stage} → Told rs → Chain limits corners preserved rs ts → ChainTrees rs ts (rules_after rs ts)
  unfolding StaysOver
  chain_trees told Stages.last = (none, λ q m. tt)
  chain_trees {rs} told (Stages.next {t = t} {ts = ts} e h c) =
      let before : Told t.before = subst Told (sym e) told in
      let (p, stays) = subst (λ r. StageTrees r t t.after.node) e (stage_trees before h) in
      let after = (stage_leaves limits corners preserved before h).told in
      let (ps, onward) = chain_trees after c in (
        next p ps,
        λ q m.
            let (r, n, id, name) = (chain_leaves limits corners preserved after c).stems q m in
            (subst (Stays rs t.after.node) (sym name) (stays r n), onward q m),
      )

module _ {rs ks : List Rule} {ts : List Stage} (told : Told rs) (l : Leaves body_depth rs ks) (c : ChainTrees rs ts ks) where
  -- A rule that is kept, by its id and by its name, before and after.
  module _ (r q : Rule) (m : Memᴰ r rs) (n : Memᴰ q ks) (e : q.id ≡ r.id) where
    same_name_lem : q.name ≡ r.name
    same_name_lem =
        let (stem, there, id, name) = l.stems q n in
        name ∙ ap (λ r. r.name) (one_with (λ r. r.id) rs told.ids there m (sym id ∙ e))

    name_before : find (shapes_of rs) q.name ≡ some (erase_block body_depth r.body)
    name_before =
        subst (λ j. find (shapes_of rs) j ≡ some (erase_block body_depth r.body)) (sym same_name_lem)
        (rule_found body_depth (λ r. r.name) rs told.names m)

    id_before : find (bodies_by body_depth (λ r. r.id) rs) r.id ≡ some (erase_block body_depth r.body)
    id_before = rule_found body_depth (λ r. r.id) rs told.ids m

    id_after : find (bodies_by body_depth (λ r. r.id) ks) q.id ≡ some (erase_block body_depth q.body)
    id_after = rule_found body_depth (λ r. r.id) ks l.told.ids n

    name_after : find (shapes_of ks) q.name ≡ some (erase_block body_depth q.body)
    name_after = rule_found body_depth (λ r. r.name) ks l.told.names n

    before : (w : Word) → Iso (RuleDerives body_depth rs r.id w) (Der (shapes_of rs) (call_of q.name) w)
    before = rule_readings body_depth rs r.id q.name id_before name_before

    after : (w : Word) → Iso (RuleDerives body_depth ks q.id w) (Der (shapes_of ks) (call_of q.name) w)
    after = rule_readings body_depth ks q.id q.name id_after name_after

    abbrev trees : Paired (shapes_of rs) (call_of q.name) (shapes_of ks) (call_of q.name)
    trees = over c.0 q.name (c.1 q n)

    -- Its derivations pair off as the trees of its call do.
    pairs : (w : Word) → Iso (RuleDerives body_depth rs r.id w) (RuleDerives body_depth ks q.id w)
    pairs w = comp_iso (before w) (comp_iso (paired_derivations trees w) (inv_iso (after w)))

    pairs_told : RuleTold rs ks (StaysOver c.0) (over c.0) r q pairs
    unfolding comp_iso pairs before after
    pairs_told =
        record {
          same_name = same_name_lem;
          stays = c.1 q n;
          becomes = λ w x.
              let d : Der (shapes_of rs) (call_of q.name) w = (before w).fun x in
              let y = readings_tree_back body_depth ks q.id q.name id_after name_after w ((paired_derivations trees w).fun d) in (
                tree_of d,
                readings_tree body_depth rs r.id q.name id_before name_before w x,
                record { found = y.found; is_tree = sym (paired_tree trees w d) ∙ y.is_tree },
              );
        }

  leaves_read : Read rs ts ks
  leaves_read = (record { pairs = pairs }, record { plans = c.0; rules = pairs_told })

-- Of a chain of stages.
pub chain_read : (limits : Limits) (corners : Corners) (preserved : List ℕ) {rs : List Rule} {ts : List Stage} → Told rs
    → Chain limits corners preserved rs ts → Read rs ts (rules_after rs ts)
chain_read limits corners preserved told c =
    leaves_read told (chain_leaves limits corners preserved told c) (chain_trees limits corners preserved told c)

-- Over one stage it is what its plan pairs.
pub plan_readings_lem : {rs ks : List Rule} {t : Stage} {s : SameReadings rs ks} → ReadingsTold rs (t ∷ []) ks s → PlanReadings rs t ks s
unfolding StaysOver over paired_trans paired_refl
plan_readings_lem {rs} {ks} {t} {s} x = go x.plans x.rules
  where
    go : {ls : List Rule} {s : SameReadings rs ls} (ps : Plans rs (t ∷ []) ls)
        → ((r q : Rule) (m : Memᴰ r rs) (n : Memᴰ q ls) (e : q.id ≡ r.id)
        → RuleTold rs ls (StaysOver ps) (over ps) r q (s.pairs r q m n e))
        → PlanReadings rs t ls s
    go (next p none) rules =
        record {
          plan = p;
          rules = λ r q m n e.
              let y = rules r q m n e in
              record { same_name = y.same_name; stays = y.stays.0; becomes = y.becomes };
        }
