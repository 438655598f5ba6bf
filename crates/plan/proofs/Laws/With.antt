-- From the hub on: its arguments, the satellites; and the hub itself.
use Prim.Native.Nat.{ℕ, ◌+◌, ◌%◌, ◌<◌}
use mathlib.Core.Path.{◌≡◌, refl, sym, ap, ◌∙◌, subst}
use mathlib.Core.List.{List}
use mathlib.Core.Bool.{Bool, true, false, not}
use lib.ListN.{get_or}
use lib.Dec.{eqb}
use borrow.Author.Tests.{not-true, not-false}
use Rattle.grammar.specs.Tree.{inner_depth}
use Rattle.grammar.specs.Lists as L
use Rattle.grammar.specs.Laws.Opened.{rule_words_lem}
use Rattle.grammar.specs.Corners.{Corners}
use Rattle.reference.specs.Substitute.{no_hub, hub_with_arguments, satellite_not_inlinable, Decided, found, ◌and_then◌}
use Rattle.reference.specs.Plan.{CyclePlan, choose_hub, satellite_is_inlinable, satellites, with_hub, plan_cycle}
use Rattle.records.specs.declared.rules.Rules.{Rules}
use Rattle.analysis.specs.Facts.{Among, Standing}
use Rattle.analysis.specs.declared.rounds.Marks.{Marks}
use Rattle.analysis.proofs.Laws.Standing.{rule_spans}
use Rattle.hub.specs.Hub.{HubIs, Chosen}
use Rattle.hub.specs.Inlinable.{AllInlinable}
use Rattle.hub.proofs.Laws.Grounds.{at_place, with_id}
use Rattle.turns.specs.Midway.{limits_of}
use Rattle.turns.specs.declared.limits.Limits.{Limits}
use Rattle.std.specs.Prelude.{Option, Some, None, Result, Err}
use Rattle.steps.specs.declared.decide.Clause.TheVariants.{NoHub, HubWithArguments, SatelliteNotInlinable}
use Rattle.turns.specs.declared.turn.Unplanned.{Unplanned}
use Rattle.turns.specs.declared.turn.Unplanned.TheVariants.{Declined}
use Rattle.plan.specs.declared.plan.Plan.{Plan}
use Rattle.plan.specs.Known.{CycleKnown, HubKnown, known_rules, known_grammar}
use Rattle.plan.specs.Decision.{TakesArguments, DecidedAs, PlanOf, PlanWith, PlanMade}
use Rattle.plan.proofs.Laws.Last.{unmet, met}

pub takes_word : {ws : List ℕ} {end at w : ℕ} → w ≡ get_or ws (at + 2) 0 → TakesArguments ws end at (not (eqb (w % 2) 0))
takes_word {w = w} e =
    record { is = λ t q s. ap (λ f. eqb (f % 2) 0) (sym (rule_words_lem inner_depth s).flags_are ∙ sym e) ∙ twice (eqb (w % 2) 0) }
  where
    twice : (b : Bool) → b ≡ not (not b)
    twice true = refl
    twice false = refl

module _ {ws : List ℕ} {end : ℕ} {rules : Rules} {reading : Corners} {calls : List (List ℕ)} {marks : Marks} {kept members : List ℕ} where
  pub cycle_standing : CycleKnown ws end rules reading calls marks kept members → Standing ws end rules
  cycle_standing x = x.known.standing

  module _ {hub at : ℕ} {args : Bool} (t : TakesArguments ws end at args) (e : at ≡ get_or rules.places hub 0) where
    flagged : (x : CycleKnown ws end rules reading calls marks kept members) (a : Among (known_rules x) hub)
        → eqb (a.rule.flags % 2) 0 ≡ not args
    flagged x a = let s = rule_spans x.known.standing.rows a in t.is a.rule s.0 (rw e s.1)

    pub with_arguments : {limits : Limits} {bs : List ℕ} → args ≡ true
        → PlanWith ws end rules reading calls marks kept members limits hub bs (Err (Declined HubWithArguments))
    with_arguments f =
        record {
          is = λ x a.
              record { is = unmet hub_with_arguments _ (flagged x a ∙ ap not f) };
        }

    module _ (f : args ≡ false) (low : hub < rules.n) {able : Bool} (all : AllInlinable marks.stops members hub able) where
      inlined : (x : CycleKnown ws end rules reading calls marks kept members)
          → able ≡ L.all (satellite_is_inlinable inner_depth) (satellites inner_depth (known_rules x) x.cycle (get_or rules.ids hub 0))
      inlined x = all.is ws end rules reading calls x.corners marks x.known refl x.cycle x.is_cycle low

      pub with_stops : {limits : Limits} {bs : List ℕ} → not able ≡ true
          → PlanWith ws end rules reading calls marks kept members limits hub bs (Err (Declined SatelliteNotInlinable))
      with_stops n =
          record {
            is = λ x a.
                record {
                  is = met hub_with_arguments _ (flagged x a ∙ ap not f)
                      ∙ unmet satellite_not_inlinable _ (sym (inlined x) ∙ not-true able n);
                };
          }

      module _ (n : not able ≡ false) where
        pub hub_known : CycleKnown ws end rules reading calls marks kept members
            → HubKnown ws end rules reading calls marks kept members hub
        hub_known x = record { known = x; low = low; inlinable = sym (inlined x) ∙ not-false able n }

        pub with_made : {limits : Limits} {bs : List ℕ} {r : Result Plan Unplanned}
            → PlanMade ws end rules reading calls marks kept members limits hub bs r
            → PlanWith ws end rules reading calls marks kept members limits hub bs r
        unfolding hub_known
        with_made {bs = bs} {r} p =
            record {
              is = λ x a.
                  let k = hub_known x in
                  subst (λ m. DecidedAs ws end rules.ids rules.n bs m r)
                  (sym (met hub_with_arguments _ (flagged x a ∙ ap not f) ∙ met satellite_not_inlinable _ k.inlinable))
                  (p.is k a);
            }

  -- The hub.
  module _ {next : Option ℕ} (h : Chosen ws end rules marks.nullable calls members kept next) where
    chosen_as : {t : Option ℕ} → next ≡ t → (x : CycleKnown ws end rules reading calls marks kept members)
        → HubIs rules.ids rules.n members t (choose_hub (known_grammar x) x.cycle inner_depth (known_rules x) x.preserved)
    chosen_as e x =
        subst
        (λ t. HubIs rules.ids rules.n members t (choose_hub (known_grammar x) x.cycle inner_depth (known_rules x) x.preserved))
        e (h.is reading x.corners marks x.known refl x.cycle x.preserved x.is_cycle x.keeps)

    pub plan_none : {limits : Limits} {bs : List ℕ} → next ≡ None
        → PlanOf ws end rules reading calls marks kept members limits bs (Err (Declined NoHub))
    unfolding plan_cycle
    plan_none e =
        record {
          is = λ x.
              record { is = rw (plan_cycle, chosen_as e x) refl };
        }

    module _ {hub : ℕ} (e : next ≡ Some hub) where
      pub hub_inside : CycleKnown ws end rules reading calls marks kept members → hub < rules.n
      hub_inside x = (chosen_as e x).0

      pub plan_hub : {limits : Limits} {bs : List ℕ} {r : Result Plan Unplanned}
          → PlanWith ws end rules reading calls marks kept members limits hub bs r
          → PlanOf ws end rules reading calls marks kept members limits bs r
      unfolding plan_cycle
      plan_hub {limits} {bs} {r} p =
          record {
            is = λ x.
                let c = chosen_as e x in
                let a = at_place x.known.standing hub c.0 in
                let rest : ℕ → Decided (CyclePlan inner_depth) =
                with_hub (limits_of limits) reading (known_grammar x) inner_depth (known_rules x) x.preserved x.cycle in
                let same = ap (λ o. found no_hub o and_then rest) c.2 in
                subst (λ m. DecidedAs ws end rules.ids rules.n bs m r) (sym (same ∙ rw (with_id x.known.standing a) refl))
                (p.is x a);
          }

pub ruleset hubs = (cycle_standing, with_arguments, with_stops, hub_known, with_made)

pub ruleset cycles = (cycle_standing, plan_none, hub_inside, plan_hub)
