-- The whole decision on a cycle does not look at names but for which are equal, nor at carried numbers.
use Prim.Native.Nat.{ℕ, suc, ◌%◌}
use Rattle.std.specs.Prelude.{◌≡◌, Bool, ◌&&◌, ◌||◌, length}
use Rattle.std.proofs.Math.Path.{refl, sym, ap, ap₂, fun_ext}
use Rattle.std.proofs.Common.{◌∙◌}
use mathlib.Core.List.{List, ◌++◌, map, map-map}
use Rattle.std.proofs.Math.Option
use Rattle.std.proofs.Math.Option.{Option, none, some}
use Rattle.std.proofs.Math.Bool.{not}
use Rattle.std.proofs.Math.Dec.{eqb}
use Rattle.grammar.specs.Lists.{member, all, keep, rounds}
use Rattle.grammar.specs.Corners.{Corners}
use Rattle.grammar.specs.Tree.{Block, RuleOf}
use Rattle.reference.specs.Analysis.{Grammar, rule_with_id, collect_calls_in_elements}
use Rattle.reference.specs.Substitute.{Limits, decided, ◌and_then◌, require, found, Planned, Substituted, no_hub, hub_with_arguments}
use Rattle.reference.specs.Substitute.{satellite_not_inlinable, no_steps, not_directly_rewritable, substitution_budget, substitute}
use Rattle.reference.specs.Plan.{choose_hub, satellite_is_inlinable, planned_hub_is_directly_rewritable, calls_kept, removable_round}
use Rattle.reference.specs.Plan.{removable_satellites, CyclePlan, as_it_is, as_they_are, satellites, plan_of, last_tests, substituting}
use Rattle.reference.specs.Plan.{with_rule}
use Rattle.reference.specs.Plan.{with_hub, plan_cycle}
use Rattle.laws.specs.Lists.Mapped.{all_same, keep_same, each_same}
use Rattle.laws.specs.Demands.Marks.{on_alternative, on_rule, on_block}
use Rattle.laws.specs.Sameness.Marked.{on_grammar, on_rules}
use Rattle.laws.specs.Sameness.Decided.{on_decided, require_on, then_on}
use Rattle.laws.specs.Sameness.Steps.{on_planned, rule_on}
use Rattle.laws.specs.Sameness.Calls.{calls_elements, calls_kept_lem}
use Rattle.laws.specs.Sameness.Substituted.{on_substituted, budget_on, substitute_on}
use Rattle.laws.specs.Sameness.Hub.{hub_on, inlinable_on}
use Rattle.laws.specs.Sameness.Rewritable.{rewritable_on}

module _ (f r pr : ℕ → ℕ) (one : (a b : ℕ) → f a ≡ f b → a ≡ b) (d : ℕ) where
  -- A plan, changed.
  abbrev pub on_plan : CyclePlan d → CyclePlan d
  on_plan p =
      record {
        hub = p.hub;
        alternatives = map (on_planned f r pr one d) p.alternatives;
        removable = p.removable;
        steps = p.steps;
      }

  abbrev on_whole : RuleOf (Block (suc d)) → RuleOf (Block (suc d))
  on_whole = on_rule f r pr (on_block f r pr (suc d))

  -- The planned list that a substitution starts with.
  start_on : (as' : Block (suc d)) → as_they_are (on_block f r pr (suc d) as') ≡ map (on_planned f r pr one d) (as_they_are as')
  unfolding as_they_are on_block
  start_on as' = map-map as_it_is (on_alternative f r pr (on_block f r pr d)) as' ∙ sym (map-map (on_planned f r pr one d) as_it_is as')

  module _ (g : Grammar) (rs : List (RuleOf (Block (suc d)))) where
    abbrev g' : Grammar
    g' = on_grammar f r pr one g

    abbrev rs' : List (RuleOf (Block (suc d)))
    rs' = on_rules f r pr one (suc d) rs

    -- What may be removed.
    module _ (hub : ℕ) (ps : List (Planned d)) where
      kept_on : (xs : List ℕ) → calls_kept g' d rs' hub (map (on_planned f r pr one d) ps) xs ≡ calls_kept g d rs hub ps xs
      unfolding calls_kept
      kept_on xs =
          ap₂ ◌++◌
          (each_same (on_planned f r pr one d) _ (λ p. collect_calls_in_elements g d p.elements)
          (λ p. calls_elements f r pr one g d p.elements) ps)
          (calls_kept_lem f r pr one g (suc d) (λ q. not (member q.id xs || eqb q.id hub)) (λ q. refl) rs)

      removable_on : (cycle preserved : List ℕ)
          → removable_satellites g' d rs' hub (map (on_planned f r pr one d) ps) cycle preserved
          ≡ removable_satellites g d rs hub ps cycle preserved
      unfolding removable_satellites removable_round
      removable_on cycle preserved =
          ap (λ (called : List ℕ → List ℕ). rounds (λ xs. let l = called xs in keep (λ i. not (member i l)) xs) (length cycle)
          (keep (λ i. not (eqb i hub || member i preserved)) cycle)) (fun_ext kept_on)

    -- The decision, from its last tests up.
    module _ (limits : Limits) (c : Corners) (preserved cycle : List ℕ) where
      module _ (hub : ℕ) where
        last_on : (m : Substituted d)
            → last_tests limits c g' d rs' preserved cycle hub (on_substituted f r pr one d m)
            ≡ on_decided on_plan (last_tests limits c g d rs preserved cycle hub m)
        last_on m =
            require_on on_plan no_steps (not (eqb m.steps 0)) _ _
            (ap (λ b. require not_directly_rewritable b λ _. decided (plan_of d rs' cycle g' preserved hub (on_substituted f r pr one d m)))
            (rewritable_on f r pr one d g hub c cycle m.alternatives)
            ∙ require_on on_plan not_directly_rewritable (planned_hub_is_directly_rewritable c g cycle hub d m.alternatives) _ _
            (ap (λ xs. decided (record {
              hub = hub;
              alternatives = map (on_planned f r pr one d) m.alternatives;
              removable = xs;
              steps = m.steps;
            })) (removable_on hub m.alternatives cycle preserved)))

        substituting_on : (q : RuleOf (Block (suc d)))
            → substituting limits c g' d rs' preserved cycle hub (on_whole q)
            ≡ on_decided on_plan (substituting limits c g d rs preserved cycle hub q)
        substituting_on q =
            let fuel = substitution_budget d limits rs cycle in
            ap₂ (λ n ps. substitute d rs' g' cycle hub limits n 0 ps and_then last_tests limits c g' d rs' preserved cycle hub)
            (budget_on f r pr one d limits rs cycle) (start_on q.body)
            ∙ ap (λ x. x and_then last_tests limits c g' d rs' preserved cycle hub)
            (substitute_on f r pr one d rs g cycle hub limits fuel 0 (as_they_are q.body))
            ∙ then_on (on_substituted f r pr one d) on_plan (substitute d rs g cycle hub limits fuel 0 (as_they_are q.body))
            (last_tests limits c g d rs preserved cycle hub) (last_tests limits c g' d rs' preserved cycle hub) last_on

        satellites_on : all (satellite_is_inlinable d) (satellites d rs' cycle hub)
            ≡ all (satellite_is_inlinable d) (satellites d rs cycle hub)
        satellites_on =
            let test : RuleOf (Block (suc d)) → Bool = λ s. member s.id cycle && not (eqb s.id hub) in
            ap (all (satellite_is_inlinable d)) (keep_same on_whole test test (λ s. refl) rs)
            ∙ all_same on_whole (satellite_is_inlinable d) (satellite_is_inlinable d) (inlinable_on f r pr one d)
            (satellites d rs cycle hub)

        rule_plan_on : (q : RuleOf (Block (suc d)))
            → with_rule limits c g' d rs' preserved cycle hub (on_whole q)
            ≡ on_decided on_plan (with_rule limits c g d rs preserved cycle hub q)
        rule_plan_on q =
            require_on on_plan hub_with_arguments (eqb (q.flags % 2) 0) _ _
            (ap (λ b. require satellite_not_inlinable b λ _. substituting limits c g' d rs' preserved cycle hub (on_whole q)) satellites_on
            ∙ require_on on_plan satellite_not_inlinable
            (all (satellite_is_inlinable d) (satellites d rs cycle hub)) _ _ (substituting_on q))

        hub_plan_on : with_hub limits c g' d rs' preserved cycle hub ≡ on_decided on_plan (with_hub limits c g d rs preserved cycle hub)
        hub_plan_on =
            ap (λ x. found no_hub x and_then with_rule limits c g' d rs' preserved cycle hub) (rule_on f r pr one d rs hub)
            ∙ go (rule_with_id rs hub)
          where
            go : (x : Option (RuleOf (Block (suc d))))
                → (found no_hub (Option.map on_whole x) and_then with_rule limits c g' d rs' preserved cycle hub)
                ≡ on_decided on_plan (found no_hub x and_then with_rule limits c g d rs preserved cycle hub)
            go none = refl
            go (some q) = rule_plan_on q

  -- The plan for a cycle, changed, or the same refusal of one.
  pub plan_on : (limits : Limits) (c : Corners) (g : Grammar) (rs : List (RuleOf (Block (suc d)))) (preserved cycle : List ℕ)
      → plan_cycle limits c (on_grammar f r pr one g) d (on_rules f r pr one (suc d) rs) preserved cycle
      ≡ on_decided on_plan (plan_cycle limits c g d rs preserved cycle)
  unfolding plan_cycle
  plan_on limits c g rs preserved cycle =
      ap (λ x. found no_hub x and_then with_hub limits c (g' g rs) d (rs' g rs) preserved cycle) (hub_on f r pr one d g cycle rs preserved)
      ∙ go (choose_hub g cycle d rs preserved)
    where
      go : (x : Option ℕ)
          → (found no_hub x and_then with_hub limits c (g' g rs) d (rs' g rs) preserved cycle)
          ≡ on_decided on_plan (found no_hub x and_then with_hub limits c g d rs preserved cycle)
      go none = refl
      go (some hub) = hub_plan_on g rs limits c preserved cycle hub
