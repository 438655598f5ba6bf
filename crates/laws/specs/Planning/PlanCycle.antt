-- The decision on one cycle, test by test.
use Rattle.std.specs.Prelude.{ℕ, suc, ◌%◌, Bool, ◌&&◌, eqb}
use Rattle.std.proofs.Math.Path.{◌≡◌, refl, ap, subst}
use Rattle.std.proofs.Common.{sym, ◌∙◌, eqb-true, ne_eqb}
use mathlib.Core.List.{List, ◌++◌, Memᴰ}
use Rattle.std.proofs.Math.Option.{Option, none, some}
use Rattle.std.proofs.Math.Bool.{true, false, not, true≢false}
use native.Mathlib.Omega.{arith}
use Rattle.std.proofs.lemmas.Bool.{eqb-false, not-true, not-false, and_from}
use Rattle.std.specs.Cmp.{first_so, second_so}
use Rattle.grammar.specs.Tree.{Block, RuleOf}
use Rattle.grammar.specs.Lists.{member, all, any, keep, first}
use Rattle.grammar.specs.Corners.{Corners}
use Rattle.reference.specs.Analysis.{Grammar, rule_with_id}
use Rattle.reference.specs.Substitute.{no_hub, hub_with_arguments, satellite_not_inlinable, no_steps, not_directly_rewritable, Decided}
use Rattle.reference.specs.Substitute.{◌and_then◌, found, Limits, Planned, Substituted, step, substitute, substitution_budget}
use Rattle.reference.specs.Plan.{corner_enters_cycle, externally_referenced, is_candidate, choose_hub, satellite_is_inlinable}
use Rattle.reference.specs.Plan.{planned_hub_is_directly_rewritable, CyclePlan, as_they_are, satellites, last_tests, inlinable}
use Rattle.reference.specs.Plan.{with_rule, with_hub, plan_cycle}
use Rattle.laws.specs.Demands.Substitution.{Steps, no_steps_left, one_more}
use Rattle.laws.specs.Demands.Decision.{Chosen, Satellite, Begun, Leads, Settles, Decision, none_chosen, arguments}
use Rattle.laws.specs.Demands.Decision.{not_inlinable, spent, stuck, full, unmoved, unfit, plan}
use Rattle.graph.specs.Members.{in_keep, keep_in}
use Rattle.laws.specs.Lists.Lookup.{all_in, first_some, rule_with_id_lem}
use Rattle.laws.specs.Lists.Every.{not_all}
use Rattle.laws.specs.Planning.Decisions.{require_so}
use Rattle.laws.specs.Planning.Loop.{Loop, l_done, l_spent, l_stuck, l_full, looped}

-- A path without a step.
no_path : {limits : Limits} {d : ℕ} {rs : List (RuleOf (Block (suc d)))} {g : Grammar} {cycle : List ℕ} {hub n : ℕ}
    {ps qs : List (Planned d)}
    → Steps limits d rs g cycle hub n ps qs → n ≡ 0 → ps ≡ qs
no_path no_steps_left e = refl
no_path (one_more k w p) e = absurd (omega arith)

module _ (c : Corners) (d : ℕ) (rs : List (RuleOf (Block (suc d)))) (g : Grammar) (preserved cycle : List ℕ) where
  -- The hub that is chosen is of the cycle, and a rule.
  pub candidate : (i : ℕ) → choose_hub g cycle d rs preserved ≡ some i → Memᴰ i cycle × (is_candidate g cycle d rs i ≡ true)
  unfolding choose_hub
  candidate i e =
      go (first (λ i. member i (externally_referenced g cycle d rs ++ preserved)) (keep (is_candidate g cycle d rs) cycle)) refl e
    where
      go : (o : Option ℕ) → first (λ i. member i (externally_referenced g cycle d rs ++ preserved)) (keep (is_candidate g cycle d rs) cycle)
          ≡ o
          → (elim o as (λ x. Option ℕ) [ some i ↦ some i | none ↦ first (λ i. true) (keep (is_candidate g cycle d rs) cycle) ]) ≡ some i
          → Memᴰ i cycle × (is_candidate g cycle d rs i ≡ true)
      go none k f = in_keep (is_candidate g cycle d rs) cycle (first_some (λ i. true) (keep (is_candidate g cycle d rs) cycle) f).0
      go (some j) k f =
          in_keep (is_candidate g cycle d rs) cycle
          (first_some (λ i. member i (externally_referenced g cycle d rs ++ preserved)) (keep (is_candidate g cycle d rs) cycle) (k ∙ f)).0

  chosen_rule : (i : ℕ) → choose_hub g cycle d rs preserved ≡ some i → rule_with_id rs i ≡ none → ⊥
  unfolding is_candidate
  chosen_rule i e k = go (rule_with_id rs i) k (candidate i e).1
    where
      go : (o : Option (RuleOf (Block (suc d)))) → o ≡ none
          → (elim o as (λ x. Bool) [ none ↦ false | some r ↦ any (λ a. not (corner_enters_cycle g cycle a.elements)) r.body ]) ≡ true
          → ⊥
      go none k t = true≢false (sym t)
      go (some r) k t = let z : ◌≡◌ {A = ℕ} 0 1 = cc in omega arith

  module _ (limits : Limits) where
    abbrev Decides : Decided (CyclePlan d) → Type 0
    Decides = Decision limits c d rs g preserved cycle

    module _ (hub : RuleOf (Block (suc d))) where
      in_satellites : (r : RuleOf (Block (suc d))) → Memᴰ r (satellites d rs cycle hub.id)
          → Satellite limits c d rs g preserved cycle hub r
      in_satellites r m =
          let (i, t) = in_keep (λ s. member s.id cycle && not (eqb s.id hub.id)) rs m in
          record {
            is_rule = i;
            in_cycle = first_so (member r.id cycle) _ t;
            not_hub = eqb-false r.id hub.id (not-true (eqb r.id hub.id) (second_so (member r.id cycle) _ t));
          }

      satellite_in : (r : RuleOf (Block (suc d))) → Satellite limits c d rs g preserved cycle hub r
          → Memᴰ r (satellites d rs cycle hub.id)
      satellite_in r x =
          keep_in (λ s. member s.id cycle && not (eqb s.id hub.id)) x.is_rule
          (and_from (member r.id cycle) _ x.in_cycle (ap not (ne_eqb r.id hub.id x.not_hub)))

      -- Behind the substitution.
      last_decides : {n : ℕ} {ps : List (Planned d)} → Leads limits c d rs g preserved cycle hub n ps
          → step d rs g cycle hub.id ps ≡ none
          → Decides (last_tests limits c g d rs preserved cycle hub.id (record { alternatives = ps; steps = n }))
      last_decides {n} {ps} l k =
          require_so Decides no_steps (not (eqb n 0)) _
          (λ t. unmoved l.begun (ap (step d rs g cycle hub.id) (no_path l.path (eqb-true n 0 (not-false (eqb n 0) t))) ∙ k))
          (λ t.
          let s : Settles limits c d rs g preserved cycle hub n ps =
          record { leads = l; some_steps = eqb-false n 0 (not-true (eqb n 0) t); no_work = k } in
          require_so Decides not_directly_rewritable (planned_hub_is_directly_rewritable c g cycle hub.id d ps) _ (unfit s) (plan s))

      tests_decide : Begun limits c d rs g preserved cycle hub → (o : Decided (Substituted d))
          → Loop d rs g cycle hub.id limits (substitution_budget d limits rs cycle) 0 (as_they_are hub.body) o
          → Decides (o and_then last_tests limits c g d rs preserved cycle hub.id)
      unfolding substitution_budget
      tests_decide b o (l_spent p k) = spent (record { begun = b; path = p; within = omega arith }) k
      tests_decide b o (l_stuck p l k w) = stuck (record { begun = b; path = p; within = omega arith }) l k w
      tests_decide b o (l_full p l k w) = full (record { begun = b; path = p; within = omega arith }) l k w
      tests_decide b o (l_done {n = n} {m = m} {qs = qs} p l e k) =
          let leads : Leads limits c d rs g preserved cycle hub n qs = record { begun = b; path = p; within = l } in
          last_decides {n = m} (subst (λ n. Leads limits c d rs g preserved cycle hub n qs) (omega arith) leads) k

      -- In front of it.
      inlinable_decides : Chosen limits c d rs g preserved cycle hub → hub.flags % 2 ≡ 0
          → Decides (inlinable limits c g d rs preserved cycle hub.id hub)
      inlinable_decides x k =
          require_so Decides satellite_not_inlinable (all (satellite_is_inlinable d) (satellites d rs cycle hub.id)) _
          (λ t.
          let (r, m, u) = not_all (satellite_is_inlinable d) (satellites d rs cycle hub.id) t in not_inlinable x k (in_satellites r m) u)
          (λ t.
          tests_decide (record { chosen = x; no_arguments = k; inlinable = λ r s. all_in (satellite_is_inlinable d) t (satellite_in r s) })
          (substitute d rs g cycle hub.id limits (substitution_budget d limits rs cycle) 0 (as_they_are hub.body))
          (looped d rs g cycle hub.id limits (substitution_budget d limits rs cycle) 0 (as_they_are hub.body)))

      rule_decides : Chosen limits c d rs g preserved cycle hub → Decides (with_rule limits c g d rs preserved cycle hub.id hub)
      rule_decides x =
          require_so Decides hub_with_arguments (eqb (hub.flags % 2) 0) _ (λ t. arguments x (eqb-false (hub.flags % 2) 0 t))
          (λ t. inlinable_decides x (eqb-true (hub.flags % 2) 0 t))

    pub decision : Decides (plan_cycle limits c g d rs preserved cycle)
    unfolding plan_cycle
    decision = choosing (choose_hub g cycle d rs preserved) refl
      where
        finding : (i : ℕ) → choose_hub g cycle d rs preserved ≡ some i → (o : Option (RuleOf (Block (suc d)))) → rule_with_id rs i ≡ o
            → Decides (found no_hub o and_then with_rule limits c g d rs preserved cycle i)
        finding i e none k = absurd (chosen_rule i e k)
        finding i e (some r) k =
            let (m, same) = rule_with_id_lem rs i k in
            subst (λ i. Decides (with_rule limits c g d rs preserved cycle i r)) same
            (rule_decides r (record { is_rule = m; is_chosen = e ∙ ap some (sym same) }))

        choosing : (o : Option ℕ) → choose_hub g cycle d rs preserved ≡ o
            → Decides (found no_hub o and_then with_hub limits c g d rs preserved cycle)
        choosing none e = none_chosen e
        choosing (some i) e = finding i e (rule_with_id rs i) refl
