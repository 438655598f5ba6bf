-- A run on its way: the stages so far, and the sheet that they leave. What is known there, what of the plan found next, and what
-- the whole run is if it ends there. For the loop over plans.
use Prim.Native.Nat.{ℕ, suc, ◌+◌, ◌-◌, ◌*◌, ◌≤◌, ◌<◌, ◌^◌}
use Rattle.std.specs.Prelude.{◌≡◌, refl, List, [], ◌∷◌, ◌++◌, true, false, leb}
use Rattle.std.proofs.Math.Path.{sym, ap, ap₂, subst}
use Rattle.std.proofs.Common.{◌∙◌, subst₂, append-nil, zero-add, le_trans, mul-le-mul, length-append}
use native.Mathlib.Omega.{arith}
use Rattle.std.proofs.Math.ListN.{length}
use Rattle.std.specs.Cmp.{first_so}
use borrow.Author.Tests.{leb-true, eq-eqb}
use Rattle.grammar.specs.Form.{newest}
use Rattle.grammar.specs.Tree.{body_depth, Sheet}
use Rattle.grammar.specs.Encode.{encode}
use Rattle.grammar.specs.Ids.{rule_ids, rule_names}
use Rattle.grammar.specs.Lists.{distinct, member}
use Rattle.grammar.specs.Valid.{rule_limit, valid, fits, fits_in}
use Rattle.grammar.specs.Corners.{Corners}
use Rattle.grammar.specs.Laws.Whole.{valid_parts}
use Rattle.grammar.specs.Numbers.{most_words, word_end, parser, plan_too_large}
use Rattle.reference.specs.Numbers.{most_entries}
use Rattle.reference.specs.Analysis.{grammar_of}
use Rattle.reference.specs.Substitute.{Limits}
use Rattle.reference.specs.Plan.{CyclePlan}
use Rattle.reference.specs.Apply.{apply_plan}
use Rattle.reference.specs.Run.{inner_depth, Stage, Search, no_plan, planned, too_large, Run, ended, stopped, find_plan, refusal_of}
use Rattle.reference.specs.Run.{sheet_with}
use Rattle.reference.specs.Run.{eliminate_mutual_left_recursion, sheet_after, entries_of, steps_of}
use Rattle.laws.specs.Demands.Answers.{ReadsBack}
use Rattle.laws.specs.Demands.Facts.{FactsStay}
use Rattle.laws.specs.Planning.Plans.{plan_made, hub_stays_lem}
use Rattle.laws.specs.Running.Leaves.{Told}
use Rattle.laws.specs.Running.Search.{plan_first}
use Rattle.laws.specs.Running.Stages.{rules_after, sheet_after_lem, counters_after, sheet_counters, sheet_preserved, sheet_none, sheet_last}
use Rattle.laws.specs.Running.Stages.{valid_told, Stages, s_end, stages_chain, Rest, turn, applying, turns_once}
use Rattle.laws.specs.Running.Once.{chain_few}
use Rattle.laws.specs.Running.Preserved.{same_kind}
use Rattle.laws.specs.Running.Facts.{plan_facts}
use Rattle.laws.specs.Running.Onward.{stage_by, chain_more, stages_more, behind, on, run_on}
use Rattle.laws.specs.Running.Budget.{most_bodies, most_steps, plan_steps, stages_steps}
use Rattle.laws.specs.Validity.Result.{Good, good_of, good_sound, good_reads, stages_good, stages_short}

-- The stage that a plan makes of a sheet.
abbrev pub stage_from : Sheet → List ℕ → CyclePlan inner_depth → Stage
stage_from now = stage_by now.rules now.counters

module _ (limits : Limits) (corners : Corners) (s : Sheet) where
  -- The sheet handed in is a parser's, valid and fits; each plan so far was found, applied and not refused; and what they left.
  pub record Midway (stages : List Stage) (now : Sheet) : Type 0 where
    pub is_valid : valid s ≡ true
    pub is_fitting : fits s ≡ true
    pub is_parser : s.kind ≡ parser
    pub happened : Stages limits corners s.kind s.preserved s.rules s.counters 0 stages
    pub is_now : sheet_after s stages ≡ now

  pub midway_start : valid s ≡ true → fits s ≡ true → s.kind ≡ parser → Midway [] s
  midway_start v f k = record { is_valid = v; is_fitting = f; is_parser = k; happened = s_end; is_now = sheet_none s }

  -- What is known there.
  pub record SoFar (stages : List Stage) (now : Sheet) : Type 0 where
    pub reads_back : ReadsBack now
    pub ids : distinct (rule_ids now.rules) ≡ true
    pub names : distinct (rule_names now.rules) ≡ true
    pub rules : length now.rules ≤ rule_limit
    pub words : length (encode now) ≤ most_words
    pub kind : now.kind ≡ s.kind
    pub preserved : now.preserved ≡ s.preserved
    pub plans : length stages ≤ length s.rules
    pub entries : length (entries_of stages) ≤ most_entries
    pub steps : steps_of stages ≤ length stages * most_steps limits

  -- What is known of the plan found next, whether or not a refusal follows.
  pub record NextPlan (stages : List Stage) (now : Sheet) (cycle : List ℕ) (plan : CyclePlan inner_depth) : Type 0 where
    pub room : length stages < length s.rules
    pub steps : plan.steps ≤ most_steps limits
    pub hub_stays : member plan.hub plan.removable ≡ false
    pub facts : FactsStay body_depth now.rules (plan.hub ∷ []) (stage_from now cycle plan).after.node

  module _ {stages : List Stage} {now : Sheet} (m : Midway stages now) where
    rules_now : rules_after s.rules stages ≡ now.rules
    rules_now = sym (sheet_after_lem s stages) ∙ ap (λ t. t.rules) m.is_now

    counters_now : counters_after s.counters stages ≡ now.counters
    counters_now = sym (sheet_counters s stages) ∙ ap (λ t. t.counters) m.is_now

    preserved_now : now.preserved ≡ s.preserved
    preserved_now = sym (ap (λ t. t.preserved) m.is_now) ∙ sheet_preserved s stages

    told : Told s.rules
    told = valid_told s m.is_valid

    pub midway_so_far : SoFar stages now
    unfolding fits_in
    midway_so_far =
        let good = good_of s m.is_valid m.is_fitting in
        let g = subst Good m.is_now (stages_good limits corners s.kind s.preserved m.happened good) in
        let sound = good_sound g in
        let short = stages_short limits corners s.kind s.preserved m.happened (omega arith) in
        record {
          reads_back = good_reads g;
          ids = sound.ids;
          names = sound.names;
          rules = sound.few;
          words = leb-true (length (encode now)) most_words (first_so (leb (length (encode now)) most_words) _ g.fitting);
          kind = sym (ap (λ t. t.kind) m.is_now) ∙ same_kind s stages;
          preserved = preserved_now;
          plans = chain_few limits corners s.preserved told (stages_chain limits corners s.kind s.preserved m.happened);
          entries = omega arith;
          steps = stages_steps limits corners s.kind s.preserved m.happened good;
        }

    -- A plan that is found there.
    module _ {cycle : List ℕ} {plan : CyclePlan inner_depth}
        (f : find_plan limits corners s.preserved now.rules ≡ planned cycle plan) where
      abbrev stage : Stage
      stage = stage_from now cycle plan

      pub midway_next : NextPlan stages now cycle plan
      midway_next =
          let known = midway_so_far in
          let first = plan_first limits corners s.preserved now.rules f in
          let chain =
          chain_more limits corners s.preserved {t = stage} (stages_chain limits corners s.kind s.preserved m.happened)
          (sym rules_now) (record { counters = now.counters; found = f; left = refl }) in
          let few = chain_few limits corners s.preserved told chain in
          let l = length-append stages (stage ∷ []) in
          record {
            room = omega arith;
            steps = plan_steps limits corners now known.reads_back.is_fitting
                (ap (λ p. find_plan limits corners p now.rules) preserved_now ∙ f);
            hub_stays =
                hub_stays_lem corners inner_depth now.rules (grammar_of body_depth now.rules) s.preserved cycle
                (plan_made corners inner_depth now.rules (grammar_of body_depth now.rules) s.preserved cycle limits plan
                first.is_decided);
            facts = plan_facts inner_depth now.rules (record { ids = known.ids; names = known.names }) limits corners s.preserved
                cycle plan now.counters first.is_decided;
          }

      -- It was not refused.
      pub midway_more : refusal_of s.kind s.preserved stage.after (length (entries_of stages)) ≡ 0
          → Midway (stages ++ (stage ∷ [])) (sheet_with s.kind s.preserved stage.after)
      midway_more r =
          let more =
          stages_more limits corners s.kind s.preserved m.happened
          (ap (find_plan limits corners s.preserved) rules_now ∙ f)
          (ap₂ (refusal_of s.kind s.preserved) (ap₂ (λ rs c. apply_plan inner_depth rs plan c) rules_now counters_now)
          (zero-add (length (entries_of stages))) ∙ r) in
          record {
            is_valid = m.is_valid;
            is_fitting = m.is_fitting;
            is_parser = m.is_parser;
            happened =
                subst₂ (λ rs c. Stages limits corners s.kind s.preserved s.rules s.counters 0
                (stages ++ (stage_by rs c cycle plan ∷ []))) rules_now counters_now more;
            is_now = sheet_last s stages stage;
          }

    -- The loop on the sheet that the stages so far left, in the turns that are left; and the whole run if its search ends so.
    abbrev rest : Rest limits corners s.kind s.preserved
    rest = on limits corners s.kind s.preserved (length s.rules - length stages)

    abbrev onward : Search → Run
    onward o =
        behind limits corners s.kind s.preserved stages
        (turn limits corners s.kind s.preserved rest now.rules now.counters (length (entries_of stages)) o)

    whole : eliminate_mutual_left_recursion limits corners s ≡ onward (find_plan limits corners s.preserved now.rules)
    unfolding eliminate_mutual_left_recursion
    whole =
        let few = midway_so_far.plans in
        let left = length s.rules - length stages in
        let turns : suc (length s.rules) ≡ length stages + suc left = omega arith in
        let loop = on limits corners s.kind s.preserved in
        let recorded = length (entries_of stages) in
        rw (eq-eqb s.kind parser m.is_parser, eliminate_mutual_left_recursion)
        (ap (λ n. loop n s.rules s.counters 0) turns
        ∙ run_on limits corners s.kind s.preserved m.happened (suc left)
        ∙ ap (behind limits corners s.kind s.preserved stages)
        (ap (loop (suc left) (rules_after s.rules stages) (counters_after s.counters stages)) (zero-add recorded)
        ∙ ap₂ (λ rs c. loop (suc left) rs c recorded) rules_now counters_now
        ∙ turns_once limits corners s.kind s.preserved left now.rules now.counters recorded))

    -- If it ends there: no cycle has a plan; or a planned list is too large; or the plan is refused.
    pub midway_ended : find_plan limits corners s.preserved now.rules ≡ no_plan
        → eliminate_mutual_left_recursion limits corners s ≡ ended stages
    midway_ended f = whole ∙ ap onward f ∙ ap ended (append-nil stages)

    pub midway_large : find_plan limits corners s.preserved now.rules ≡ too_large
        → eliminate_mutual_left_recursion limits corners s ≡ stopped stages plan_too_large
    midway_large f = whole ∙ ap onward f ∙ ap (λ ts. stopped ts plan_too_large) (append-nil stages)

    pub midway_refused : {cycle : List ℕ} {plan : CyclePlan inner_depth} {n : ℕ}
        → find_plan limits corners s.preserved now.rules ≡ planned cycle plan
        → refusal_of s.kind s.preserved (stage_from now cycle plan).after (length (entries_of stages)) ≡ suc n
        → eliminate_mutual_left_recursion limits corners s ≡ stopped stages (suc n)
    midway_refused {cycle} {plan} {n} f r =
        whole ∙ ap onward f
        ∙ ap (λ k. behind limits corners s.kind s.preserved stages
        (applying limits corners s.kind s.preserved rest (stage_from now cycle plan) (length (entries_of stages)) k)) r
        ∙ ap (λ ts. stopped ts (suc n)) (append-nil stages)

    -- The steps fit 32 bits, unless the least budget is large; the standard one is 64.
    pub steps_fit : limits.budget_floor ≤ 2 ^ 24 → steps_of stages < word_end
    steps_fit l =
        let known = midway_so_far in
        let parts = leb-true (length s.rules) rule_limit (valid_parts newest s m.is_valid).few in
        let plans : length stages ≤ rule_limit = le_trans known.plans parts in
        let each : most_steps limits ≤ most_bodies * most_bodies + 2 ^ 24 = omega arith in
        let all = le_trans known.steps (mul-le-mul plans each) in
        omega arith
