-- A stage of a run, ended or stopped: what it starts from, and that it joins its hub.
use Rattle.std.specs.Prelude.{ℕ, ◌≡◌, refl, List, ◌∷◌, ◌++◌, length}
use Rattle.std.proofs.Common.{sym, ap, ap₂, ◌∙◌, subst, zero-add}
use Rattle.grammar.specs.Tree.{Rule, body_depth, Sheet}
use Rattle.grammar.specs.Corners.{Corners}
use Rattle.reference.specs.Analysis.{grammar_of, left_corner_cycles}
use Rattle.reference.specs.Substitute.{Limits, Decided}
use Rattle.reference.specs.Plan.{CyclePlan, plan_cycle}
use Rattle.reference.specs.Apply.{apply_plan}
use Rattle.reference.specs.Run.{inner_depth, Stage, find_plan, refusal_of, sheet_after, entries_of}
use Rattle.laws.specs.Demands.Shape.{decision_on, NextCycle, Joins}
use Rattle.laws.specs.Running.Leaves.{Told}
use Rattle.laws.specs.Running.Stages.{rules_after, sheet_after_lem, counters_after, sheet_counters, sheet_preserved, Stages, stages_behind}
use Rattle.laws.specs.Running.Stages.{stage_first, Happened, Chain, next, chain_leaves, chain_front, chain_behind, stages_chain}
use Rattle.laws.specs.Running.Later.{hub_in_cycle}
use Rattle.laws.specs.Running.Search.{First, plan_first}

module _ (limits : Limits) (corners : Corners) (s : Sheet) where
  -- The first cycle that is not declined, of the rules that stages left.
  pub next_of : (ts : List Stage) {rs : List Rule} → rs ≡ rules_after s.rules ts → {cycle : List ℕ} {o : Decided (CyclePlan inner_depth)}
      → First limits corners s.preserved (grammar_of body_depth rs) rs (left_corner_cycles corners (grammar_of body_depth rs) body_depth rs)
      cycle o
      → NextCycle limits corners (sheet_after s ts) cycle × (decision_on limits corners (sheet_after s ts) cycle ≡ o)
  next_of ts {rs} e {cycle} f =
      let rules : rs ≡ (sheet_after s ts).rules = e ∙ sym (sheet_after_lem s ts) in
      let plans : (x : List ℕ) → decision_on limits corners (sheet_after s ts) x
      ≡ plan_cycle limits corners (grammar_of body_depth rs) inner_depth rs s.preserved x =
      λ x. ap₂ (λ rs p. plan_cycle limits corners (grammar_of body_depth rs) inner_depth rs p x) (sym rules) (sheet_preserved s ts) in (
        record {
          in_front = f.in_front;
          behind = f.behind;
          is_cycle = f.whole ∙ ap (λ rs. left_corner_cycles corners (grammar_of body_depth rs) body_depth rs) rules;
          is_first = λ x m. let (c, k) = f.others x m in (c, plans x ∙ k);
        },
        plans cycle ∙ f.is_decided,
      )

  -- A stage joins its hub, from the sheet that the stages in front of it left.
  pub joins_of : (ts : List Stage) {t : Stage} → t.before ≡ rules_after s.rules ts → Told t.before
      → (h : Happened limits corners s.preserved t)
      → h.counters ≡ counters_after s.counters ts → Joins limits corners (sheet_after s ts) t
  joins_of ts {t} e k h c =
      let rules : t.before ≡ (sheet_after s ts).rules = e ∙ sym (sheet_after_lem s ts) in
      let (cycle, plan) = next_of ts e (plan_first limits corners s.preserved t.before h.found) in
      record {
        starts = rules;
        in_cycle = hub_in_cycle limits corners s.preserved k h;
        next = cycle;
        is_plan = plan;
        is_applied = h.left ∙ ap₂ (λ rs c. apply_plan inner_depth rs t.plan c) rules (c ∙ sym (sheet_counters s ts));
      }

module _ (limits : Limits) (corners : Corners) (s : Sheet) (told : Told s.rules) {ts : List Stage}
    (stages : Stages limits corners s.kind s.preserved s.rules s.counters 0 ts) where
  chain : Chain limits corners s.preserved s.rules ts
  chain = stages_chain limits corners s.kind s.preserved stages

  -- A stage, cut out of the run.
  pub record At (front : List Stage) (t : Stage) (us : List Stage) : Type 0 where
    pub starts : t.before ≡ rules_after s.rules front
    pub known : Told t.before
    pub happened : Happened limits corners s.preserved t
    pub handed : happened.counters ≡ counters_after s.counters front
    pub is_kept : refusal_of s.kind s.preserved t.after (length (entries_of front)) ≡ 0
    pub onward : Chain limits corners s.preserved t.after.node us

  pub stage_at : (front : List Stage) (t : Stage) (us : List Stage) → front ++ (t ∷ us) ≡ ts → At front t us
  stage_at front t us w =
      let x = stages_behind limits corners s.kind s.preserved front (t ∷ us)
      (subst (Stages limits corners s.kind s.preserved s.rules s.counters 0) (sym w) stages) in
      let c = subst (Chain limits corners s.preserved s.rules) (sym w) chain in
      let h = stage_first limits corners s.kind s.preserved x in
      let k = (chain_leaves limits corners s.preserved told (chain_front limits corners s.preserved front (t ∷ us) c)).told in
      let counters = counters_after s.counters front in
      record {
        starts = h.starts;
        known = subst Told (sym h.starts) k;
        happened = record {
          counters = counters;
          found = ap (find_plan limits corners s.preserved) h.starts ∙ h.found;
          left = h.left ∙ ap (λ rs. apply_plan inner_depth rs t.plan counters) (sym h.starts);
        };
        handed = refl;
        is_kept = subst (λ n. refusal_of s.kind s.preserved t.after n ≡ 0) (zero-add (length (entries_of front))) h.is_kept;
        onward = tail (chain_behind limits corners s.preserved front (t ∷ us) c);
      }
    where
      tail : {rs : List Rule} {t : Stage} {us : List Stage} → Chain limits corners s.preserved rs (t ∷ us)
          → Chain limits corners s.preserved t.after.node us
      tail (next e h c) = c

  pub stage_joins : (front : List Stage) (t : Stage) (us : List Stage) → front ++ (t ∷ us) ≡ ts
      → Joins limits corners (sheet_after s front) t
  stage_joins front t us w =
      let a = stage_at front t us w in
      joins_of limits corners s front a.starts a.known a.happened a.handed
