-- A run cut behind its stages: one stage more, and what the loop makes of the rest.
use Rattle.std.specs.Prelude.{ℕ, ◌+◌, ◌≡◌, refl, List, [], ◌∷◌, ◌++◌}
use Rattle.std.proofs.Math.Path.{ap, ap₂}
use Rattle.std.proofs.Common.{◌∙◌, subst, zero-add, suc-add}
use native.Mathlib.Omega.{arith}
use Rattle.std.proofs.Math.ListN.{length, length-append}
use Rattle.grammar.specs.Tree.{Rule, Counters}
use Rattle.grammar.specs.Corners.{Corners}
use Rattle.reference.specs.Substitute.{Limits}
use Rattle.reference.specs.Plan.{CyclePlan}
use Rattle.reference.specs.Apply.{apply_plan}
use Rattle.reference.specs.Run.{inner_depth, Stage, planned, Run, ended, stopped, preceded, find_plan, refusal_of, eliminate_in_unit}
use Rattle.reference.specs.Run.{entries_of}
use Rattle.laws.specs.Running.Stages.{rules_after, counters_after, Happened, Chain, last, next, Stages, s_end, s_plan, turn, applying}
use Rattle.laws.specs.Running.Stages.{turns_once}

-- The stage that a plan makes of rules and counters.
abbrev pub stage_by : List Rule → Counters → List ℕ → CyclePlan inner_depth → Stage
stage_by rs c cycle plan = record { before = rs; cycle = cycle; plan = plan; after = apply_plan inner_depth rs plan c }

-- One stage behind a chain.
pub chain_more : (limits : Limits) (corners : Corners) (preserved : List ℕ) {rs : List Rule} {ts : List Stage} {t : Stage}
    → Chain limits corners preserved rs ts → t.before ≡ rules_after rs ts → Happened limits corners preserved t
    → Chain limits corners preserved rs (ts ++ (t ∷ []))
chain_more limits corners preserved last e h = next e h last
chain_more limits corners preserved (next f k c) e h = next f k (chain_more limits corners preserved c e h)

module _ (limits : Limits) (corners : Corners) (kind : ℕ) (preserved : List ℕ) where
  -- One stage behind others.
  pub stages_more : {rs : List Rule} {c : Counters} {n : ℕ} {ts : List Stage} {cycle : List ℕ} {plan : CyclePlan inner_depth}
      → Stages limits corners kind preserved rs c n ts
      → find_plan limits corners preserved (rules_after rs ts) ≡ planned cycle plan
      → refusal_of kind preserved (apply_plan inner_depth (rules_after rs ts) plan (counters_after c ts)) (n + length (entries_of ts)) ≡ 0
      → Stages limits corners kind preserved rs c n (ts ++ (stage_by (rules_after rs ts) (counters_after c ts) cycle plan ∷ []))
  unfolding entries_of
  stages_more {plan = plan} (s_end {rs = rs} {c = c} {n = n}) f r =
      let none : n + 0 ≡ n = omega arith in
      s_plan f (subst (λ k. refusal_of kind preserved (apply_plan inner_depth rs plan c) k ≡ 0) none r) s_end
  stages_more {rs} {c} {n} {plan = plan} (s_plan {plan = first} {ts = ts} g q x) f r =
      let t = apply_plan inner_depth rs first c in
      let l = length-append t.entries (entries_of ts) in
      s_plan g q (stages_more x f
      (subst (λ k. refusal_of kind preserved (apply_plan inner_depth (rules_after t.node ts) plan (counters_after t.counters ts)) k ≡ 0)
      (omega arith) r))

  -- What comes behind stages.
  abbrev pub behind : List Stage → Run → Run
  behind ts (ended us) = ended (ts ++ us)
  behind ts (stopped us n) = stopped (ts ++ us) n

  behind_none : (r : Run) → r ≡ behind [] r
  behind_none (ended us) = refl
  behind_none (stopped us n) = refl

  preceded_behind : (t : Stage) (ts : List Stage) (r : Run) → preceded t (behind ts r) ≡ behind (t ∷ ts) r
  preceded_behind t ts (ended us) = refl
  preceded_behind t ts (stopped us n) = refl

  -- The loop, with its turns.
  abbrev pub on : ℕ → List Rule → Counters → ℕ → Run
  on = eliminate_in_unit limits corners kind preserved

  pub run_on : {rs : List Rule} {c : Counters} {n : ℕ} {ts : List Stage} → Stages limits corners kind preserved rs c n ts → (turns : ℕ)
      → on (length ts + turns) rs c n ≡ behind ts (on turns (rules_after rs ts) (counters_after c ts) (n + length (entries_of ts)))
  unfolding entries_of
  run_on (s_end {rs = rs} {c = c} {n = n}) turns =
      let none : n ≡ n + 0 = omega arith in
      ap₂ (λ k m. on k rs c m) (zero-add turns) none ∙ behind_none (on turns rs c (n + 0))
  run_on (s_plan {rs = rs} {c = c} {n = n} {cycle = cycle} {plan = plan} {ts = ts} f r x) turns =
      let after = apply_plan inner_depth rs plan c in
      let t = stage_by rs c cycle plan in
      let rest = on (length ts + turns) in
      let l = length-append after.entries (entries_of ts) in
      let count : n + length after.entries + length (entries_of ts) ≡ n + length (after.entries ++ entries_of ts) = omega arith in
      ap (λ k. on k rs c n) (suc-add (length ts) turns)
      ∙ turns_once limits corners kind preserved (length ts + turns) rs c n
      ∙ ap (turn limits corners kind preserved rest rs c n) f
      ∙ ap (applying limits corners kind preserved rest t n) r
      ∙ ap (preceded t) (run_on x turns)
      ∙ preceded_behind t ts (on turns (rules_after after.node ts) (counters_after after.counters ts)
      (n + length after.entries + length (entries_of ts)))
      ∙ ap (λ m. behind (t ∷ ts) (on turns (rules_after after.node ts) (counters_after after.counters ts) m)) count
