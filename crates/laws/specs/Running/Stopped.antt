-- A run that is stopped: its stages, and what stops it behind them.
use Prim.Native.Nat.{ℕ, zero, suc, ◌+◌}
use Rattle.std.proofs.Math.Path.{◌≡◌, refl, subst}
use Rattle.std.proofs.Common.{sym, ◌∙◌, arith, eqb-true}
use mathlib.Core.List.{List, [], ◌∷◌}
use Rattle.std.specs.Prelude.{length, eqb}
use Rattle.std.proofs.Math.ListN.{length-append}
use Rattle.grammar.specs.Tree.{Rule, Counters, Sheet}
use Rattle.grammar.specs.Corners.{Corners}
use Rattle.grammar.specs.Laws.Parse.{either}
use Rattle.grammar.specs.Numbers.{parser}
use Rattle.reference.specs.Substitute.{Limits}
use Rattle.reference.specs.Plan.{CyclePlan}
use Rattle.reference.specs.Apply.{apply_plan}
use Rattle.reference.specs.Run.{inner_depth, Stage, Search, no_plan, planned, too_large, Run, ended, stopped, preceded, find_plan}
use Rattle.reference.specs.Run.{refusal_of}
use Rattle.reference.specs.Run.{eliminate_in_unit, eliminate_mutual_left_recursion, entries_of}
use Rattle.laws.specs.Running.Stages.{rules_after, counters_after, Stages, s_end, s_plan, Rest, applying, turn, turns_once}

module _ (limits : Limits) (corners : Corners) (kind : ℕ) (preserved : List ℕ) where
  -- What stops it: a planned list too large, or a plan that is refused when it is applied.
  pub data StopsAt (rs : List Rule) (c : Counters) (recorded : ℕ) : ℕ → Type 0 where
    by_search : find_plan limits corners preserved rs ≡ too_large → StopsAt rs c recorded 7
    by_plan : {cycle : List ℕ} {plan : CyclePlan inner_depth} {n : ℕ} → find_plan limits corners preserved rs ≡ planned cycle plan
        → refusal_of kind preserved (apply_plan inner_depth rs plan c) recorded ≡ suc n → StopsAt rs c recorded (suc n)

  pub record Stopped (rs : List Rule) (c : Counters) (recorded : ℕ) (ts : List Stage) (number : ℕ) : Type 0 where
    pub stages : Stages limits corners kind preserved rs c recorded ts
    pub reason : StopsAt (rules_after rs ts) (counters_after c ts) (recorded + length (entries_of ts)) number

  -- At once.
  stops_here : (rs : List Rule) (c : Counters) (recorded : ℕ) {n m : ℕ} {ts : List Stage} → stopped [] n ≡ stopped ts m
      → StopsAt rs c recorded n
      → Stopped rs c recorded ts m
  unfolding entries_of
  stops_here rs c recorded {n} {m} {ts} e x =
      let none : [] ≡ ts = cc in
      let same : n ≡ m = cc in
      subst (λ ts. Stopped rs c recorded ts m) none
      (record { stages = s_end; reason = subst (λ k. StopsAt rs c k m) (omega arith) (subst (StopsAt rs c recorded) same x) })

  preceded_stopped : (t : Stage) (r : Run) {ts : List Stage} {n : ℕ} → preceded t r ≡ stopped ts n
      → (us : List Stage) × (r ≡ stopped us n) × (t ∷ us ≡ ts)
  preceded_stopped t (ended us) e = absurd (let z : ◌≡◌ {A = ℕ} 0 1 = cc in omega arith)
  preceded_stopped t (stopped us m) e = (us, cc, cc)

  -- Behind one stage more.
  stops_later : (rs : List Rule) (c : Counters) (recorded : ℕ) {cycle : List ℕ} {plan : CyclePlan inner_depth} {us : List Stage} {m : ℕ}
      → find_plan limits corners preserved rs ≡ planned cycle plan
      → refusal_of kind preserved (apply_plan inner_depth rs plan c) recorded ≡ 0
      → Stopped (apply_plan inner_depth rs plan c).node (apply_plan inner_depth rs plan c).counters
      (recorded + length (apply_plan inner_depth rs plan c).entries) us m
      → Stopped rs c recorded (record { before = rs; cycle = cycle; plan = plan; after = apply_plan inner_depth rs plan c } ∷ us) m
  unfolding entries_of
  stops_later rs c recorded {plan = plan} {us = us} {m = m} f r x =
      let after = apply_plan inner_depth rs plan c in
      let l = length-append after.entries (entries_of us) in
      record {
        stages = s_plan f r x.stages;
        reason = subst (λ n. StopsAt (rules_after after.node us) (counters_after after.counters us) n m) (omega arith) x.reason;
      }

  run_stops : (turns : ℕ) (rs : List Rule) (c : Counters) (recorded : ℕ) (ts : List Stage) (m : ℕ)
      → eliminate_in_unit limits corners kind preserved turns rs c recorded ≡ stopped ts m → Stopped rs c recorded ts m
  unfolding eliminate_in_unit
  run_stops zero rs c recorded ts m e = absurd (let z : ◌≡◌ {A = ℕ} 0 1 = cc in omega arith)
  run_stops (suc turns) rs c recorded ts m e =
      go (find_plan limits corners preserved rs) refl (sym (turns_once limits corners kind preserved turns rs c recorded) ∙ e)
      (run_stops turns)
    where
      rest : Rest limits corners kind preserved
      rest = eliminate_in_unit limits corners kind preserved turns

      applied : {cycle : List ℕ} {plan : CyclePlan inner_depth} → find_plan limits corners preserved rs ≡ planned cycle plan
          → (n : ℕ) → refusal_of kind preserved (apply_plan inner_depth rs plan c) recorded ≡ n
          → applying limits corners kind preserved rest (record {
            before = rs;
            cycle = cycle;
            plan = plan;
            after = apply_plan inner_depth rs plan c;
          }) recorded n ≡ stopped ts m
          → ((rs : List Rule) (c : Counters) (recorded : ℕ) (us : List Stage) (m : ℕ) → rest rs c recorded ≡ stopped us m
          → Stopped rs c recorded us m)
          → Stopped rs c recorded ts m
      applied f (suc n) r k ih = stops_here rs c recorded k (by_plan f r)
      applied {cycle} {plan} f zero r k ih =
          let after = apply_plan inner_depth rs plan c in
          let t : Stage = record { before = rs; cycle = cycle; plan = plan; after = after } in
          let (us, g, w) = preceded_stopped t (rest after.node after.counters (recorded + length after.entries)) k in
          subst (λ ts. Stopped rs c recorded ts m) w
          (stops_later rs c recorded f r (ih after.node after.counters (recorded + length after.entries) us m g))

      go : (o : Search) → find_plan limits corners preserved rs ≡ o → turn limits corners kind preserved rest rs c recorded o ≡ stopped ts m
          → ((rs : List Rule) (c : Counters) (recorded : ℕ) (us : List Stage) (m : ℕ) → rest rs c recorded ≡ stopped us m
          → Stopped rs c recorded us m)
          → Stopped rs c recorded ts m
      go no_plan f k ih = absurd (let z : ◌≡◌ {A = ℕ} 0 1 = cc in omega arith)
      go too_large f k ih = stops_here rs c recorded k (by_search f)
      go (planned cycle plan) f k ih = applied f (refusal_of kind preserved (apply_plan inner_depth rs plan c) recorded) refl k ih

-- Of a whole sheet: only a parser unit is stopped.
pub sheet_stops : (limits : Limits) (corners : Corners) (s : Sheet) (ts : List Stage) (n : ℕ)
    → eliminate_mutual_left_recursion limits corners s ≡ stopped ts n
    → (s.kind ≡ parser) × Stopped limits corners s.kind s.preserved s.rules s.counters 0 ts n
unfolding eliminate_mutual_left_recursion
sheet_stops limits corners s ts n e =
    either (eqb s.kind parser)
    (λ t. (
      eqb-true s.kind parser t,
      run_stops limits corners s.kind s.preserved (suc (length s.rules)) s.rules s.counters 0 ts n
          (rw (t, eliminate_mutual_left_recursion) at e),
    ))
    (λ f. let g : ended [] ≡ stopped ts n = rw (f, eliminate_mutual_left_recursion) at e in absurd
    (let z : ◌≡◌ {A = ℕ} 0 1 = cc in omega arith))
