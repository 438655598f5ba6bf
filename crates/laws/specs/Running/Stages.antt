-- The run as a chain of stages: each found in the grammar that the one before left.
use Prim.Native.Nat.{ℕ, zero, suc, ◌+◌}
use Rattle.std.proofs.Math.Path.{◌≡◌, refl, subst}
use Rattle.std.proofs.Common.{sym, ap, ◌∙◌, arith}
use Rattle.std.specs.Prelude.{◌⊎◌, true, eqb}
use Rattle.std.proofs.Math.Logic.{inl, inr, ⊎_map}
use mathlib.Core.List.Memᴰ
use mathlib.Core.List.{List, [], ◌∷◌, ◌++◌, append-nil, append_assoc, Memᴰ}
use Rattle.std.proofs.Math.ListN.{length, length-append}
use Rattle.std.proofs.lemmas.Bool.{eqb-false}
use Rattle.std.specs.Cmp.{first_so, second_so}
use Rattle.grammar.specs.Form.{newest}
use Rattle.grammar.specs.Tree.{Rule, body_depth, Counters, Sheet}
use Rattle.grammar.specs.Ids.{rule_ids, rule_names, is_distinct}
use Rattle.grammar.specs.Lists.{distinct, total}
use Rattle.grammar.specs.Valid.{valid}
use Rattle.grammar.specs.Corners.{Corners}
use Rattle.grammar.specs.Laws.Parse.{either}
use Rattle.grammar.specs.Laws.Whole.{valid_parts}
use Rattle.grammar.specs.Numbers.{parser, plan_too_large}
use Rattle.reference.specs.Analysis.{grammar_of, left_corner_cycles}
use Rattle.reference.specs.Substitute.{Limits}
use Rattle.reference.specs.Plan.{CyclePlan}
use Rattle.reference.specs.Apply.{apply_plan}
use Rattle.reference.specs.Run.{inner_depth, Stage, Search, no_plan, planned, too_large, Run, ended, stopped, preceded, find_plan}
use Rattle.reference.specs.Run.{sheet_with}
use Rattle.reference.specs.Run.{refusal_of, eliminate_in_unit, eliminate_mutual_left_recursion, sheet_after, entries_of, steps_of}
use Rattle.laws.specs.Demands.Run.{EveryCycleDeclined}
use Rattle.laws.specs.Planning.Substituted.{Known}
use Rattle.laws.specs.Planning.Plans.{Made, plan_made}
use Rattle.laws.specs.Running.Search.{search_found, plan_first}
use Rattle.laws.specs.Running.Leaves.{Told, known_by, Leaves, leaves_refl, leaves_trans, plan_leaves}

-- The rules that stages leave.
abbrev pub rules_after : List Rule → List Stage → List Rule
rules_after rs [] = rs
rules_after rs (t ∷ ts) = rules_after t.after.node ts

pub sheet_after_lem : (s : Sheet) (ts : List Stage) → (sheet_after s ts).rules ≡ rules_after s.rules ts
unfolding sheet_after
sheet_after_lem s [] = refl
sheet_after_lem s (t ∷ ts) = sheet_after_lem (sheet_with s.kind s.preserved t.after) ts

-- The counters that stages leave.
abbrev pub counters_after : Counters → List Stage → Counters
counters_after c [] = c
counters_after c (t ∷ ts) = counters_after t.after.counters ts

pub sheet_counters : (s : Sheet) (ts : List Stage) → (sheet_after s ts).counters ≡ counters_after s.counters ts
unfolding sheet_after
sheet_counters s [] = refl
sheet_counters s (t ∷ ts) = sheet_counters (sheet_with s.kind s.preserved t.after) ts

pub sheet_preserved : (s : Sheet) (ts : List Stage) → (sheet_after s ts).preserved ≡ s.preserved
unfolding sheet_after
sheet_preserved s [] = refl
sheet_preserved s (t ∷ ts) = sheet_preserved (sheet_with s.kind s.preserved t.after) ts

pub rules_append : (rs : List Rule) (ts us : List Stage) → rules_after rs (ts ++ us) ≡ rules_after (rules_after rs ts) us
rules_append rs [] us = refl
rules_append rs (t ∷ ts) us = rules_append t.after.node ts us

-- What one stage more leaves: its sheet, its entries and its steps.
pub sheet_none : (s : Sheet) → sheet_after s [] ≡ s
unfolding sheet_after
sheet_none s = refl

pub sheet_last : (s : Sheet) (front : List Stage) (t : Stage)
    → sheet_after s (front ++ (t ∷ [])) ≡ sheet_with s.kind s.preserved t.after
unfolding sheet_after
sheet_last s [] t = refl
sheet_last s (u ∷ front) t = sheet_last (sheet_with s.kind s.preserved u.after) front t

pub entries_last : (front : List Stage) (t : Stage) → entries_of (front ++ (t ∷ [])) ≡ entries_of front ++ t.after.entries
unfolding entries_of
entries_last [] t = append-nil t.after.entries
entries_last (u ∷ front) t =
    ap (λ l. u.after.entries ++ l) (entries_last front t) ∙ sym (append_assoc u.after.entries (entries_of front) t.after.entries)

pub entries_count : (front : List Stage) (t : Stage)
    → length (entries_of (front ++ (t ∷ []))) ≡ length (entries_of front) + length t.after.entries
entries_count front t = ap length (entries_last front t) ∙ length-append (entries_of front) t.after.entries

pub steps_last : (front : List Stage) (t : Stage) → steps_of (front ++ (t ∷ [])) ≡ steps_of front + t.plan.steps
unfolding steps_of total
steps_last [] t = omega arith
steps_last (u ∷ front) t = let h = steps_last front t in omega arith

-- What a valid sheet is asked for here: its rules share no id and no name.
pub distinct_told : (rs : List Rule) → is_distinct rs ≡ true → Told rs
unfolding is_distinct
distinct_told rs t =
    record {
      ids = first_so (distinct (rule_ids rs)) _ t;
      names = first_so (distinct (rule_names rs)) _ (second_so (distinct (rule_ids rs)) _ t);
    }

pub valid_told : (s : Sheet) → valid s ≡ true → Told s.rules
valid_told s v = distinct_told s.rules (valid_parts newest s v).distinct

-- A grammar with its names and nullable rules.
pub known : (rs : List Rule) → Told rs → Known body_depth rs (grammar_of body_depth rs)
known rs t = known_by body_depth rs t

module _ (limits : Limits) (corners : Corners) (preserved : List ℕ) where
  -- A stage of the run: the plan was found in the grammar before, and applied.
  pub record Happened (t : Stage) : Type 0 where
    pub counters : Counters
    pub found : find_plan limits corners preserved t.before ≡ planned t.cycle t.plan
    pub left : t.after ≡ apply_plan inner_depth t.before t.plan counters

  pub data Chain : List Rule → List Stage → Type 0 where
    last : {rs : List Rule} → Chain rs []
    next : {rs : List Rule} {t : Stage} {ts : List Stage} → t.before ≡ rs → Happened t → Chain t.after.node ts → Chain rs (t ∷ ts)

  -- The plan of a stage was made for a cycle of its grammar.
  pub stage_cycle : {t : Stage} → Happened t
      → Memᴰ t.cycle (left_corner_cycles corners (grammar_of body_depth t.before) body_depth t.before)
  stage_cycle {t} h =
      let f = plan_first limits corners preserved t.before h.found in
      subst (Memᴰ t.cycle) f.whole (Memᴰ.append_right f.in_front (Memᴰ.head refl))

  pub stage_made : {t : Stage} → Happened t
      → Made corners inner_depth t.before (grammar_of body_depth t.before) preserved t.cycle t.plan
  stage_made {t} h =
      plan_made corners inner_depth t.before (grammar_of body_depth t.before) preserved t.cycle limits t.plan
      (plan_first limits corners preserved t.before h.found).is_decided

  pub stage_leaves : {t : Stage} → Told t.before → Happened t → Leaves body_depth t.before t.after.node
  stage_leaves {t} k h =
      subst (λ f. Leaves body_depth t.before f.node) (sym h.left) (plan_leaves (known t.before k) (stage_made h) h.counters)

  pub chain_leaves : {rs : List Rule} {ts : List Stage} → Told rs → Chain rs ts → Leaves body_depth rs (rules_after rs ts)
  chain_leaves {rs} k last = leaves_refl body_depth rs k
  chain_leaves {rs} k (next {t = t} {ts = ts} e h c) =
      let a = subst (λ r. Leaves body_depth r t.after.node) e (stage_leaves (subst Told (sym e) k) h) in
      leaves_trans body_depth k a (chain_leaves a.told c)

  -- A chain may be cut anywhere.
  pub chain_front : {rs : List Rule} (ts us : List Stage) → Chain rs (ts ++ us) → Chain rs ts
  chain_front [] us c = last
  chain_front (t ∷ ts) us (next e h c) = next e h (chain_front ts us c)

  pub chain_behind : {rs : List Rule} (ts us : List Stage) → Chain rs (ts ++ us) → Chain (rules_after rs ts) us
  chain_behind [] us c = c
  chain_behind (t ∷ ts) us (next e h c) = chain_behind ts us c

-- A run that is not refused.
module _ (limits : Limits) (corners : Corners) (kind : ℕ) (preserved : List ℕ) where
  -- Its stages, one after the other: each plan was found in the grammar at hand, applied, and met no refusal.
  pub data Stages : List Rule → Counters → ℕ → List Stage → Type 0 where
    s_end : {rs : List Rule} {c : Counters} {n : ℕ} → Stages rs c n []
    s_plan : {rs : List Rule} {c : Counters} {n : ℕ} {cycle : List ℕ} {plan : CyclePlan inner_depth} {ts : List Stage}
        → find_plan limits corners preserved rs ≡ planned cycle plan → refusal_of kind preserved (apply_plan inner_depth rs plan c) n ≡ 0
        → Stages (apply_plan inner_depth rs plan c).node (apply_plan inner_depth rs plan c).counters
        (n + length (apply_plan inner_depth rs plan c).entries) ts
        → Stages rs c n (record { before = rs; cycle = cycle; plan = plan; after = apply_plan inner_depth rs plan c } ∷ ts)

  pub stages_chain : {rs : List Rule} {c : Counters} {n : ℕ} {ts : List Stage} → Stages rs c n ts → Chain limits corners preserved rs ts
  stages_chain s_end = last
  stages_chain (s_plan {c = c} f r x) = next refl (record { counters = c; found = f; left = refl }) (stages_chain x)

  -- It may be cut anywhere; a stage starts from the rules, the counters and the number of entries that those in front of it left.
  pub stages_behind : {rs : List Rule} {c : Counters} {n : ℕ} (ts us : List Stage) → Stages rs c n (ts ++ us)
      → Stages (rules_after rs ts) (counters_after c ts) (n + length (entries_of ts)) us
  unfolding entries_of
  stages_behind {rs} {c} {n} [] us x = subst (λ m. Stages rs c m us) (omega arith) x
  stages_behind {rs} {c} {n} (t ∷ ts) us x =
      let l = length-append t.after.entries (entries_of ts) in
      subst (λ m. Stages (rules_after rs (t ∷ ts)) (counters_after c (t ∷ ts)) m us) (omega arith)
      (stages_behind {rs = t.after.node} {c = t.after.counters} {n = n + length t.after.entries} ts us (behind x))
    where
      behind : {rs : List Rule} {c : Counters} {n : ℕ} {t : Stage} → Stages rs c n (t ∷ (ts ++ us))
          → Stages t.after.node t.after.counters (n + length t.after.entries) (ts ++ us)
      behind (s_plan f r x) = x

  pub record FirstOf (rs : List Rule) (c : Counters) (n : ℕ) (t : Stage) : Type 0 where
    pub starts : t.before ≡ rs
    pub found : find_plan limits corners preserved rs ≡ planned t.cycle t.plan
    pub left : t.after ≡ apply_plan inner_depth rs t.plan c
    pub is_kept : refusal_of kind preserved t.after n ≡ 0

  pub stage_first : {rs : List Rule} {c : Counters} {n : ℕ} {t : Stage} {us : List Stage} → Stages rs c n (t ∷ us) → FirstOf rs c n t
  stage_first (s_plan f r x) = record { starts = refl; found = f; left = refl; is_kept = r }

  -- How it ends.
  pub record Ends (turns : ℕ) (rs : List Rule) (c : Counters) (recorded : ℕ) (ts : List Stage) : Type 0 where
    pub stages : Stages rs c recorded ts
    pub why : (find_plan limits corners preserved (rules_after rs ts) ≡ no_plan) ⊎ (length ts ≡ turns)

  ended_same : {ts us : List Stage} → ended ts ≡ ended us → ts ≡ us
  ended_same e = cc

  preceded_ended : (t : Stage) (r : Run) {ts : List Stage} → preceded t r ≡ ended ts → (us : List Stage) × (r ≡ ended us) × (t ∷ us ≡ ts)
  preceded_ended t (ended us) e = (us, refl, ended_same e)
  preceded_ended t (stopped us n) e = absurd (let z : ◌≡◌ {A = ℕ} 0 1 = cc in omega arith)

  -- One turn of the loop, given what the search found and the turns that follow.
  abbrev pub Rest : Type 0
  Rest = List Rule → Counters → ℕ → Run

  abbrev pub applying : Rest → Stage → ℕ → ℕ → Run
  applying rest t recorded n =
      elim n [
        | suc n ↦ stopped [] (suc n)
        | zero ↦ preceded t (rest t.after.node t.after.counters (recorded + length t.after.entries))
      ]

  abbrev pub turn : Rest → List Rule → Counters → ℕ → Search → Run
  turn rest rs c recorded o =
      elim o [
        | no_plan ↦ ended []
        | too_large ↦ stopped [] plan_too_large
        | planned cycle plan ↦
            let after = apply_plan inner_depth rs plan c in
            applying rest (record { before = rs; cycle = cycle; plan = plan; after = after }) recorded
            (refusal_of kind preserved after recorded)
      ]

  pub turns_once : (turns : ℕ) (rs : List Rule) (c : Counters) (recorded : ℕ)
      → eliminate_in_unit limits corners kind preserved (suc turns) rs c recorded
      ≡ turn (eliminate_in_unit limits corners kind preserved turns) rs c recorded (find_plan limits corners preserved rs)
  unfolding eliminate_in_unit
  turns_once turns rs c recorded = refl

  applied_ended : (rest : Rest) (t : Stage) (recorded n : ℕ) {ts : List Stage} → applying rest t recorded n ≡ ended ts
      → (us : List Stage) × (n ≡ 0) × (rest t.after.node t.after.counters (recorded + length t.after.entries) ≡ ended us)
      × (t ∷ us ≡ ts)
  applied_ended rest t recorded zero e =
      let (us, g, w) = preceded_ended t (rest t.after.node t.after.counters (recorded + length t.after.entries)) e in
      (us, refl, g, w)
  applied_ended rest t recorded (suc n) e = absurd (let z : ◌≡◌ {A = ℕ} 0 1 = cc in omega arith)

  pub run_ends : (turns : ℕ) (rs : List Rule) (c : Counters) (recorded : ℕ) (ts : List Stage)
      → eliminate_in_unit limits corners kind preserved turns rs c recorded ≡ ended ts
      → Ends turns rs c recorded ts
  unfolding eliminate_in_unit
  run_ends zero rs c recorded ts e = subst (Ends zero rs c recorded) (ended_same e) (record { stages = s_end; why = inr refl })
  run_ends (suc turns) rs c recorded ts e =
      go (find_plan limits corners preserved rs) refl (sym (turns_once turns rs c recorded) ∙ e) (run_ends turns)
    where
      go : (o : Search) → find_plan limits corners preserved rs ≡ o
          → turn (eliminate_in_unit limits corners kind preserved turns) rs c recorded o ≡ ended ts
          → ((ks : List Rule) (c : Counters) (n : ℕ) (us : List Stage)
          → eliminate_in_unit limits corners kind preserved turns ks c n ≡ ended us → Ends turns ks c n us)
          → Ends (suc turns) rs c recorded ts
      go no_plan k f ih = subst (Ends (suc turns) rs c recorded) (ended_same f) (record { stages = s_end; why = inl k })
      go (planned cycle plan) k f ih =
          let after = apply_plan inner_depth rs plan c in
          let t : Stage = record { before = rs; cycle = cycle; plan = plan; after = after } in
          let (us, r, g, w) =
          applied_ended (eliminate_in_unit limits corners kind preserved turns) t recorded (refusal_of kind preserved after recorded) f in
          let y = ih after.node after.counters (recorded + length after.entries) us g in
          subst (Ends (suc turns) rs c recorded) w (record { stages = s_plan k r y.stages; why = ⊎_map (λ p. p) (ap suc) y.why })
      go too_large k f ih = absurd (let z : ◌≡◌ {A = ℕ} 0 1 = cc in omega arith)

-- Of a whole sheet: only a parser unit has stages.
module _ (limits : Limits) (corners : Corners) (s : Sheet) where
  pub every_cycle_declined : find_plan limits corners s.preserved s.rules ≡ no_plan → EveryCycleDeclined limits corners s
  every_cycle_declined e = search_found limits corners s.preserved s.rules no_plan e

  pub sheet_ends : (ts : List Stage) → eliminate_mutual_left_recursion limits corners s ≡ ended ts
      → Stages limits corners s.kind s.preserved s.rules s.counters 0 ts
      × (s.kind ≡ parser → (find_plan limits corners s.preserved (rules_after s.rules ts) ≡ no_plan)
      ⊎ (length ts ≡ suc (length s.rules)))
  unfolding eliminate_mutual_left_recursion
  sheet_ends ts e =
      either (eqb s.kind parser)
      (λ t.
      let x =
      run_ends limits corners s.kind s.preserved (suc (length s.rules)) s.rules s.counters 0 ts
      (rw (t, eliminate_mutual_left_recursion) at e) in
      (x.stages, λ k. x.why))
      (λ f.
      let none : [] ≡ ts = ended_same limits corners s.kind s.preserved (rw (f, eliminate_mutual_left_recursion) at e) in (
        subst (Stages limits corners s.kind s.preserved s.rules s.counters 0) none s_end,
        λ k. absurd
            (eqb-false s.kind parser f k),
      ))
