-- The whole run commutes with other names, told apart as before, and other carried numbers.
use Prim.Native.Nat.{ℕ, zero, suc, ◌+◌}
use Rattle.std.specs.Prelude.{◌≡◌, ◌&&◌, eqb}
use Rattle.std.proofs.Math.Path.{refl, ap}
use Rattle.std.proofs.Common.{sym, ◌∙◌}
use mathlib.Core.List.{List, [], ◌∷◌, map}
use Rattle.std.proofs.Math.Bool.{true, false}
use Rattle.std.proofs.Math.ListN.{length}
use Rattle.std.proofs.lemmas.List.{length-map}
use Rattle.std.proofs.Math.Dec.{leb}
use Rattle.grammar.specs.Laws.Parse.{either}
use Rattle.grammar.specs.Numbers.{parser, most_words, counter_past_end, result_too_long}
use Rattle.grammar.specs.Corners.{Corners}
use Rattle.grammar.specs.Tree.{Rule, Counters, Sheet, body_depth}
use Rattle.reference.specs.Numbers.{most_entries}
use Rattle.reference.specs.Analysis.{Grammar, grammar_of, left_corner_cycles}
use Rattle.reference.specs.Substitute.{Decided, decided, declined, overfull, Limits}
use Rattle.reference.specs.Plan.{CyclePlan, plan_cycle}
use Rattle.reference.specs.Apply.{Fresh, apply_plan}
use Rattle.reference.specs.Run.{inner_depth, Stage, Search, no_plan, planned, too_large, Run, ended, stopped, preceded, search_cycles}
use Rattle.reference.specs.Run.{find_plan}
use Rattle.reference.specs.Run.{are_words, sheet_with, is_short, refusal_of, eliminate_in_unit, eliminate_mutual_left_recursion}
use Rattle.laws.specs.Running.Stages.{Rest, turn, turns_once, applying}
use Rattle.laws.specs.Demands.Marks.{on_rule, on_block, on_sheet}
use Rattle.laws.specs.Sameness.Marked.{on_grammar, on_rules, grammar_on, cycles_on}
use Rattle.laws.specs.Sameness.Decided.{on_decided}
use Rattle.laws.specs.Sameness.Plans.{on_plan, plan_on}
use Rattle.laws.specs.Sameness.Applied.{on_fresh, apply_on}
use Rattle.laws.specs.Sameness.Lengths.{whole_length}

module _ (f r pr : ℕ → ℕ) (one : (a b : ℕ) → f a ≡ f b → a ≡ b) where
  abbrev on_all : List Rule → List Rule
  on_all = on_rules f r pr one body_depth

  -- What a plan leaves is refused as before: it has as many words.
  refusal_on : (kind : ℕ) (preserved : List ℕ) (x : Fresh (List Rule)) (recorded : ℕ)
      → refusal_of kind preserved (on_fresh on_all x) recorded ≡ refusal_of kind preserved x recorded
  unfolding refusal_of is_short on_sheet
  refusal_on kind preserved x recorded =
      ap {B = ℕ} (λ n. elim (are_words x.counters) as (λ y. ℕ) [
        | false ↦ counter_past_end
        | true ↦
            elim (leb n most_words && leb (recorded + length x.entries) most_entries) as (λ y. ℕ) [ false ↦ result_too_long | true ↦ 0 ]
      ]) (whole_length f r pr (sheet_with kind preserved x))

  -- A stage and a run, changed throughout.
  abbrev pub on_stage : Stage → Stage
  on_stage t =
      record {
        before = on_all t.before;
        cycle = t.cycle;
        plan = on_plan f r pr one inner_depth t.plan;
        after = on_fresh on_all t.after;
      }

  abbrev pub on_run : Run → Run
  on_run (ended ts) = ended (map on_stage ts)
  on_run (stopped ts n) = stopped (map on_stage ts) n

  -- The plan that a search finds is the one that it found, changed.
  abbrev on_search : Search → Search
  on_search no_plan = no_plan
  on_search (planned cycle plan) = planned cycle (on_plan f r pr one inner_depth plan)
  on_search too_large = too_large

  module _ (limits : Limits) (c : Corners) (preserved : List ℕ) where
    search_on : (g : Grammar) (rs : List Rule) (cycles : List (List ℕ))
        → search_cycles limits c preserved (on_grammar f r pr one g) (on_all rs) cycles
        ≡ on_search (search_cycles limits c preserved g rs cycles)
    unfolding search_cycles
    search_on g rs [] = refl
    search_on g rs (cycle ∷ more) =
        rw (plan_on f r pr one inner_depth limits c g rs preserved cycle, search_cycles)
        (go (search_on g rs more) (plan_cycle limits c g inner_depth rs preserved cycle))
      where
        go : search_cycles limits c preserved (on_grammar f r pr one g) (on_all rs) more
            ≡ on_search (search_cycles limits c preserved g rs more)
            → (x : Decided (CyclePlan inner_depth))
            → (elim (on_decided (on_plan f r pr one inner_depth) x) as (λ y. Search) [
              | decided plan ↦ planned cycle plan
              | declined k ↦ search_cycles limits c preserved (on_grammar f r pr one g) (on_all rs) more
              | overfull ↦ too_large
            ])
            ≡ on_search (elim x as (λ y. Search) [
              | decided plan ↦ planned cycle plan
              | declined k ↦ search_cycles limits c preserved g rs more
              | overfull ↦ too_large
            ])
        go ih (decided plan) = refl
        go ih (declined k) = ih
        go ih overfull = refl

    find_on : (rs : List Rule) → find_plan limits c preserved (on_all rs) ≡ on_search (find_plan limits c preserved rs)
    unfolding find_plan
    find_on rs =
        ap (λ g. search_cycles limits c preserved g (on_all rs) (left_corner_cycles c g body_depth (on_all rs)))
        (grammar_on f r pr one body_depth rs)
        ∙ ap (search_cycles limits c preserved (on_grammar f r pr one (grammar_of body_depth rs)) (on_all rs))
        (cycles_on f r pr one (grammar_of body_depth rs) c body_depth rs)
        ∙ search_on (grammar_of body_depth rs) rs (left_corner_cycles c (grammar_of body_depth rs) body_depth rs)

    module _ (kind : ℕ) where
      -- What follows a stage, changed.
      abbrev RestOn : Rest limits c kind preserved → Type 0
      RestOn rest = (rs : List Rule) (k : Counters) (n : ℕ) → rest (on_all rs) k n ≡ on_run (rest rs k n)

      applying_on : (rest : Rest limits c kind preserved) → RestOn rest → (t : Stage) (recorded n : ℕ)
          → applying limits c kind preserved rest (on_stage t) recorded n ≡ on_run (applying limits c kind preserved rest t recorded n)
      applying_on rest ih t recorded (suc n) = refl
      applying_on rest ih t recorded zero =
          ap (preceded (on_stage t)) (ih t.after.node t.after.counters (recorded + length t.after.entries))
          ∙ pass (rest t.after.node t.after.counters (recorded + length t.after.entries))
        where
          pass : (x : Run) → preceded (on_stage t) (on_run x) ≡ on_run (preceded t x)
          pass (ended ts) = refl
          pass (stopped ts n) = refl

      run_on : (turns : ℕ) (rs : List Rule) (k : Counters) (recorded : ℕ)
          → eliminate_in_unit limits c kind preserved turns (on_all rs) k recorded
          ≡ on_run (eliminate_in_unit limits c kind preserved turns rs k recorded)
      unfolding eliminate_in_unit
      run_on zero rs k recorded = refl
      run_on (suc turns) rs k recorded =
          turns_once limits c kind preserved turns (on_all rs) k recorded
          ∙ ap (turn limits c kind preserved rest (on_all rs) k recorded) (find_on rs)
          ∙ go (run_on turns) (find_plan limits c preserved rs)
          ∙ ap on_run (sym (turns_once limits c kind preserved turns rs k recorded))
        where
          rest : Rest limits c kind preserved
          rest = eliminate_in_unit limits c kind preserved turns

          go : RestOn rest → (x : Search)
              → turn limits c kind preserved rest (on_all rs) k recorded (on_search x)
              ≡ on_run (turn limits c kind preserved rest rs k recorded x)
          go ih no_plan = refl
          go ih too_large = refl
          go ih (planned cycle plan) =
              let after = apply_plan inner_depth rs plan k in
              let stage : Stage = record { before = rs; cycle = cycle; plan = plan; after = after } in
              ap (λ (y : Fresh (List Rule)). applying limits c kind preserved rest
              (record { before = on_all rs; cycle = cycle; plan = on_plan f r pr one inner_depth plan; after = y }) recorded
              (refusal_of kind preserved y recorded)) (apply_on f r pr one inner_depth rs plan k)
              ∙ ap (applying limits c kind preserved rest (on_stage stage) recorded) (refusal_on kind preserved after recorded)
              ∙ applying_on rest ih stage recorded (refusal_of kind preserved after recorded)

  -- The run of the changed sheet is the sheet's, changed.
  pub sheet_on : (limits : Limits) (c : Corners) (s : Sheet)
      → eliminate_mutual_left_recursion limits c (on_sheet f r pr s) ≡ on_run (eliminate_mutual_left_recursion limits c s)
  unfolding eliminate_mutual_left_recursion on_sheet
  sheet_on limits c s =
      either (eqb s.kind parser)
      (λ t. rw (t, eliminate_mutual_left_recursion)
      (ap (λ n. eliminate_in_unit limits c s.kind s.preserved (suc n) (on_all s.rules) s.counters 0)
      (length-map s.rules (on_rule f r pr (on_block f r pr body_depth)))
      ∙ run_on limits c s.preserved s.kind (suc (length s.rules)) s.rules s.counters 0))
      (λ n. rw (n, eliminate_mutual_left_recursion) refl)
