-- Every stage of a run has room, and a refusal from bytes is the reader's or has its reason in the run.
use Rattle.std.specs.Prelude.{ℕ, suc, ◌<◌, ◌+◌, List, [], ◌∷◌, ◌++◌, length, get_or}
use Rattle.std.proofs.Math.Path.{◌≡◌, refl, subst}
use Rattle.std.proofs.Common.{ap, ◌∙◌, zero-add, arith}
use Rattle.std.proofs.Math.Logic.{⊎_map}
use Rattle.grammar.specs.Form.{newest}
use Rattle.grammar.specs.Tree.{Rule, Sheet, body_depth}
use Rattle.grammar.specs.Encode.{encode}
use Rattle.grammar.specs.Reading.{Reading, refused, sheet, read}
use Rattle.grammar.specs.Corners.{Corners}
use Rattle.grammar.specs.Laws.Codec.{accepted_valid}
use Rattle.grammar.specs.Numbers.{parser}
use Rattle.reference.specs.Analysis.{grammar_of}
use Rattle.reference.specs.Substitute.{Limits}
use Rattle.reference.specs.Plan.{CyclePlan}
use Rattle.reference.specs.Apply.{apply_plan}
use Rattle.reference.specs.Run.{inner_depth, Stage, planned, too_large, Run, ended, stopped, find_plan, refusal_of, sheet_with}
use Rattle.reference.specs.Run.{eliminate_mutual_left_recursion, sheet_after, entries_of, refusal, answer_run, answer_reading, answer_to}
use Rattle.laws.specs.Demands.Shape.{Joins}
use Rattle.laws.specs.Demands.Refusals.{DecisionOf, words_left, HasRoom, Staged, Stops, RefusedSo, by_reader, by_run}
use Rattle.laws.specs.Demands.Refusals as refusals
use Rattle.laws.specs.Planning.PlanCycle.{decision}
use Rattle.laws.specs.Running.Leaves.{Told}
use Rattle.laws.specs.Running.Refused.{Refused, for_ids, for_length, counters_good, not_refused, is_refused}
use Rattle.laws.specs.Running.Search.{search_found}
use Rattle.laws.specs.Running.Stages.{rules_after, counters_after, sheet_last, entries_count, valid_told, Stages, stages_chain}
use Rattle.laws.specs.Running.Stages.{chain_leaves}
use Rattle.laws.specs.Running.Stopped.{StopsAt, by_search, by_plan, sheet_stops}
use Rattle.laws.specs.Proved.Stages.{next_of, joins_of, stage_at, stage_joins}

-- The words that one stage more leaves.
words_last : (s : Sheet) (front : List Stage) (t : Stage)
    → words_left s (front ++ (t ∷ [])) ≡ length (encode (sheet_with s.kind s.preserved t.after))
words_last s front t = ap (λ k. length (encode k)) (sheet_last s front t)

module _ (limits : Limits) (corners : Corners) (s : Sheet) (told : Told s.rules) {ts : List Stage}
    (stages : Stages limits corners s.kind s.preserved s.rules s.counters 0 ts) where
  pub stage_room : (front : List Stage) (t : Stage) (rest : List Stage) → front ++ (t ∷ rest) ≡ ts → HasRoom s front t
  stage_room front t rest w =
      let a = stage_at limits corners s told stages front t rest w in
      let k = not_refused s.kind s.preserved t.after (length (entries_of front)) a.is_kept in
      let l = words_last s front t in
      let n = entries_count front t in
      record {
        counters = counters_good t.after.counters k.is_words;
        words = omega (arith, k.short);
        entries = omega (arith, k.few);
      }

  staged : Staged s limits corners ts
  staged = record { joins = stage_joins limits corners s told stages; room = stage_room }

  -- The rules where it stopped.
  abbrev rules : List Rule
  rules = rules_after s.rules ts

  told_there : Told rules
  told_there = (chain_leaves limits corners s.preserved told (stages_chain limits corners s.kind s.preserved stages)).told

  -- One stage more, if it were not refused.
  module _ (cycle : List ℕ) (plan : CyclePlan inner_depth) (f : find_plan limits corners s.preserved rules ≡ planned cycle plan) where
    abbrev beyond : Stage
    beyond = record { before = rules; cycle = cycle; plan = plan; after = apply_plan inner_depth rules plan (counters_after s.counters ts) }

    beyond_joins : Joins limits corners (sheet_after s ts) beyond
    beyond_joins = joins_of limits corners s ts {t = beyond} refl told_there (record {
      counters = counters_after s.counters ts;
      found = f;
      left = refl;
    }) refl

    refused_stops : {n : ℕ} → Refused s.kind s.preserved beyond.after (length (entries_of ts)) n → Stops s limits corners ts n
    refused_stops (for_ids x) = refusals.no_id_left beyond_joins x
    refused_stops (for_length x y) =
        let l = words_last s ts beyond in
        let n = entries_count ts beyond in
        refusals.too_long beyond_joins x (⊎_map (λ z. omega arith) (λ z. omega arith) y)

  too_large_lem : find_plan limits corners s.preserved rules ≡ too_large → Stops s limits corners ts 7
  too_large_lem f =
      let (cycle, x) = search_found limits corners s.preserved rules too_large f in
      let (there, o) = next_of limits corners s ts refl x in
      let left = sheet_after s ts in
      refusals.too_large there
      (subst (DecisionOf limits corners left cycle) o
      (decision corners inner_depth left.rules (grammar_of body_depth left.rules) left.preserved cycle limits))

  stops : {n : ℕ} → StopsAt limits corners s.kind s.preserved rules (counters_after s.counters ts) (0 + length (entries_of ts)) n
      → Stops s limits corners ts n
  stops (by_search f) = too_large_lem f
  stops (by_plan {cycle = cycle} {plan = plan} {n = n} f r) =
      let after = apply_plan inner_depth rules plan (counters_after s.counters ts) in
      refused_stops cycle plan f
      (is_refused s.kind s.preserved after (length (entries_of ts))
      (subst (λ k. refusal_of s.kind s.preserved after k ≡ suc n) (zero-add (length (entries_of ts))) r))

module _ (limits : Limits) (corners : Corners) (bs : List ℕ) (b : (i : ℕ) → get_or bs i 0 < 256) (n : ℕ) where
  pub refused_so_lem : answer_to limits corners bs ≡ refusal n → RefusedSo limits corners bs n
  unfolding answer_to answer_reading answer_run
  refused_so_lem e = reading (read bs) refl e
    where
      running : (s : Sheet) → read bs ≡ sheet s → (r : Run) → eliminate_mutual_left_recursion limits corners s ≡ r
          → answer_run s r ≡ refusal n → RefusedSo limits corners bs n
      running s k (ended ts) u f = absurd (let z : ◌≡◌ {A = ℕ} 0 1 = cc in omega arith)
      running s k (stopped ts m) u f =
          let told = valid_told s (accepted_valid newest bs b s k).0 in
          let same : m ≡ n = cc in
          let (parser, x) = sheet_stops limits corners s ts m u in
          subst (RefusedSo limits corners bs) same
          (by_run k parser u (staged limits corners s told x.stages) (stops limits corners s told x.stages x.reason))

      reading : (r : Reading) → read bs ≡ r → answer_reading limits corners r ≡ refusal n → RefusedSo limits corners bs n
      reading (refused m) k f = let same : m ≡ n = cc in by_reader (k ∙ ap refused same)
      reading (sheet s) k f = running s k (eliminate_mutual_left_recursion limits corners s) refl f
