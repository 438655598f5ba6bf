-- The loop over plans (SPECIFICATION 5), with refusals 7 to 9 in the order in which they are met, and the whole outcome of
-- a call (3, 4).
use Rattle.std.specs.Prelude.{ℕ, zero, suc, ◌+◌, ◌-◌, ◌*◌}
use Rattle.std.specs.Prelude.{List, [], ◌∷◌, ◌++◌, map, Bool, true, false, ◌&&◌, length, replicate, leb, ltb, eqb}
pub use Rattle.grammar.specs.Tree.{inner_depth}
use Rattle.grammar.specs.Tree.{Rule, body_depth, Counters, Sheet}
use Rattle.grammar.specs.Numbers.{most_words, parser, result_bytes, trail_bytes, work_bytes, bad_length, short_buffer, plan_too_large}
use Rattle.grammar.specs.Numbers.{counter_past_end, result_too_long}
use Rattle.reference.specs.Numbers.{counter_end, most_entries}
use Rattle.grammar.specs.Encode.{encode, encode_counters}
use Rattle.grammar.specs.Lists.{each, all, total}
use Rattle.grammar.specs.Words.{bytes}
use Rattle.grammar.specs.Reading.{Reading, refused, sheet, is_length, read}
use Rattle.grammar.specs.Corners.{Corners}
use Rattle.reference.specs.Analysis.{Grammar, grammar_of, left_corner_cycles}
use Rattle.reference.specs.Substitute.{decided, declined, overfull, Limits}
use Rattle.reference.specs.Plan.{CyclePlan, plan_cycle}
use Rattle.reference.specs.Apply.{Fresh, apply_plan, Entry}

-- One applied plan: the grammar before, the cycle, the plan with its hub and planned list, and what applying it left:
-- the grammar after, the counters and the entries recorded.
pub record Stage : Type 0 where
  pub before : List Rule
  pub cycle : List ℕ
  pub plan : CyclePlan inner_depth
  pub after : Fresh (List Rule)

-- What a search through the cycles ends with.
pub data Search : Type 0 where
  no_plan : Search
  planned : (cycle : List ℕ) → CyclePlan inner_depth → Search
  too_large : Search

-- All applied plans in order; or those in front of a refusal, and its number.
pub data Run : Type 0 where
  ended : List Stage → Run
  stopped : List Stage → (number : ℕ) → Run

abbrev pub preceded : Stage → Run → Run  -- The turns of eliminate_in_unit, l. 140, one after the other.
preceded s (ended ss) = ended (s ∷ ss)
preceded s (stopped ss n) = stopped (s ∷ ss) n

module _ (limits : Limits) (corners : Corners) (preserved : List ℕ) where
  -- find_map in eliminate_in_unit, l. 147: the first cycle with a plan. A limit passed on the way ends the search.
  unfoldable pub search_cycles : Grammar → List Rule → List (List ℕ) → Search
  search_cycles g rs [] = no_plan
  search_cycles g rs (cycle ∷ more) =
      elim (plan_cycle limits corners g inner_depth rs preserved cycle) [
        | decided plan ↦ planned cycle plan
        | declined c ↦ search_cycles g rs more
        | overfull ↦ too_large
      ]

  -- One turn of the loop in eliminate_in_unit, l. 141 to 157, up to the plan.
  unfoldable pub find_plan : List Rule → Search
  find_plan rs =
      let g = grammar_of body_depth rs in
      search_cycles g rs (left_corner_cycles corners g body_depth rs)

-- SPECIFICATION 4.8 excludes a counter past the end; in the Rust it is a panic, model.rs, l. 78.
unfoldable pub are_words : Counters → Bool
are_words c = all (λ n. ltb n counter_end) (encode_counters c)

module _ (kind : ℕ) (preserved : List ℕ) where
  abbrev pub sheet_with : Fresh (List Rule) → Sheet  -- The unit that apply_plan leaves, l. 978, as a sheet.
  sheet_with after = record { kind = kind; rules = after.node; preserved = preserved; counters = after.counters }

  -- SPECIFICATION 4.9 excludes a longer sheet (in words) or trail (in entries, `recorded` of them by earlier plans).
  unfoldable pub is_short : Fresh (List Rule) → ℕ → Bool
  is_short after recorded = leb (length (encode (sheet_with after))) most_words && leb (recorded + length after.entries) most_entries

  -- The refusal that applying a plan meets (SPECIFICATION 4.8, then 4.9), or 0. The Rust has no such limits, or panics.
  unfoldable pub refusal_of : Fresh (List Rule) → ℕ → ℕ
  refusal_of after recorded =
      elim (are_words after.counters) [
        | false ↦ counter_past_end
        | true ↦ elim (is_short after recorded) [ false ↦ result_too_long | true ↦ 0 ]
      ]

module _ (limits : Limits) (corners : Corners) (kind : ℕ) (preserved : List ℕ) where
  -- eliminate_in_unit, l. 127, with turns left, as a definition needs a bound. It gives the stages, the Rust if it changed.
  unfoldable pub eliminate_in_unit : ℕ → List Rule → Counters → ℕ → Run
  eliminate_in_unit zero rs c recorded = ended []
  eliminate_in_unit (suc turns) rs c recorded =
      elim (find_plan limits corners preserved rs) [
        | no_plan ↦ ended []
        | too_large ↦ stopped [] plan_too_large
        | planned cycle plan ↦
            let after = apply_plan inner_depth rs plan c in
            elim (refusal_of kind preserved after recorded) [
              | suc n ↦ stopped [] (suc n)
              | zero ↦
                  preceded (record { before = rs; cycle = cycle; plan = plan; after = after })
                  (eliminate_in_unit turns after.node after.counters (recorded + length after.entries))
            ]
      ]

-- eliminate_mutual_left_recursion_with_action_reference_parser, l. 83, for one unit: only a parser unit has plans. (The
-- wrapper eliminate_mutual_left_recursion, l. 68, names the parser of action.rs, whose answers are in the sheet.)
-- Plans never outnumber rules, so the loop has one turn more than there are rules.
unfoldable pub eliminate_mutual_left_recursion : Limits → Corners → Sheet → Run
eliminate_mutual_left_recursion limits corners s =
    elim (eqb s.kind parser) [
      | true ↦ eliminate_in_unit limits corners s.kind s.preserved (suc (length s.rules)) s.rules s.counters 0
      | false ↦ ended []
    ]

-- The sheet that stages leave: rules and counters are the last's. In place in eliminate_in_unit, l. 158.
unfoldable pub sheet_after : Sheet → List Stage → Sheet
sheet_after s [] = s
sheet_after s (t ∷ ts) = sheet_after (sheet_with s.kind s.preserved t.after) ts

unfoldable pub steps_of : List Stage → ℕ  -- The steps of plan_cycle, l. 363, of applied plans only (SPECIFICATION 3.6).
steps_of ss = total (map (λ s. s.plan.steps) ss)

unfoldable pub encode_entry : Entry → List ℕ  -- SPECIFICATION 12.1. The Rust has no trail.
encode_entry e = e.kind ∷ e.id ∷ e.reason ∷ e.owner ∷ []

-- The trail (SPECIFICATION 12): what the stages recorded, in order.
unfoldable pub entries_of : List Stage → List Entry
entries_of [] = []
entries_of (s ∷ ss) = s.after.entries ++ entries_of ss

-- The answer to a sheet's bytes, buffers left aside: a refusal, or plans, steps, and the words of result and trail.
pub data Answer : Type 0 where
  refusal : (number : ℕ) → Answer
  answer : (plans steps : ℕ) (result trail : List ℕ) → Answer

unfoldable pub answer_run : Sheet → Run → Answer  -- SPECIFICATION 3.3, and 4.7 to 4.9.
answer_run s (stopped ss n) = refusal n
answer_run s (ended ss) = answer (length ss) (steps_of ss) (encode (sheet_after s ss)) (each encode_entry (entries_of ss))

module _ (limits : Limits) (corners : Corners) where
  unfoldable pub answer_reading : Reading → Answer  -- The same, and SPECIFICATION 4.1 and 4.3 to 4.6.
  answer_reading (refused n) = refusal n
  answer_reading (sheet s) = answer_run s (eliminate_mutual_left_recursion limits corners s)

  unfoldable pub answer_to : List ℕ → Answer  -- The same of a sheet's bytes (SPECIFICATION 2.1).
  answer_to bs = answer_reading (read bs)

-- The lengths are in bytes; result, trail and work are what stands in the buffers at exit, in bytes.
pub record Outcome : Type 0 where
  pub number : ℕ
  pub plans : ℕ
  pub steps : ℕ
  pub result_length : ℕ
  pub trail_length : ℕ
  pub result : List ℕ
  pub trail : List ℕ
  pub work : List ℕ

-- Bytes from the front of a buffer, zeros behind them (SPECIFICATION 3.3).
unfoldable pub filled : List ℕ → List ℕ → List ℕ
filled bs buffer = bs ++ replicate (length buffer - length bs) 0

-- SPECIFICATION 4.2 excludes every shorter buffer.
unfoldable pub are_lent : List ℕ → List ℕ → List ℕ → Bool
are_lent result trail work = leb result_bytes (length result) && (leb trail_bytes (length trail) && leb work_bytes (length work))

-- A refusal (SPECIFICATION 3.4), with what stands in the buffers.
abbrev pub refused_with : (number : ℕ) (result trail work : List ℕ) → Outcome
refused_with n result trail work =
    record {
      number = n;
      plans = 0;
      steps = 0;
      result_length = 0;
      trail_length = 0;
      result = result;
      trail = trail;
      work = work;
    }

module _ (result trail work : List ℕ) where
  -- Refusals 1 and 2 touch nothing (SPECIFICATION 3.4).
  unfoldable pub untouched : ℕ → Outcome
  untouched n = refused_with n result trail work

  unfoldable pub delivered : Answer → Outcome  -- SPECIFICATION 3.3, and 3.4 for the rest.
  delivered (refusal n) = refused_with n (filled [] result) (filled [] trail) (filled [] work)
  delivered (answer plans steps ws ts) =
      record {
        number = 0;
        plans = plans;
        steps = steps;
        result_length = 4 * length ws;
        trail_length = 4 * length ts;
        result = filled (bytes ws) result;
        trail = filled (bytes ts) trail;
        work = filled [] work;
      }

-- The whole outcome (SPECIFICATION 1.4), of the sheet's bytes and what stands in the three buffers at entry.
unfoldable pub outcome : Limits → Corners → (bs result trail work : List ℕ) → Outcome
outcome limits corners bs result trail work =
    elim (is_length (length bs)) [
      | false ↦ untouched result trail work bad_length
      | true ↦
          elim (are_lent result trail work) [
            | false ↦ untouched result trail work short_buffer
            | true ↦ delivered result trail work (answer_to limits corners bs)
          ]
    ]
