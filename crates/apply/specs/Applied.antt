-- A plan applied to the sheet that stands in the result, against the definition (SPECIFICATION 4.8, 4.9 and 11).
use Rattle.std.specs.Prelude.{ℕ, ◌+◌, ◌*◌, ◌≤◌, ◌≡◌, List, true, false, length, Result, IfOk}
use Rattle.grammar.specs.Numbers.{trailer_words, most_words, result_bytes, trail_bytes, work_bytes}
use Rattle.grammar.specs.Tree.{Rule, Sheet, inner_depth}
use Rattle.grammar.specs.Words.{words}
use Rattle.grammar.specs.Lists.{each, member}
use Rattle.grammar.specs.Encode.{encode}
use Rattle.grammar.specs.Valid.{valid}
use Rattle.reference.specs.Numbers.{entry_words}
use Rattle.reference.specs.Plan.{CyclePlan}
use Rattle.reference.specs.Apply.{Fresh, apply_plan}
use Rattle.reference.specs.Run.{sheet_with, refusal_of, encode_entry}
use Rattle.writing.specs.Wrote.{Wrote}
use Rattle.writing.specs.Taken.{counters_of}
use Rattle.writing.specs.declared.counters.Counters.{Counters}
use Rattle.records.specs.Rules.{RowsOf}
use Rattle.records.specs.declared.rules.Rules.{Rules}
use Rattle.plan.specs.declared.plan.Plan.{Plan}
use Rattle.plan.specs.Decision.{PlanAs}
use Rattle.words.specs.declared.numbers.Refusal.{Refusal}
use Rattle.apply.specs.Held.{Held}
use Rattle.apply.specs.Judged.{number_in}
use Rattle.apply.specs.declared.apply.Applied.{Applied}

-- The buffers are long enough (SPECIFICATION 4.2).
pub record Buffers (result trail work : List ℕ) : Type 0 where
  pub for_result : result_bytes ≤ length result
  pub for_trail : trail_bytes ≤ length trail
  pub for_work : work_bytes ≤ length work

-- The sheet in the result with its rules, and a plan for it, whose list stands in the work area.
pub record Applicable (result work : List ℕ) (end to : ℕ) (rules : Rules) (p : Plan) : Type 0 where
  pub sheet : Sheet
  pub is_valid : valid sheet ≡ true
  pub held : Held result sheet end to
  pub short : to + trailer_words ≤ most_words
  pub rows : RowsOf sheet.rules rules
  pub plan : CyclePlan inner_depth
  pub same : PlanAs (words result) end rules.ids rules.n work plan p
  pub hub_stays : member plan.hub plan.removable ≡ false

-- What the plan makes of the rules, by the counters.
abbrev pub after_of : {result work : List ℕ} {end to : ℕ} {rules : Rules} {p : Plan} → Applicable result work end to rules p → Counters
    → Fresh (List Rule)
after_of x counters = apply_plan inner_depth x.sheet.rules x.plan (counters_of counters)

module _ (kind : ℕ) (preserved : List ℕ) (after : Fresh (List Rule)) (recorded : ℕ) (result trail trail' : List ℕ) where
  -- The new sheet in the result, with its rules and counters, and its entries behind those that were recorded.
  pub record Done (r : Applied) : Type 0 where
    pub held : Held result (sheet_with kind preserved after) r.end r.to
    pub rows : RowsOf after.node r.rules
    pub counters_are : counters_of r.counters ≡ after.counters
    pub told : Wrote trail trail' (entry_words * recorded) (each encode_entry after.entries)
    pub entries : r.entries ≡ recorded + length after.entries
    pub room : 4 * (entry_words * r.entries) ≤ length trail

  pub record AppliedAs (r : Result Applied Refusal) : Type 0 where
    pub number : number_in r ≡ refusal_of kind preserved after recorded
    pub done : IfOk r Done

-- So it is for every such sheet and plan.
pub record AppliedOf (result work : List ℕ) (end to : ℕ) (rules : Rules) (counters : Counters) (p : Plan) (recorded : ℕ)
    (result' trail trail' : List ℕ) (r : Result Applied Refusal) : Type 0 where
  pub is : (x : Applicable result work end to rules p)
      → AppliedAs x.sheet.kind x.sheet.preserved (after_of x counters) recorded result' trail trail' r

module _ (result work : List ℕ) (end to : ℕ) (rules : Rules) (p : Plan) where
  -- The new sheet has so many words, whatever the counters are.
  pub record WordsAfter (n : ℕ) : Type 0 where
    pub is : (x : Applicable result work end to rules p) (counters : Counters)
        → n ≡ length (encode (sheet_with x.sheet.kind x.sheet.preserved (after_of x counters)))

  -- The trail has so many entries then.
  pub record EntriesAfter (recorded n : ℕ) : Type 0 where
    pub is : (x : Applicable result work end to rules p) (counters : Counters) → n ≡ recorded + length (after_of x counters).entries

  -- It is refused by this number, or not.
  pub record RefusedBy (counters : Counters) (recorded r : ℕ) : Type 0 where
    pub is : (x : Applicable result work end to rules p)
        → r ≡ refusal_of x.sheet.kind x.sheet.preserved (after_of x counters) recorded
