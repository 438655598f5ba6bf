-- Whether a plan may be applied, by its sizes (SPECIFICATION 4.8 and 4.9).
use Rattle.std.specs.Prelude.{ℕ, ◌+◌, ◌≡◌, Bool, true, false, ◌&&◌, leb, Result, Ok, Err}
use Rattle.grammar.specs.Tree.{Counters}
use Rattle.grammar.specs.Numbers.{counter_past_end, result_too_long}
use Rattle.reference.specs.Numbers.{most_entries}
use Rattle.reference.specs.Run.{are_words}
use Rattle.sizes.specs.Tally.{behind, ids_in}
use Rattle.sizes.specs.declared.sums.Measure.{Measure}
use Rattle.words.specs.Refusal.{refusal_number}
use Rattle.words.specs.declared.numbers.Refusal.{Refusal}

-- The number of a refusal; 0 is none.
abbrev pub number_in : {A : Type 0} → Result A Refusal → ℕ
number_in (Ok x) = 0
number_in (Err e) = refusal_number e

-- The refusal, or 0: of the counters behind, the words of the new sheet and its room, and all entries then.
unfoldable pub verdict_on : Counters → (words room entries : ℕ) → ℕ
verdict_on c words room entries =
    elim (are_words c) [
      | false ↦ counter_past_end
      | true ↦ elim (leb words room && leb entries most_entries) [ false ↦ result_too_long | true ↦ 0 ]
    ]

-- By a measure, and the entries recorded already. The hub has an entry of its own.
unfoldable pub verdict : Counters → Measure → (words room recorded : ℕ) → ℕ
verdict c m words room recorded = verdict_on (behind c m.tally) words room (recorded + (ids_in m.tally + 1))

-- Whether all counters last.
pub record AllLast (c : Counters) (m : Measure) (r : Bool) : Type 0 where
  pub is : r ≡ are_words (behind c m.tally)

pub record Judged (c : Counters) (m : Measure) (words room recorded : ℕ) (r : Result (Unit {0}) Refusal) : Type 0 where
  pub is : number_in r ≡ verdict c m words room recorded
