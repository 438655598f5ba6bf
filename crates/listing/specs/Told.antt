-- What an answer of the pass lets one list.
use Rattle.std.specs.Prelude.{ℕ, ◌/◌, ◌≤◌, ◌≡◌, List, length, Option, Some, None, Result, Ok, Err}
use Rattle.grammar.specs.Numbers.{result_bytes, trail_bytes, work_bytes}
use Rattle.grammar.specs.Corners.{rust}
use Rattle.reference.specs.Substitute.{standard}
use Rattle.reference.specs.Run as R
use Rattle.reference.specs.Run.{answer_to}
use Rattle.listed.specs.Listed.{listed_refusal, listed_rules, listed}
use Rattle.listed.specs.Put.{Filled}
use Rattle.listed.specs.Ready.{Held, Recorded, most_text}
use Rattle.words.specs.Refusal.{refusal_number}
use Rattle.words.specs.declared.numbers.Refusal.{Refusal}
use Rattle.pass.specs.declared.answer.Totals.{Totals}
use Rattle.listing.specs.declared.answer.Told.{Told}

-- The refusal by which a sheet's bytes are answered; 0 where they are not refused.
abbrev pub refusal_in : R.Answer → ℕ
refusal_in (R.refusal n) = n
refusal_in (R.answer plans steps result trail) = 0

-- The number of the refusal that a text tells; 0 where it tells none.
abbrev pub number_told : Option Refusal → ℕ
number_told None = 0
number_told (Some e) = refusal_number e

-- The result and the trail of a pass that was not refused, with its numbers: what is listed of them is the listing of the bytes.
pub record JoinedAs (bs : List ℕ) (t : Totals) (result trail : List ℕ) : Type 0 where
  pub held : Held result (t.result / 4)
  pub recorded : Recorded trail (t.trail / 16)
  pub is : listed standard rust bs ≡ listed_rules t.plans t.steps held.sheet.rules recorded.found.trees
  pub number : refusal_in (answer_to standard rust bs) ≡ 0

-- A refusal likewise.
pub record RefusedAs (bs : List ℕ) (n : ℕ) : Type 0 where
  pub is : listed standard rust bs ≡ listed_refusal n
  pub number : refusal_in (answer_to standard rust bs) ≡ n

-- Either.
abbrev pub AnswersAs : (bs : List ℕ) → Result Totals Refusal → (result trail : List ℕ) → Type 0
AnswersAs bs (Err e) result trail = RefusedAs bs (refusal_number e)
AnswersAs bs (Ok t) result trail = JoinedAs bs t result trail

pub record Answers (bs : List ℕ) (a : Result Totals Refusal) (result trail : List ℕ) : Type 0 where
  pub so : AnswersAs bs a result trail

-- Buffers that are long enough.
pub record Lent (r t w : List ℕ) : Type 0 where
  pub result : result_bytes ≤ length r
  pub trail : trail_bytes ≤ length t
  pub work : work_bytes ≤ length w

-- The listing of the bytes stands in the buffer.
pub record ListedAs (bs before after : List ℕ) (r : Told) : Type 0 where
  pub text : Filled before after r.n (listed standard rust bs) most_text
  pub number : number_told r.refusal ≡ refusal_in (answer_to standard rust bs)
