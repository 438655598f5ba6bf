-- What a call hands back (SPECIFICATION 3): the whole outcome, by equality with the definition; and beside it what that means.
use Rattle.std.specs.Prelude.{ℕ, ◌-◌, ◌≡◌, List, [], ◌∷◌, ◌++◌, Bool, true, ◌&&◌, length, take, replicate, leb, Result, Ok, Err, IfOk}
use Rattle.grammar.specs.Numbers.{result_bytes, trail_bytes, work_bytes}
use Rattle.grammar.specs.Words.{words}
use Rattle.grammar.specs.Corners.{Corners}
use Rattle.reference.specs.Substitute.{standard}
use Rattle.reference.specs.Run.{Outcome, outcome, refused_with, answer_to}
use Rattle.grammar.specs.Reading.{is_length, read_words}
use Rattle.sheet.specs.Answer.{ReadAs}
use Rattle.sheet.specs.declared.answer.Reading.{Reading}
use Rattle.laws.specs.Demands.Kept.{EveryCall}
use Rattle.run.specs.Ended.{AnswerIs, Short}
use Rattle.run.specs.declared.state.Ended.{Ended}
use Rattle.apply.specs.Applied.{Buffers}
use Rattle.words.specs.Refusal.{refusal_number}
use Rattle.words.specs.declared.numbers.Refusal.{Refusal}
use Rattle.pass.specs.declared.answer.Totals.{Totals}

-- The number and the four values of an answer, in the order in which callers in other languages are given them.
abbrev pub numbers : Result Totals Refusal → List ℕ
numbers (Err e) = refusal_number e ∷ 0 ∷ 0 ∷ 0 ∷ 0 ∷ []
numbers (Ok t) = 0 ∷ t.plans ∷ t.steps ∷ t.result ∷ t.trail ∷ []

-- An answer with what stands in the buffers.
abbrev pub outcome_of : Result Totals Refusal → (result trail work : List ℕ) → Outcome
outcome_of (Err e) result trail work = refused_with (refusal_number e) result trail work
outcome_of (Ok t) result trail work =
    record {
      number = 0;
      plans = t.plans;
      steps = t.steps;
      result_length = t.result;
      trail_length = t.trail;
      result = result;
      trail = trail;
      work = work;
    }

-- Of the sheet's bytes and the buffers at entry, and the buffers at exit: every number and every byte is the definition's (`is`),
-- and so the call has its row of the table, and number 0 has bought demand 3 (`means`).
pub record Handed (c : Corners) (bs result trail work : List ℕ) (a : Result Totals Refusal) (result' trail' work' : List ℕ) : Type 0 where
  pub is : outcome_of a result' trail' work' ≡ outcome standard c bs result trail work
  pub means : EveryCall standard c bs result trail work (outcome_of a result' trail' work')

-- The same for callers in other languages, who get the answer as five numbers.
pub record HandedOver (c : Corners) (bs result trail work told result' trail' work' : List ℕ) : Type 0 where
  pub answer : Result Totals Refusal
  pub are : told ≡ numbers answer
  pub handed : Handed c bs result trail work answer result' trail' work'

-- What an answer is made from, before the buffers are cleared behind it: the definition's answer to the bytes.
pub record Answered (reading : Corners) (bs result trail : List ℕ) (r : Result Ended Refusal) : Type 0 where
  pub is : AnswerIs result trail r (answer_to standard reading bs)
  pub short : IfOk r Short

-- A sheet of good length, and buffers that are long enough.
pub record Lent (bs result trail work : List ℕ) : Type 0 where
  pub long : is_length (length bs) ≡ true
  pub buffers : Buffers result trail work

-- Zeros from a place of a buffer on.
pub record ClearedFrom (before after : List ℕ) (at : ℕ) : Type 0 where
  pub is : after ≡ take at before ++ replicate (length before - at) 0

-- Buffers of these lengths are long enough.
abbrev pub lent_by : (result trail work : ℕ) → Bool
lent_by result trail work = leb result_bytes result && (leb trail_bytes trail && leb work_bytes work)

-- The reader found a sheet, and this is what it read of it.
pub record WasSheet (bs : List ℕ) (r : Reading) : Type 0 where
  pub found : ReadAs (read_words (words bs)) (Ok r)
