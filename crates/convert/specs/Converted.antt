-- What a call of the conversion hands back: the whole of it, by equality with the definition.
use Rattle.std.specs.Prelude.{ℕ, ◌-◌, ◌*◌, ◌≤◌, ◌≡◌, List, [], ◌∷◌, ◌++◌, Bool, true, ◌&&◌, length, take, replicate, leb, Result, Ok, Err}
use Rattle.std.specs.Prelude.{MatchResult}
use Rattle.grammar.specs.Numbers.{result_bytes, work_bytes, most_words}
use Rattle.grammar.specs.Form.{first_form}
use Rattle.grammar.specs.Words.{words}
use Rattle.grammar.specs.Reading.{is_length}
use Rattle.grammar.specs.Convert.{Converted, untouched, conversion}
use Rattle.words.specs.declared.numbers.Refusal.{Refusal}
use Rattle.words.specs.Refusal.{refusal_number}

-- The two numbers of an answer, in the order in which callers in other languages are given them.
abbrev pub numbers : Result ℕ Refusal → List ℕ
numbers (Err e) = refusal_number e ∷ 0 ∷ []
numbers (Ok n) = 0 ∷ n ∷ []

-- An answer with what stands in the buffers.
abbrev pub converted_of : Result ℕ Refusal → (result work : List ℕ) → Converted
converted_of (Err e) result work = untouched (refusal_number e) result work
converted_of (Ok n) result work = record { number = 0; result_length = n; result = result; work = work }

-- Of the sheet's bytes and the buffers at entry, and the buffers at exit: every number and every byte is the definition's.
pub record Handed (bs result work : List ℕ) (a : Result ℕ Refusal) (result' work' : List ℕ) : Type 0 where
  pub is : converted_of a result' work' ≡ conversion first_form bs result work

-- The same for callers in other languages, who get the answer as two numbers.
pub record HandedOver (bs result work told result' work' : List ℕ) : Type 0 where
  pub answer : Result ℕ Refusal
  pub are : told ≡ numbers answer
  pub handed : Handed bs result work answer result' work'

-- Buffers of these lengths are long enough.
abbrev pub lent_by : (result work : ℕ) → Bool
lent_by result work = leb result_bytes result && leb work_bytes work

-- A sheet of good length, and buffers that are long enough.
pub record Lent (bs result work : List ℕ) : Type 0 where
  pub long : is_length (length bs) ≡ true
  pub enough : lent_by (length result) (length work) ≡ true

-- The words of a sheet stand in front of the result.
pub record Written (found : Result (List ℕ) ℕ) (result : List ℕ) (n : ℕ) : Type 0 where
  pub sheet : List ℕ
  pub is : found ≡ Ok sheet
  pub count : n ≡ length sheet
  pub few : n ≤ most_words
  pub room : 4 * n ≤ length result
  pub are : take n (words result) ≡ sheet

-- What is handed back before the buffers are cleared.
abbrev pub Answered : Result (List ℕ) ℕ → (result : List ℕ) → Result ℕ Refusal → Type 0
Answered found result r = MatchResult r (Written found result) (λ e. found ≡ Err (refusal_number e))

-- Zeros from a place of a buffer on.
pub record ClearedFrom (before after : List ℕ) (at : ℕ) : Type 0 where
  pub is : after ≡ take at before ++ replicate (length before - at) 0
