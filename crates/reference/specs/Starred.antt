-- The starred grammars of SPECIFICATION 15 have by the definition the answers that the original gives, and the buffers
-- of some calls end as SPECIFICATION 3 and 4 say, byte for byte. One theorem closes both tables by computation.
use Rattle.std.specs.Prelude.{ℕ, ◌+◌, ◌-◌, ◌≡◌, refl, List, [], ◌∷◌, ◌++◌, Bool, true, false, ◌&&◌, length, replicate, eqb}
use Rattle.grammar.specs.Lists.{each, all, same}
use Rattle.grammar.specs.Numbers.{result_bytes, trail_bytes, work_bytes, bad_length, short_buffer}
use Rattle.grammar.specs.Words.{bytes}
use Rattle.grammar.specs.Encode.{encode}
use Rattle.grammar.specs.Corners.{rust}
use Rattle.reference.specs.Substitute.{standard}
use Rattle.reference.specs.Run.{Answer, refusal, answer, encode_entry, Outcome, outcome}
use Rattle.reference.specs.Computed.{computed}
use Rattle.reference.specs.Worked.{Case, case4, starred}

unfoldable pub same_answer : Answer → Answer → Bool
same_answer (refusal m) (refusal n) = eqb m n
same_answer (refusal m) (answer p s ws ts) = false
same_answer (answer p s ws ts) (refusal n) = false
same_answer (answer p s ws ts) (answer p' s' ws' ts') = eqb p p' && (eqb s s' && (same ws ws' && same ts ts'))

unfoldable pub holds : Case → Bool
holds c =
    same_answer (computed rust (encode c.sheet))
    (answer c.plans c.steps (encode c.result) (each encode_entry c.trail))

-- The buffers of a call: so many bytes, and none of them is 0.
pub record Lent : Type 0 where
  pub result : ℕ
  pub trail : ℕ
  pub work : ℕ

abbrev pub result_of : Lent → List ℕ
result_of l = replicate l.result 7

abbrev pub trail_of : Lent → List ℕ
trail_of l = replicate l.trail 8

abbrev pub work_of : Lent → List ℕ
work_of l = replicate l.work 9

-- A call, the five numbers that it gives, and what stands in its buffers at exit.
pub record Call : Type 0 where
  pub sheet : List ℕ
  pub lent : Lent
  pub numbers : List ℕ
  pub result : List ℕ
  pub trail : List ℕ
  pub work : List ℕ

-- Bytes, and zeros up to a length.
abbrev pub zeros_behind : List ℕ → ℕ → List ℕ
zeros_behind bs n = bs ++ replicate (n - length bs) 0

abbrev pub long : Lent
long = record { result = result_bytes + 5; trail = trail_bytes + 3; work = work_bytes + 1 }

-- SPECIFICATION 15.4, of one plan and two steps, with buffers longer than asked for.
abbrev pub joining : Call
joining =
    let sheet = bytes (encode case4.result) in
    let trail = bytes (each encode_entry case4.trail) in
    record {
      sheet = bytes (encode case4.sheet);
      lent = long;
      numbers = 0 ∷ 1 ∷ 2 ∷ length sheet ∷ length trail ∷ [];
      result = zeros_behind sheet long.result;
      trail = zeros_behind trail long.trail;
      work = zeros_behind [] long.work;
    }

-- Refusals 1 and 2: the buffers are as they were.
abbrev pub untouched : (number : ℕ) → List ℕ → Lent → Call
untouched n bs l =
    record {
      sheet = bs;
      lent = l;
      numbers = n ∷ replicate 4 0;
      result = result_of l;
      trail = trail_of l;
      work = work_of l;
    }

-- A trail buffer a byte too short; 28 bytes, whatever the buffers.
abbrev pub calls : List Call
calls =
    joining
    ∷ untouched short_buffer joining.sheet (record { result = result_bytes; trail = trail_bytes - 1; work = work_bytes })
    ∷ untouched bad_length (replicate 28 0) (record { result = 2; trail = 1; work = 3 })
    ∷ []

unfoldable pub same_outcome : Call → Outcome → Bool
same_outcome c o =
    same (o.number ∷ o.plans ∷ o.steps ∷ o.result_length ∷ o.trail_length ∷ []) c.numbers
    && (same o.result c.result && (same o.trail c.trail && same o.work c.work))

unfoldable pub ends : Call → Bool
ends c = same_outcome c (outcome standard rust c.sheet (result_of c.lent) (trail_of c.lent) (work_of c.lent))

-- Every row of both tables holds, by computation.
pub starred_hold : (all holds starred && all ends calls) ≡ true
unfolding computed same same_answer holds same_outcome ends
starred_hold = refl
