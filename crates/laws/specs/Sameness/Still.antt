-- A sheet whose run has no stage comes back as it was.
use Rattle.std.specs.Prelude.{ℕ, ◌*◌, ◌%◌, List, [], true, leb}
use Rattle.std.proofs.Math.Path.{◌≡◌, refl}
use native.Mathlib.Omega.{arith}
use Rattle.std.proofs.Math.ListN.{length}
use Rattle.std.specs.Cmp.{second_so}
use borrow.Author.Tests.{eqb-true}
use Rattle.grammar.specs.Form.{newest}
use Rattle.grammar.specs.Tree.{Sheet}
use Rattle.grammar.specs.Words.{words, bytes}
use Rattle.grammar.specs.Lists.{total}
use Rattle.grammar.specs.Reading.{refused, sheet, is_length, read, read_in}
use Rattle.grammar.specs.Corners.{Corners}
use Rattle.grammar.specs.Laws.Parse.{either}
use Rattle.grammar.specs.Laws.Words.{AreBytes, length_words, bytes_words}
use Rattle.grammar.specs.Laws.Codec.{is_encoding_words}
use Rattle.grammar.specs.Numbers.{most_bytes, least_bytes, bad_length}
use Rattle.reference.specs.Substitute.{Limits}
use Rattle.reference.specs.Run.{ended, eliminate_mutual_left_recursion, sheet_after, steps_of, entries_of, answer, answer_run}
use Rattle.reference.specs.Run.{answer_reading}
use Rattle.reference.specs.Run.{answer_to, filled, are_lent, delivered, outcome}

module _ (limits : Limits) (c : Corners) where
  -- No plan, no step, the same words, no entry.
  pub still_answer : (bs : List ℕ) (s : Sheet) → read bs ≡ sheet s → eliminate_mutual_left_recursion limits c s ≡ ended []
      → answer_to limits c bs ≡ answer 0 0 (words bs) []
  unfolding answer_to answer_reading answer_run steps_of total sheet_after entries_of
  still_answer bs s e n = rw (e, n, is_encoding_words newest bs s e) refl

  accepted_length : (bs : List ℕ) (s : Sheet) → read bs ≡ sheet s → is_length (length bs) ≡ true
  unfolding read_in
  accepted_length bs s e =
      either (is_length (length bs)) (λ t. t)
      (λ f. let g : refused bad_length ≡ sheet s = rw (f, read_in) at e in absurd (let z : ◌≡◌ {A = ℕ} 0 1 = cc in omega arith))

  -- The whole outcome: the same bytes.
  pub still_outcome : (bs result trail work : List ℕ) → AreBytes bs → (s : Sheet) → read bs ≡ sheet s
      → eliminate_mutual_left_recursion limits c s ≡ ended [] → are_lent result trail work ≡ true
      → outcome limits c bs result trail work
      ≡ record {
        number = 0;
        plans = 0;
        steps = 0;
        result_length = length bs;
        trail_length = 0;
        result = filled bs result;
        trail = filled [] trail;
        work = filled [] work;
      }
  unfolding outcome delivered bytes
  still_outcome bs result trail work b s e n l =
      let t = accepted_length bs s e in
      let whole = eqb-true (length bs % 4) 0 (second_so (leb (length bs) most_bytes) _ (second_so (leb least_bytes (length bs)) _ t)) in
      let size : 4 * length (words bs) ≡ length bs = let h = length_words bs in omega arith in
      rw (t, l, outcome) (rw (still_answer bs s e n) (rw (bytes_words bs b whole, size) refl))
