-- Lexer and combined units come back as they were.
use Rattle.std.specs.Prelude.{ℕ, ◌<◌, ◌≡◌, List, [], true, length, get_or}
use Rattle.std.proofs.Math.Path.{refl}
use Rattle.std.proofs.Common.{ne_eqb}
use Rattle.grammar.specs.Tree.{Sheet}
use Rattle.grammar.specs.Words.{words}
use Rattle.grammar.specs.Reading.{sheet, read}
use Rattle.grammar.specs.Corners.{Corners}
use Rattle.grammar.specs.Numbers.{parser}
use Rattle.reference.specs.Substitute.{Limits}
use Rattle.reference.specs.Run.{ended, eliminate_mutual_left_recursion, answer, answer_to, filled, are_lent, outcome}
use Rattle.laws.specs.Sameness.Still.{still_answer, still_outcome}

module _ (limits : Limits) (c : Corners) where
  -- The run has no stage.
  pub other_ends : (s : Sheet) → (s.kind ≡ parser → ⊥) → eliminate_mutual_left_recursion limits c s ≡ ended []
  unfolding eliminate_mutual_left_recursion
  other_ends s n = rw (ne_eqb s.kind parser n, eliminate_mutual_left_recursion) refl

  -- No plan, no step, the same words, no entry.
  pub other_answer : (bs : List ℕ) (s : Sheet) → read bs ≡ sheet s → (s.kind ≡ parser → ⊥)
      → answer_to limits c bs ≡ answer 0 0 (words bs) []
  other_answer bs s e n = still_answer limits c bs s e (other_ends s n)

  -- The whole outcome: the same bytes.
  pub other_outcome : (bs result trail work : List ℕ) → ((i : ℕ) → get_or bs i 0 < 256) → (s : Sheet) → read bs ≡ sheet s
      → (s.kind ≡ parser → ⊥)
      → are_lent result trail work ≡ true
      → outcome limits c bs result trail work
      ≡ record {
        number = 0;
        plans = 0;
        steps = 0;
        result_length = length bs;
        trail_length = 0;
        result = filled bs result;
        trail = filled [] trail;
        work = filled [] work;
      }
  other_outcome bs result trail work b s e n l = still_outcome limits c bs result trail work b s e (other_ends s n) l
