-- What is promised of answers: units of another kind come back, and what is answered is a valid sheet's encoding: 10, 11.
use Rattle.std.specs.Prelude.{ℕ, ◌≤◌, ◌<◌, ◌≡◌, true, length}
use mathlib.Core.List.{List, [], Memᴰ}
use Rattle.grammar.specs.Lists.{each}
use Rattle.grammar.specs.Tree.{Sheet}
use Rattle.grammar.specs.Words.{words, bytes}
use Rattle.grammar.specs.Encode.{encode}
use Rattle.grammar.specs.Valid.{valid, fits}
use Rattle.grammar.specs.Reading.{sheet, read}
use Rattle.grammar.specs.Corners.{Corners}
use Rattle.grammar.specs.Numbers.{word_end}
use Rattle.reference.specs.Numbers.{most_trail_words}
use Rattle.reference.specs.Substitute.{Limits}
use Rattle.reference.specs.Run.{Stage, ended, eliminate_mutual_left_recursion, sheet_after, steps_of, encode_entry}
use Rattle.reference.specs.Run.{entries_of, answer, answer_to, filled, are_lent, outcome}
use Rattle.laws.specs.Demands.Shape.{SecondSort}
use Rattle.laws.specs.Demands.Run.{Bound, Demand3}
use Rattle.laws.specs.Demands.Trail.{OriginsTold}

-- 10. A lexer or combined unit comes back word for word, byte for byte (SPECIFICATION 5.1).
pub record ComesBack (limits : Limits) (c : Corners) (bs : List ℕ) : Type 0 where
  pub answered : answer_to limits c bs ≡ answer 0 0 (words bs) []
  pub whole : (result trail work : List ℕ) → are_lent result trail work ≡ true
      → outcome limits c bs result trail work
      ≡ record {
        number = 0;
        plans = 0;
        steps = 0;
        result_length = length bs;
        trail_length = 0;
        result = filled bs result;
        trail = filled [] trail;
        work = filled [] work;
      }

-- 11. A valid tree that fits a sheet: the reader accepts its encoding and finds it again.
pub record ReadsBack (t : Sheet) : Type 0 where
  pub is_valid : valid t ≡ true
  pub is_fitting : fits t ≡ true
  pub found : read (bytes (encode t)) ≡ sheet t

-- The words of an answer: those of such a tree, and a trail that has room (SPECIFICATION 4.9 and
-- 12.1).
pub record GoodAnswer (tree : Sheet) (result trail : List ℕ) : Type 0 where
  pub is_encoding : encode tree ≡ result
  pub reads_back : ReadsBack tree
  pub short : length trail ≤ most_trail_words
  pub are_words : (w : ℕ) → Memᴰ w trail → w < word_end

-- The run behind an answer that is no refusal, with demand 3, the bound, the origins and validity.
pub record Answered (limits : Limits) (corners : Corners) (bs : List ℕ) (plans steps : ℕ) (result trail : List ℕ) : Type 0 where
  pub handed_in : Sheet
  pub reads : read bs ≡ sheet handed_in
  pub stages : List Stage
  pub run : eliminate_mutual_left_recursion limits corners handed_in ≡ ended stages
  pub plans_are : length stages ≡ plans
  pub steps_are : steps_of stages ≡ steps
  pub trail_is : each encode_entry (entries_of stages) ≡ trail
  pub demand : Demand3 handed_in limits corners (SecondSort corners) stages
  pub plans_few : Bound handed_in limits corners stages
  pub origins_told : OriginsTold (entries_of stages)
  pub good : GoodAnswer (sheet_after handed_in stages) result trail
