-- The newest words of a sheet's tree in front of a buffer.
use Rattle.std.specs.Prelude.{ℕ, ◌+◌, ◌-◌, ◌*◌, ◌/◌, ◌≤◌, ◌≡◌, List, [], ◌∷◌, ◌++◌, true, length, take, drop, Result, MatchResult}
use Rattle.grammar.specs.Numbers.{least_bytes, most_bytes, trailer_words}
use Rattle.grammar.specs.Tree.{Sheet}
use Rattle.grammar.specs.Form.{first_form}
use Rattle.grammar.specs.Words.{words}
use Rattle.grammar.specs.Encode.{encode}
use Rattle.grammar.specs.Parse.{got}
use Rattle.grammar.specs.Found.{FoundRulesIn}
use Rattle.grammar.specs.Reading.{refused, is_trailer, rules_of_in, read_words_in, read_words}
use Rattle.words.specs.declared.numbers.Refusal.{Refusal}
use Rattle.words.specs.Refusal.{refusal_number}
use Rattle.sheet.specs.Answer.{EndAt}
use Rattle.writing.specs.Wrote.{Wrote}

-- A buffer with room for the newest words of every sheet: an eighth more than a sheet's.
abbrev pub wide_bytes : ℕ
wide_bytes = 36864

-- A sheet of good length, and a buffer for an eighth more.
pub record Widenable (bs wide : List ℕ) : Type 0 where
  pub least : least_bytes ≤ length bs
  pub most : length bs ≤ most_bytes
  pub room : 9 * length bs ≤ 8 * length wide

-- What passes refusals 3 and 4 in the first form: its trailer begins at t, and n rules stand in front of the preserved ids.
pub record Readable (bs : List ℕ) (t end n : ℕ) : Type 0 where
  pub place : EndAt bs t end
  pub good : is_trailer (words bs) ≡ true
  pub found : FoundRulesIn first_form (words bs) end n 0
  pub ends : found.next ≡ end
  pub all_of : rules_of_in first_form (words bs) ≡ got found.trees end

-- The rules end in front of the trailer, and in the newest words there is an eighth more of them at most.
pub record Behind (bs : List ℕ) (t end to : ℕ) : Type 0 where
  pub place : t ≡ length bs / 4 - trailer_words
  pub within : end ≤ t
  pub eighth : 8 * to ≤ 9 * end

-- The preserved ids and the trailer were written, with a first distance of their own.
pub record Finished (ws : List ℕ) (t end to : ℕ) (out out' : List ℕ) (n : ℕ) : Type 0 where
  pub count : n ≡ to + (t - end) + trailer_words
  pub wrote : Wrote out out' to ((take (t + 1 - end) (drop end ws) ++ ((to + (t - end)) ∷ [])) ++ take 6 (drop (t + 2) ws))

-- The newest words of a tree are the first n words.
pub record InFront (s : Sheet) (wide : List ℕ) (n : ℕ) : Type 0 where
  pub count : n ≡ length (encode s)
  pub room : 4 * n ≤ length wide
  pub are : take n (words wide) ≡ encode s

-- So they are, and they are judged as the words of the first form are.
pub record Newest (ws wide : List ℕ) (n : ℕ) : Type 0 where
  pub tree : Sheet
  pub front : InFront tree wide n
  pub judged : read_words (encode tree) ≡ read_words_in first_form ws

-- A refusal by 3 or 4, or the newest words.
abbrev pub WidenedAs : (ws wide : List ℕ) → Result ℕ Refusal → Type 0
WidenedAs ws wide r = MatchResult r (Newest ws wide) (λ e. read_words_in first_form ws ≡ refused (refusal_number e))
