-- The conversion of a sheet of an older form: the same tree, in the words of the newest form. The older form has no place for a
-- call's precedence, which is 0 then.
use Rattle.std.specs.Prelude.{ℕ, ◌*◌, ◌-◌, List, ◌++◌, true, false, ◌&&◌, length, replicate, leb, Result, Ok, Err}
use Rattle.grammar.specs.Numbers.{result_bytes, work_bytes, most_words, bad_length, short_buffer, result_too_long}
use Rattle.grammar.specs.Words.{bytes}
use Rattle.grammar.specs.Form.{Form}
use Rattle.grammar.specs.Encode.{encode}
use Rattle.grammar.specs.Reading.{Reading, refused, sheet, is_length, read_in}

-- What a call of the conversion hands back: 0 or the refusal's number, the length of the new sheet in bytes, and the two buffers.
pub record Converted : Type 0 where
  pub number : ℕ
  pub result_length : ℕ
  pub result : List ℕ
  pub work : List ℕ

-- The newest words of the tree that was read, or a refusal: the reader's, or 9 where they are too many for a sheet.
unfoldable pub newest_words : Reading → Result (List ℕ) ℕ
newest_words (refused n) = Err n
newest_words (sheet s) = elim (leb (length (encode s)) most_words) [ false ↦ Err result_too_long | true ↦ Ok (encode s) ]

-- Refusals 1 and 2 touch nothing.
abbrev pub untouched : ℕ → (result work : List ℕ) → Converted
untouched n result work = record { number = n; result_length = 0; result = result; work = work }

-- Every other refusal leaves zeros; a sheet stands in front of zeros.
unfoldable pub delivered : Result (List ℕ) ℕ → (result work : List ℕ) → Converted
delivered (Err n) result work =
    record { number = n; result_length = 0; result = replicate (length result) 0; work = replicate (length work) 0 }
delivered (Ok ws) result work =
    record {
      number = 0;
      result_length = 4 * length ws;
      result = bytes ws ++ replicate (length result - 4 * length ws) 0;
      work = replicate (length work) 0;
    }

-- Of the bytes of a sheet of a form and the buffers as they were lent.
unfoldable pub conversion : Form → (bs result work : List ℕ) → Converted
conversion f bs result work =
    elim (is_length (length bs)) [
      | false ↦ untouched bad_length result work
      | true ↦
          elim (leb result_bytes (length result) && leb work_bytes (length work)) [
            | false ↦ untouched short_buffer result work
            | true ↦ delivered (newest_words (read_in f bs)) result work
          ]
    ]
