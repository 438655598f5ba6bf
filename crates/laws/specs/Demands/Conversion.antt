-- What is promised of the forms of a sheet and of the conversion of an old one: words and tree are one another's in every form, each
-- call of `convert` is in one row of a table, and the tree stays. And of calls: a run copies them, with their precedences.
use Rattle.std.specs.Prelude.{ℕ, zero, suc, ◌≤◌, ◌<◌, ◌-◌, ◌+◌, ◌*◌, ◌≡◌, true, length, take, drop, replicate}
use mathlib.Core.List.{List, [], ◌∷◌, ◌++◌, flat_map, Memᴰ}
use Rattle.grammar.specs.Form.{Form, first_form}
use Rattle.grammar.specs.Tree.{Call, Leaf, epsilon, action, predicate, call, token, terminal, end_of_input, Element, leaf, block}
use Rattle.grammar.specs.Tree.{AlternativeOf, Block, Rule, Sheet, body_depth}
use Rattle.grammar.specs.Words.{words, bytes}
use Rattle.grammar.specs.Encode.{encode, encode_in}
use Rattle.grammar.specs.Valid.{valid_in, fits_in}
use Rattle.grammar.specs.Reading.{sheet, read, read_in}
use Rattle.grammar.specs.Numbers.{most_bytes, result_bytes, work_bytes}
use Rattle.grammar.specs.Convert.{Converted, conversion}
use Rattle.grammar.specs.Corners.{Corners}
use Rattle.grammar.specs.Laws.Words.{AreBytes}
use Rattle.language.specs.Shape.{erase_rules}
use Rattle.reference.specs.Substitute.{Limits}
use Rattle.reference.specs.Run.{Stage, ended, eliminate_mutual_left_recursion, sheet_after}
use Rattle.laws.specs.Examples.{sum_of_before, sum_of_today, ends_early, ends_late}
use Rattle.laws.specs.Demands.Marks.{on_sheet}
use Rattle.laws.specs.Demands.Sameness.{same}
use Rattle.laws.specs.Demands.Shape.{SameStrings}
use Rattle.laws.specs.Demands.Table.{GoodLength, FailsIn, PassesIn, zeros, Holds}

-- The calls of a tree, in the order in which they stand.
unfoldable pub leaf_calls : Leaf → List Call
leaf_calls epsilon = []
leaf_calls (action a) = []
leaf_calls (predicate p) = []
leaf_calls (call c) = c ∷ []
leaf_calls (token n) = []
leaf_calls terminal = []
leaf_calls end_of_input = []

module _ {B : Type 0} (of_b : B → List Call) where
  unfoldable pub element_calls : Element B → List Call
  element_calls (leaf h l) = leaf_calls l
  element_calls (block h b) = of_b b

  abbrev pub alternative_calls : AlternativeOf B → List Call
  alternative_calls a = flat_map element_calls a.elements

unfoldable pub block_calls : (d : ℕ) → Block d → List Call
block_calls zero b = absurd b
block_calls (suc d) as' = flat_map (alternative_calls (block_calls d)) as'

abbrev pub calls_in : List Rule → List Call
calls_in = flat_map λ r. block_calls body_depth r.body

abbrev pub NoPrecedence : List Rule → Type 0
NoPrecedence rs = (c : Call) → Memᴰ c (calls_in rs) → c.precedence ≡ 0

-- Of a form: what is read of an encoding, and what is read at all; and that trees with the same words are equal.
pub record CodecIn (f : Form) : Type 0 where
  pub reads_back : (s : Sheet) → valid_in f s ≡ true → fits_in f s ≡ true → read_in f (bytes (encode_in f s)) ≡ sheet s
  pub is_encoding : (bs : List ℕ) → AreBytes bs → (s : Sheet) → read_in f bs ≡ sheet s → bytes (encode_in f s) ≡ bs
  pub accepted_valid : (bs : List ℕ) → AreBytes bs → (s : Sheet) → read_in f bs ≡ sheet s
      → (valid_in f s ≡ true) × (fits_in f s ≡ true)
  pub one_tree : (s t : Sheet) → valid_in f s ≡ true → valid_in f t ≡ true → encode_in f s ≡ encode_in f t → s ≡ t

-- What refusal 2 of the conversion excludes.
pub record Lends (result work : List ℕ) : Type 0 where
  pub for_result : result_bytes ≤ length result
  pub for_work : work_bytes ≤ length work

-- A refusal, with what stands in the buffers.
abbrev pub refused_with : (number : ℕ) → (result work : List ℕ) → Converted
refused_with n result work = record { number = n; result_length = 0; result = result; work = work }

-- What a conversion delivers.
pub record Delivers (result work : List ℕ) (s : Sheet) (c : Converted) : Type 0 where
  pub number : c.number ≡ 0
  pub result_length : c.result_length ≡ 4 * length (encode s)
  pub result_holds : Holds (encode s) result c.result
  pub work_holds : c.work ≡ zeros work

-- The table of the conversion. The rows exclude each other, so that each is given exactly where its condition holds.
module _ (bs result work : List ℕ) where
  abbrev pub cleared : ℕ → Converted
  cleared n = refused_with n (zeros result) (zeros work)

  pub data ConvertRow (c : Converted) : Type 0 where
    bad_length : (GoodLength bs → ⊥) → c ≡ refused_with 1 result work → ConvertRow c
    not_lent : GoodLength bs → (Lends result work → ⊥) → c ≡ refused_with 2 result work → ConvertRow c
    not_read : GoodLength bs → Lends result work → {n : ℕ} → FailsIn first_form (words bs) n → c ≡ cleared n → ConvertRow c
    too_long : GoodLength bs → Lends result work → {s : Sheet} → PassesIn first_form (words bs) s → most_bytes < 4 * length (encode s)
        → c ≡ cleared 9 → ConvertRow c
    is_converted : GoodLength bs → Lends result work → {s : Sheet} → PassesIn first_form (words bs) s
        → 4 * length (encode s) ≤ most_bytes
        → Delivers result work s c → ConvertRow c

-- What number 0 means: one tree stands in the old sheet and in the new one, so that rules, strings and cycles are the same. It has no
-- precedences, and a run makes none.
pub record ConvertReads (bs result : List ℕ) (c : Converted) : Type 0 where
  pub tree : Sheet
  pub before : read_in first_form bs ≡ sheet tree
  pub after : read (take c.result_length c.result) ≡ sheet tree
  pub none : NoPrecedence tree.rules
  pub behind : drop c.result_length c.result ≡ replicate (length result - c.result_length) 0
  pub same_length : length c.result ≡ length result
  pub none_made : (limits : Limits) (corners : Corners) (stages : List Stage)
      → eliminate_mutual_left_recursion limits corners tree ≡ ended stages → NoPrecedence (sheet_after tree stages).rules

-- Two old sheets with one new sheet are equal. The length is part of it: a sheet may have zeros at its end, and with more of them
-- behind it can be read as another.
abbrev pub ConvertApart : (bs bs' result result' work work' : List ℕ) → Type 0
ConvertApart bs bs' result result' work work' =
    let c = conversion first_form bs result work in
    let c' = conversion first_form bs' result' work' in
    c.number ≡ 0 → c'.number ≡ 0 → take c.result_length c.result ≡ take c'.result_length c'.result → bs ≡ bs'

-- The new sheet has four bytes more for each call.
abbrev pub ConvertLength : (bs result work : List ℕ) → Type 0
ConvertLength bs result work =
    let c = conversion first_form bs result work in
    (s : Sheet) → read_in first_form bs ≡ sheet s → c.number ≡ 0 → c.result_length ≡ length bs + 4 * length (calls_in s.rules)

-- Each call in what a run leaves is one of the sheet handed in, with its name, its arguments and its precedence.
pub record CallsCopied (s : Sheet) (stages : List Stage) : Type 0 where
  pub copied : (c : Call) → Memᴰ c (calls_in (sheet_after s stages).rules) → Memᴰ c (calls_in s.rules)

-- Derivation does not look at precedences.
pub record PrecedencesUnseen (f : ℕ → ℕ) (s : Sheet) : Type 0 where
  pub same_shapes : erase_rules body_depth (on_sheet same same f s).rules ≡ erase_rules body_depth s.rules
  pub same_strings : SameStrings s.rules (on_sheet same same f s).rules

-- SPECIFICATION 15.20. The sheet of 15.1 has 276 bytes in the first form and 288 in the newest.
pub record SumConverted : Type 0 where
  pub old_length : length (bytes sum_of_before) ≡ 276
  pub converted : (result work : List ℕ) → Lends result work
      → conversion first_form (bytes sum_of_before) result work
      ≡ record {
        number = 0;
        result_length = 288;
        result = bytes sum_of_today ++ replicate (length result - 288) 0;
        work = zeros work;
      }

-- Why ConvertApart asks for the length: two old sheets without calls, each its own conversion, the second with two zeros more, and
-- the same result.
pub record LengthTells : Type 0 where
  pub apart : bytes ends_early ≡ bytes ends_late → ⊥
  pub early : (result work : List ℕ) → Lends result work → (conversion first_form (bytes ends_early) result work).number ≡ 0
  pub late : (result work : List ℕ) → Lends result work → (conversion first_form (bytes ends_late) result work).number ≡ 0
  pub same_result : (result work : List ℕ) → Lends result work
      → (conversion first_form (bytes ends_early) result work).result ≡ (conversion first_form (bytes ends_late) result work).result
