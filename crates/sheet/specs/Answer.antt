-- The reader's answer (SPECIFICATION 3.9): the refusal's number, or the sheet's parts and its rules.
use Rattle.std.specs.Prelude.{ℕ, ◌+◌, ◌-◌, ◌*◌, ◌/◌, ◌<◌, ◌≤◌, ◌≡◌, List, [], ◌∷◌, true, false, length, get_or, replicate, leb}
use Rattle.std.specs.Prelude.{Option, Some, is_some, Result, Ok, Err}
use Rattle.grammar.specs.Numbers.{least_bytes, trailer_words, word_end, rule_limit, work_bytes}
use Rattle.grammar.specs.Numbers.{bad_length, short_buffer}
use Rattle.grammar.specs.Tree as tree
use Rattle.grammar.specs.Words.{words}
use Rattle.grammar.specs.Encode.{encode_rules, encode_counters}
use Rattle.grammar.specs.Reading as reading
use Rattle.grammar.specs.Reading.{refused, sheet, is_length, is_trailer, read}
use Rattle.writing.specs.declared.counters.Counters.{Counters}
use Rattle.writing.specs.Taken.{counters_of}
use Rattle.words.specs.declared.numbers.Refusal.{Refusal}
use Rattle.words.specs.declared.numbers.UnitKind.{UnitKind}
use Rattle.words.specs.Kinds.{unit_number}
use Rattle.words.specs.Refusal.{refusal_number}
use Rattle.records.specs.declared.rules.Rules.{Rules}
use Rattle.sheet.specs.declared.answer.Parts.{Parts}
use Rattle.sheet.specs.declared.answer.Reading.{Reading}
use Rattle.records.specs.Rules.{RowsOf}

pub record CountersAt (ws : List ℕ) (t : ℕ) (c : Counters) : Type 0 where
  pub alternative : c.alternative ≡ get_or ws (t + 3) 0
  pub element : c.element ≡ get_or ws (t + 4) 0
  pub label : c.label ≡ get_or ws (t + 5) 0
  pub action : c.action ≡ get_or ws (t + 6) 0
  pub predicate : c.predicate ≡ get_or ws (t + 7) 0

-- The parts as numbers.
pub record Numbers : Type 0 where
  pub kind : ℕ
  pub preserved : ℕ
  pub count : ℕ
  pub counters : Counters

abbrev pub numbers_in : Parts → Numbers
numbers_in p = record { kind = unit_number p.kind; preserved = p.preserved; count = p.count; counters = p.counters }

-- The parts of a sheet: the preserved list begins where the rules end.
abbrev pub parts_of : tree.Sheet → Numbers
parts_of s =
    record {
      kind = s.kind;
      preserved = length (encode_rules s.rules);
      count = length s.preserved;
      counters =
          record {
            alternative = s.counters.alternative;
            element = s.counters.element;
            label = s.counters.label;
            action = s.counters.action;
            predicate = s.counters.predicate;
          };
    }

abbrev pub answer_of : reading.Reading → Result Numbers ℕ
answer_of (refused n) = Err n
answer_of (sheet s) = Ok (parts_of s)

-- The same of what the code answers.
abbrev pub told_of : Result Reading Refusal → Result Numbers ℕ
told_of (Err e) = Err (refusal_number e)
told_of (Ok r) = Ok (numbers_in r.parts)

-- What is read, by its rules and what the judgement of them is.
abbrev pub reading_of : Rules → Result Parts Refusal → Result Reading Refusal
reading_of rules (Ok parts) = Ok (record { parts = parts; rules = rules })
reading_of rules (Err e) = Err e

-- The number for each case of the answer, 0 for a sheet, and the values that the case has (SPECIFICATION 3.8): unit kind,
-- place and length of the preserved list, and the five counters.
abbrev pub number_of : Result Reading Refusal → ℕ
number_of (Err e) = refusal_number e
number_of (Ok r) = 0

abbrev pub values_of : Result Reading Refusal → List ℕ
values_of (Err e) = []
values_of (Ok r) = unit_number r.parts.kind ∷ r.parts.preserved ∷ r.parts.count ∷ encode_counters (counters_of r.parts.counters)

-- The same of what the definition finds.
abbrev pub number_in : reading.Reading → ℕ
number_in (refused n) = n
number_in (sheet s) = 0

abbrev pub values_in : reading.Reading → List ℕ
values_in (refused n) = []
values_in (sheet s) = s.kind ∷ length (encode_rules s.rules) ∷ length s.preserved ∷ encode_counters s.counters

-- What the code answers is what the definition finds: the case, and the number and values for it; of a sheet the arrays of its rules.
pub record ReadAs (found : reading.Reading) (r : Result Reading Refusal) : Type 0 where
  pub answer : told_of r ≡ answer_of found
  pub number : number_of r ≡ number_in found
  pub values : values_of r ≡ values_in found
  pub rows : (s : tree.Sheet) (x : Reading) → found ≡ sheet s → r ≡ Ok x → RowsOf s.rules x.rules

-- Bytes that a trailer fits into and a word counts, and a work area with room for the sheet and for a word of each rule. Every sheet of
-- good length is lent so, with a work area that is long enough; and so are longer ones.
pub record Lent (bs work : List ℕ) : Type 0 where
  pub least : least_bytes ≤ length bs
  pub most : length bs < word_end
  pub room : length bs + 4 * rule_limit ≤ length work

-- Whether the words at t are a good trailer, and the kind of unit that it names.
pub record TrailerRead (ws : List ℕ) (t : ℕ) (r : Option UnitKind) : Type 0 where
  pub good : is_some r ≡ is_trailer ws
  pub kind : (k : UnitKind) → r ≡ Some k → unit_number k ≡ get_or ws t 0

-- The trailer of a sheet of good length begins at t, the rules end there, and the preserved list stands between their end and the trailer.
pub record EndAt (bs : List ℕ) (t end : ℕ) : Type 0 where
  pub place : t ≡ length bs / 4 - trailer_words
  pub least : least_bytes ≤ length bs
  pub split : end + get_or (words bs) (t + 2) 0 ≡ t

-- The reader with a work area lent to it: refusal 2 where that is too short, behind refusal 1 (SPECIFICATION 3.7).
unfoldable pub read_lent : List ℕ → List ℕ → reading.Reading
read_lent bs work =
    elim (is_length (length bs)) [
      | false ↦ refused bad_length
      | true ↦ elim (leb work_bytes (length work)) [ false ↦ refused short_buffer | true ↦ read bs ]
    ]

-- The work area afterwards: untouched under 1 and 2, else zeros (SPECIFICATION 3.3 and 3.4).
unfoldable pub work_after : List ℕ → List ℕ → List ℕ
work_after bs work =
    elim (is_length (length bs)) [
      | false ↦ work
      | true ↦ elim (leb work_bytes (length work)) [ false ↦ work | true ↦ replicate (length work) 0 ]
    ]
