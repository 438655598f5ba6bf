-- The whole reader: from a sheet's bytes to a refusal (SPECIFICATION 4) or the tree that stands there.
-- Refusal 2 is about lent buffers and belongs to the entry that lends them.
use Rattle.std.specs.Prelude.{ℕ, ◌+◌, ◌-◌, ◌%◌, List, [], ◌∷◌, Bool, true, false, ◌&&◌, length, get_or, take, drop, leb, eqb}
use Rattle.grammar.specs.Numbers.{least_bytes, most_bytes, trailer_words}
use Rattle.grammar.specs.Numbers.{bad_length, bad_trailer, bad_record, shared_number, id_past_counter}
use Rattle.grammar.specs.Tree.{Rule, Counters, Sheet}
use Rattle.grammar.specs.Words.{words}
use Rattle.grammar.specs.Parse.{Got, got, bad, ◌then◌, given}
use Rattle.grammar.specs.Form.{Form, newest}
use Rattle.grammar.specs.Read.{rules_at_in}
use Rattle.grammar.specs.Ids.{is_distinct, is_below}
use Rattle.grammar.specs.Valid.{rule_limit, is_kind}
use Rattle.grammar.specs.Lists.{rising}

pub data Reading : Type 0 where
  refused : (number : ℕ) → Reading
  sheet : Sheet → Reading

-- The reader's refusals.
abbrev pub refusals : List ℕ
refusals = bad_length ∷ bad_trailer ∷ bad_record ∷ shared_number ∷ id_past_counter ∷ []

-- Refusal 1 excludes every other length in bytes.
abbrev pub is_length : ℕ → Bool
is_length n = leb least_bytes n && (leb n most_bytes && eqb (n % 4) 0)

module _ (ws : List ℕ) where
  -- Where the trailer begins.
  abbrev pub trailer : ℕ
  trailer = length ws - trailer_words

  abbrev pub unit_kind : ℕ
  unit_kind = get_or ws trailer 0

  abbrev pub first_distance : ℕ
  first_distance = get_or ws (trailer + 1) 0

  abbrev pub second_distance : ℕ
  second_distance = get_or ws (trailer + 2) 0

  -- Refusal 3 excludes every other trailer.
  unfoldable pub is_trailer : Bool
  is_trailer = is_kind unit_kind && (eqb first_distance trailer && leb second_distance first_distance)

  -- Where the rules end and the preserved list begins.
  abbrev pub rules_end : ℕ
  rules_end = trailer - second_distance

  unfoldable pub preserved_ids : List ℕ
  preserved_ids = take second_distance (drop rules_end ws)

  unfoldable pub counters_of : Counters
  counters_of =
      record {
        alternative = get_or ws (trailer + 3) 0;
        element = get_or ws (trailer + 4) 0;
        label = get_or ws (trailer + 5) 0;
        action = get_or ws (trailer + 6) 0;
        predicate = get_or ws (trailer + 7) 0;
      }

  unfoldable pub sheet_of : List Rule → Sheet
  sheet_of rs = record { kind = unit_kind; rules = rs; preserved = preserved_ids; counters = counters_of }

  -- Refusals 5 and 6, the lower first.
  unfoldable pub judge : Got (List Rule) → Reading
  judge bad = refused bad_record
  judge (got rs q) =
      elim (is_distinct rs) [
        | false ↦ refused shared_number
        | true ↦ elim (is_below counters_of rs) [ false ↦ refused id_past_counter | true ↦ sheet (sheet_of rs) ]
      ]

module _ (f : Form) (ws : List ℕ) where
  -- The records in front of the trailer; `bad` is refusal 4.
  unfoldable pub rules_of_in : Got (List Rule)
  rules_of_in = rules_at_in f ws (rules_end ws) rule_limit 0 then λ rs q. given (rising (preserved_ids ws)) λ _. got rs q

  unfoldable pub read_words_in : Reading
  read_words_in = elim (is_trailer ws) [ false ↦ refused bad_trailer | true ↦ judge ws rules_of_in ]

unfoldable pub read_in : Form → List ℕ → Reading
read_in f bs = elim (is_length (length bs)) [ false ↦ refused bad_length | true ↦ read_words_in f (words bs) ]

-- In the newest form.
abbrev pub rules_of : List ℕ → Got (List Rule)
rules_of = rules_of_in newest

abbrev pub read_words : List ℕ → Reading
read_words = read_words_in newest

abbrev pub read : List ℕ → Reading
read = read_in newest
