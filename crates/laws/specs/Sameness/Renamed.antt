-- From bytes: a sheet that passes 1 to 4, and the same with other names or other carried numbers.
use Rattle.std.specs.Prelude.{ℕ, zero, suc, ◌≤◌, ◌≡◌, refl, List, [], ◌∷◌, ◌++◌, true, false}
use Rattle.std.proofs.Common.{sym, ◌∙◌, arith, ltb-true, lt-ltb}
use Rattle.std.proofs.Math.Path.{ap, subst}
use Rattle.std.proofs.Math.ListN.{length}
use Rattle.std.proofs.lemmas.List.{length-map}
use Rattle.std.proofs.Math.Dec.{leb}
use Rattle.std.proofs.lemmas.Bool.{and_from}
use Rattle.std.specs.Cmp.{first_so, second_so}
use Rattle.grammar.specs.Form.{newest}
use Rattle.grammar.specs.Lists.{all, member}
use Rattle.grammar.specs.Laws.Words.{AreBytes, AreWords, words_bound, length_words, length_bytes, words_bytes}
use Rattle.grammar.specs.Words.{words, bytes}
use Rattle.grammar.specs.Read.{is_name}
use Rattle.grammar.specs.Numbers.{word_end, trailer_words, shared_number, id_past_counter}
use Rattle.grammar.specs.Encode.{encode, encode_rules, encode_counters, encode_in}
use Rattle.grammar.specs.Ids.{is_distinct, is_below}
use Rattle.grammar.specs.Valid.{rule_limit}
use Rattle.grammar.specs.Reading.{Reading, refused, sheet, is_length, is_trailer, rules_of, sheet_of, judge, read, read_in, read_words_in}
use Rattle.grammar.specs.Tree.{Sheet, body_depth}
use Rattle.grammar.specs.Laws.Whole.{Records, stands_encoded, encoded_stands}
use Rattle.laws.specs.Demands.Sameness.{TreeIn}
use Rattle.laws.specs.Lists.Every.{all_members}
use Rattle.laws.specs.Proved.Table.{good_length_lem, length_good}
use Rattle.laws.specs.Demands.Marks.{on_rule, on_block, on_sheet, names_in}
use Rattle.laws.specs.Sameness.Lengths.{body_length, whole_length}
use Rattle.laws.specs.Sameness.Good.{Good, rules_good}
use Rattle.laws.specs.Sameness.Fitting.{W, Wordy, wordy_both, wordy_left, wordy_right, rules_words}

-- Words by their places are words by the test, and the other way round.
words_wordy : (ws : List ℕ) → AreWords ws → Wordy ws
unfolding all
words_wordy [] h = refl
words_wordy (w ∷ ws) h = and_from (W w) _ (lt-ltb w word_end (h 0)) (words_wordy ws (λ i. h (suc i)))

wordy_words : (ws : List ℕ) → Wordy ws → AreWords ws
unfolding all
wordy_words [] h i = omega arith
wordy_words (w ∷ ws) h zero = ltb-true w word_end (first_so (W w) _ h)
wordy_words (w ∷ ws) h (suc i) = wordy_words ws (second_so (W w) _ h) i

-- What 5 and 6 make of a tree.
unfoldable pub reading_of : Sheet → Reading
reading_of t =
    elim (is_distinct t.rules) [
      | false ↦ refused shared_number
      | true ↦ elim (is_below t.counters t.rules) [ false ↦ refused id_past_counter | true ↦ sheet t ]
    ]

pub holds_read : (bs : List ℕ) (t : Sheet) → TreeIn bs t → read bs ≡ reading_of t
unfolding read_in read_words_in judge reading_of sheet_of
holds_read bs t h =
    rw (length_good bs h.good_length, read_in)
    (rw (h.trailer, read_words_in)
    (rw h.records
    (ap {B = Reading} (λ (s : Sheet). elim (is_distinct t.rules) as (λ x. Reading) [
      | false ↦ refused shared_number
      | true ↦ elim (is_below s.counters t.rules) as (λ x. Reading) [ false ↦ refused id_past_counter | true ↦ sheet s ]
    ]) h.is_sheet)))

module _ (bs : List ℕ) (b : AreBytes bs) (t : Sheet) (h : TreeIn bs t) where
  least : trailer_words ≤ length (words bs)
  least = let l = h.good_length.least in let w = length_words bs in omega arith

  encoded : encode t ≡ words bs
  encoded = ap encode (sym h.is_sheet) ∙ (stands_encoded newest (words bs) least h.trailer t.rules h.next h.records).0

  allowed : Records t
  allowed = subst Records h.is_sheet (stands_encoded newest (words bs) least h.trailer t.rules h.next h.records).1

  -- Other names that 4 allows, and other carried numbers and precedences that are words.
  module _ (f r pr : ℕ → ℕ) (word : (n : ℕ) → W n ≡ true → W (r n) ≡ true) (third : (n : ℕ) → W n ≡ true → W (pr n) ≡ true)
      (good : (n : ℕ) → member n (names_in t) ≡ true → is_name (f n) ≡ true) where
    abbrev t' : Sheet
    t' = on_sheet f r pr t

    abbrev bs' : List ℕ
    bs' = bytes (encode (on_sheet f r pr t))

    allowed_on : Records t'
    unfolding on_sheet names_in
    allowed_on =
        record {
          kind = allowed.kind;
          few = ap (λ n. leb n rule_limit) (length-map t.rules (on_rule f r pr (on_block f r pr body_depth))) ∙ allowed.few;
          rules = rules_good f r pr t.rules (all_members (Good f r pr) (names_in t) good) allowed.rules;
          preserved = allowed.preserved;
        }

    wordy_on : Wordy (encode t')
    unfolding encode_in on_sheet names_in
    wordy_on =
        let w : Wordy (encode t) = subst Wordy (sym encoded) (words_wordy (words bs) (words_bound bs b)) in
        let body = encode_rules t.rules ++ t.preserved in
        let tail = t.kind ∷ length body ∷ length t.preserved ∷ encode_counters t.counters in
        let wb = wordy_left body tail w in
        wordy_both (encode_rules t'.rules ++ t.preserved) _
        (wordy_both (encode_rules t'.rules) t.preserved
        (rules_words f r pr word third t.rules (all_members (Good f r pr) (names_in t) good)
        (wordy_left (encode_rules t.rules) t.preserved wb))
        (wordy_right (encode_rules t.rules) t.preserved wb))
        (subst (λ n. Wordy (t.kind ∷ n ∷ length t.preserved ∷ encode_counters t.counters))
        (sym (body_length f r pr t.rules t.preserved)) (wordy_right body tail w))

    bytes_length : length bs' ≡ length bs
    bytes_length =
        let l = length_bytes (encode t') in
        let k = whole_length f r pr t ∙ ap length encoded in
        let w = length_words bs in
        let z = h.good_length.whole in
        omega arith

    words_on : words bs' ≡ encode t'
    words_on = words_bytes (encode t') (wordy_words (encode t') wordy_on)

    -- The changed sheet stands in its bytes.
    pub holds_on : TreeIn bs' t'
    holds_on =
        let x = encoded_stands newest t' allowed_on in
        record {
          good_length = good_length_lem bs' (ap is_length bytes_length ∙ length_good bs h.good_length);
          trailer = ap is_trailer words_on ∙ x.0;
          next = _;
          records = ap rules_of words_on ∙ x.1;
          is_sheet = ap (λ ws. sheet_of ws t'.rules) words_on ∙ x.2;
        }
