-- The conversion of an old sheet, as Demands tells it.
use Rattle.std.specs.Prelude.{ℕ, suc, ◌≤◌, ◌-◌, ◌*◌, ◌≡◌, refl, List, ◌++◌, Bool, true, false, ◌&&◌, length, take, drop, replicate, leb}
use Rattle.std.proofs.Common.{sym, ap, ◌∙◌, subst, true≢false, arith, leb-true, leb-false, le-leb}
use Rattle.std.proofs.lemmas.Bool.{and_from}
use Rattle.std.specs.Cmp.{first_so, second_so}
use Rattle.grammar.specs.Form.{Form, newest, first_form}
use Rattle.grammar.specs.Tree.{Sheet}
use Rattle.grammar.specs.Words.{words, bytes}
use Rattle.grammar.specs.Encode.{encode, encode_in}
use Rattle.grammar.specs.Reading.{Reading, refused, sheet, is_length, read, read_in}
use Rattle.grammar.specs.Valid.{valid_in, fits_in, fits}
use Rattle.grammar.specs.Numbers.{most_bytes, most_words, result_bytes, work_bytes, short_buffer, result_too_long}
use Rattle.std.specs.Prelude.{Ok, Err}
use Rattle.grammar.specs.Convert.{Converted, newest_words, untouched, delivered, conversion}
use Rattle.grammar.specs.Laws.Words.{AreBytes, length_words, length_bytes}
use Rattle.grammar.specs.Laws.Codec.{reads_back_lem, is_encoding, is_encoding_words, accepted_valid, one_tree}
use Rattle.grammar.specs.Laws.Convert.{valid_newest}
use Rattle.reference.specs.Computed.{computed}
use Rattle.reference.specs.Run.{filled}
use Rattle.laws.specs.Examples.{sum_of_before, sum_of_today, ends_early, ends_late}
use Rattle.laws.specs.Demands.Table.{GoodLength, Holds}
use Rattle.laws.specs.Demands.Conversion.{CodecIn, Lends, Delivers, ConvertRow, bad_length, not_lent, not_read, too_long, is_converted}
use Rattle.laws.specs.Demands.Conversion.{NoPrecedence, ConvertReads, ConvertApart, ConvertLength, SumConverted, LengthTells}
use Rattle.laws.specs.Format.Calls.{longer_sheet, none_sheet}
use Rattle.laws.specs.Format.Wide.{wide_fits}
use Rattle.laws.specs.Running.Copied.{calls_copied_lem}
use Rattle.laws.specs.Proved.Table.{good_length_lem, length_good, Judged, read_judged, passes_reads, fails_number, holds}

pub codec_in_lem : (f : Form) → CodecIn f
codec_in_lem f =
    record {
      reads_back = reads_back_lem f;
      is_encoding = is_encoding f;
      accepted_valid = accepted_valid f;
      one_tree = one_tree f;
    }

filled_with : (ws before : List ℕ) → filled (bytes ws) before ≡ bytes ws ++ replicate (length before - 4 * length ws) 0
unfolding filled
filled_with ws before = ap (λ n. bytes ws ++ replicate (length before - n) 0) (length_bytes ws)

sheet_same : {s t : Sheet} → sheet s ≡ sheet t → s ≡ t
sheet_same e = cc

module _ (result work : List ℕ) where
  abbrev are_lent : Bool
  are_lent = leb result_bytes (length result) && leb work_bytes (length work)

  lends : are_lent ≡ true → Lends result work
  lends t =
      record {
        for_result = leb-true result_bytes (length result) (first_so _ (leb work_bytes (length work)) t);
        for_work = leb-true work_bytes (length work) (second_so (leb result_bytes (length result)) _ t);
      }

  lent : Lends result work → are_lent ≡ true
  lent l = and_from _ _ (le-leb result_bytes (length result) l.for_result) (le-leb work_bytes (length work) l.for_work)

module _ (bs result work : List ℕ) where
  reading : GoodLength bs → Lends result work → (r : Reading) → Judged first_form (words bs) r
      → ConvertRow bs result work (delivered (newest_words r) result work)
  unfolding newest_words delivered
  reading g l (refused n) k = not_read g l k refl
  reading g l (sheet s) k = fitted (leb (length (encode s)) most_words) refl
    where
      fitted : (b : Bool) → leb (length (encode s)) most_words ≡ b
          → ConvertRow bs result work
          (delivered (elim b [ false ↦ Err result_too_long | true ↦ Ok (encode s) ]) result work)
      fitted false t = let h = leb-false (length (encode s)) most_words t in too_long g l k (omega arith) refl
      fitted true t =
          let h = leb-true (length (encode s)) most_words t in
          let room = l.for_result in
          is_converted g l k (omega arith) (record {
            number = refl;
            result_length = refl;
            result_holds = subst (Holds (encode s) result) (filled_with (encode s) result) (holds (encode s) result (omega arith));
            work_holds = refl;
          })

  pub convert_row_lem : ConvertRow bs result work (conversion first_form bs result work)
  unfolding conversion
  convert_row_lem = sized (is_length (length bs)) refl
    where
      roomy : is_length (length bs) ≡ true → (b : Bool) → are_lent result work ≡ b
          → ConvertRow bs result work
          (elim b [
            | false ↦ untouched short_buffer result work
            | true ↦ delivered (newest_words (read_in first_form bs)) result work
          ])
      roomy t true l = reading (good_length_lem bs t) (lends result work l) (read_in first_form bs) (read_judged first_form bs t)
      roomy t false l = not_lent (good_length_lem bs t) (λ k. true≢false (sym (lent result work k) ∙ l)) refl

      sized : (b : Bool) → is_length (length bs) ≡ b
          → ConvertRow bs result work
          (elim b [
            | false ↦ untouched 1 result work
            | true ↦
                elim (are_lent result work) [
                  | false ↦ untouched short_buffer result work
                  | true ↦ delivered (newest_words (read_in first_form bs)) result work
                ]
          ])
      sized true t = roomy t (are_lent result work) refl
      sized false t = bad_length (λ k. true≢false (sym (length_good bs k) ∙ t)) refl

  -- What number 0 says, with no word on bytes.
  pub record Came (c : Converted) : Type 0 where
    pub good : GoodLength bs
    pub room : Lends result work
    pub tree : Sheet
    pub reads : read_in first_form bs ≡ sheet tree
    pub short : 4 * length (encode tree) ≤ most_bytes
    pub is_delivered : Delivers result work tree c

  never : (c : Converted) (n : ℕ) → 1 ≤ n → c.number ≡ n → c.number ≡ 0 → Came c
  never c n l e z = absurd (omega arith)

  row_came : (c : Converted) → ConvertRow bs result work c → c.number ≡ 0 → Came c
  row_came c (bad_length x e) z = never c 1 (omega arith) (ap (λ c. c.number) e) z
  row_came c (not_lent g x e) z = never c 2 (omega arith) (ap (λ c. c.number) e) z
  row_came c (not_read g l {n = n} x e) z = never c n (fails_number x) (ap (λ c. c.number) e) z
  row_came c (too_long g l p x e) z = never c 9 (omega arith) (ap (λ c. c.number) e) z
  row_came c (is_converted g l {s = s} p k d) z =
      record { good = g; room = l; tree = s; reads = passes_reads first_form bs s g p; short = k; is_delivered = d }

  came : (conversion first_form bs result work).number ≡ 0 → Came (conversion first_form bs result work)
  came = row_came (conversion first_form bs result work) convert_row_lem

  module _ (b : AreBytes bs) (c : Converted) (x : Came c) where
    abbrev n : ℕ
    n = c.result_length

    good_tree : (valid_in first_form x.tree ≡ true) × (fits_in first_form x.tree ≡ true)
    good_tree = accepted_valid first_form bs b x.tree x.reads

    none : NoPrecedence x.tree.rules
    none = none_sheet x.tree good_tree.0

    fitting : fits x.tree ≡ true
    fitting = wide_fits x.tree none good_tree.1 (let h = x.short in omega arith)

    front : take n c.result ≡ bytes (encode x.tree)
    front = ap (λ k. take k c.result) x.is_delivered.result_length ∙ x.is_delivered.result_holds.front

    reads_after : read (take n c.result) ≡ sheet x.tree
    reads_after =
        ap read front ∙ reads_back_lem newest x.tree (valid_newest first_form x.tree good_tree.0) fitting

    convert_reads_came : ConvertReads bs result c
    convert_reads_came =
        let l = x.is_delivered.result_length in
        record {
          tree = x.tree;
          before = x.reads;
          after = reads_after;
          none = none;
          behind =
              ap (λ k. drop k c.result) l ∙ x.is_delivered.result_holds.behind ∙ ap (λ k. replicate (length result - k) 0) (sym l);
          same_length = x.is_delivered.result_holds.same_length;
          none_made = λ limits corners ts run k m. none k ((calls_copied_lem limits corners x.tree ts run).copied k m);
        }

  pub convert_reads_lem : AreBytes bs → (conversion first_form bs result work).number ≡ 0
      → ConvertReads bs result (conversion first_form bs result work)
  convert_reads_lem b z = convert_reads_came b (conversion first_form bs result work) (came z)

  pub convert_length_lem : ConvertLength bs result work
  convert_length_lem s k z =
      let x = came z in
      let e = sheet_same (sym k ∙ x.reads) in
      let a = longer_sheet s in
      let b = ap length (is_encoding_words first_form bs s k) in
      let w = length_words bs in
      let g = x.good.whole in
      let l = x.is_delivered.result_length ∙ ap (λ s. 4 * length (encode s)) (sym e) in
      omega arith

pub convert_apart_lem : (bs bs' result result' work work' : List ℕ) → AreBytes bs → AreBytes bs'
    → ConvertApart bs bs' result result' work work'
convert_apart_lem bs bs' result result' work work' b b' z z' e =
    let x = convert_reads_lem bs result work b z in
    let y = convert_reads_lem bs' result' work' b' z' in
    let same : x.tree ≡ y.tree = sheet_same (sym x.after ∙ ap read e ∙ y.after) in
    sym (is_encoding first_form bs b x.tree x.before)
    ∙ ap (λ s. bytes (encode_in first_form s)) same
    ∙ is_encoding first_form bs' b' y.tree y.before

-- An example, by computing.
converted_of : (bs result work : List ℕ) → is_length (length bs) ≡ true → are_lent result work ≡ true
    → conversion first_form bs result work ≡ delivered (newest_words (read_in first_form bs)) result work
unfolding conversion
converted_of bs result work t l = rw (t, l, conversion)

sum_read : newest_words (read_in first_form (bytes sum_of_before)) ≡ Ok sum_of_today
unfolding computed newest_words
sum_read = refl

pub sum_converted_lem : SumConverted
unfolding bytes conversion delivered
sum_converted_lem =
    record {
      old_length = refl;
      converted = λ result work l.
          converted_of (bytes sum_of_before) result work refl (lent result work l)
          ∙ ap (λ r. delivered r result work) sum_read;
    }

pub sum_number : (result work : List ℕ) → Lends result work → (conversion first_form (bytes sum_of_before) result work).number ≡ 0
sum_number result work l = ap (λ c. c.number) (sum_converted_lem.converted result work l)

-- Two sheets of which one has zeros behind it in place of two words of the other.
early_read : newest_words (read_in first_form (bytes ends_early)) ≡ Ok ends_early
unfolding computed newest_words
early_read = refl

late_read : newest_words (read_in first_form (bytes ends_late)) ≡ Ok ends_late
unfolding computed newest_words
late_read = refl

module _ (result work : List ℕ) (l : Lends result work) where
  early_is : conversion first_form (bytes ends_early) result work ≡ delivered (Ok ends_early) result work
  unfolding bytes
  early_is = converted_of (bytes ends_early) result work refl (lent result work l) ∙ ap (λ r. delivered r result work) early_read

  late_is : conversion first_form (bytes ends_late) result work ≡ delivered (Ok ends_late) result work
  unfolding bytes
  late_is = converted_of (bytes ends_late) result work refl (lent result work l) ∙ ap (λ r. delivered r result work) late_read

  eight_more : length result - 52 ≡ suc (suc (suc (suc (suc (suc (suc (suc (length result - 60))))))))
  eight_more = let h = l.for_result in omega arith

  same_end : (delivered (Ok ends_early) result work).result ≡ (delivered (Ok ends_late) result work).result
  unfolding delivered bytes
  same_end = ap (λ n. bytes ends_early ++ replicate n 0) eight_more

pub length_tells_lem : LengthTells
unfolding delivered bytes
length_tells_lem =
    record {
      apart = λ e. let n : ◌≡◌ {A = ℕ} 52 60 = ap length e in omega arith;
      early = λ result work l. ap (λ c. c.number) (early_is result work l);
      late = λ result work l. ap (λ c. c.number) (late_is result work l);
      same_result = λ result work l.
          ap (λ c. c.result) (early_is result work l) ∙ same_end result work l ∙ ap (λ c. c.result) (sym (late_is result work l));
    }
