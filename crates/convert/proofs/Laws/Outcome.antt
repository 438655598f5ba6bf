-- The returns of the entry: each hands back what the definition does.
use Prim.Native.Nat.{ℕ, zero, suc, ◌-◌, ◌*◌, ◌<◌, ◌≤◌}
use mathlib.Core.Path.{◌≡◌, refl, sym, ap, ap₂, ◌∙◌, subst}
use mathlib.Core.List.{List, [], ◌∷◌, ◌++◌}
use mathlib.Core.Bool.{Bool, true, false, not}
use native.Mathlib.Omega.{arith}
use lib.ListN.{length, take, drop, replicate}
use lib.Seq.{length-take-le}
use lib.Dec.{leb}
use borrow.Author.Tests.{leb-true, le-leb, lt-leb, not-true, not-false}
use Rattle.std.specs.Prelude.{Ok, Err}
use Rattle.std.specs.Cmp.{first_so, second_so}
use Rattle.grammar.specs.Numbers.{least_bytes, result_bytes, work_bytes, most_words, result_too_long}
use Rattle.grammar.specs.Form.{first_form, newest}
use Rattle.grammar.specs.Words.{words, bytes}
use Rattle.grammar.specs.Tree as tree
use Rattle.grammar.specs.Encode.{encode}
use Rattle.grammar.specs.Reading as reading
use Rattle.grammar.specs.Reading.{refused, sheet, is_length, read_words, read_words_in, read_in}
use Rattle.grammar.specs.Convert.{newest_words, delivered, conversion}
use Rattle.grammar.specs.Laws.Words.{AreBytes, bytes_words, words_take}
use Rattle.grammar.specs.Laws.Codec.{encode_length}
use Rattle.grammar.specs.Laws.Whole.{reads_sheet, words_sound}
use Rattle.writing.specs.Wrote.{Wrote}
use Rattle.writing.specs.Laws.Wrote.{wrote_slice}
use Rattle.words.specs.declared.numbers.Refusal.{Refusal}
use Rattle.words.specs.declared.numbers.Refusal.TheVariants.{BadLength, ShortBuffer}
use Rattle.words.specs.Refusal.{refusal_number}
use Rattle.sheet.specs.declared.answer.Reading.{Reading}
use Rattle.sheet.specs.Answer as reader
use Rattle.sheet.specs.Answer.{ReadAs}
use Rattle.sheet.proofs.Laws.Lent.{sheet_most}
use Rattle.convert.specs.Newest.{wide_bytes, Widenable, Newest}
use Rattle.convert.specs.Converted.{Handed, lent_by, Lent, Written, ClearedFrom}

was_refused : (g : reading.Reading) {e : Refusal} → ReadAs g (Err e) → g ≡ refused (refusal_number e)
was_refused (refused n) a = let x = a.answer in ap refused cc
was_refused (sheet s) a = absurd (let x = a.answer in let z : ◌≡◌ {A = ℕ} 0 1 = cc in omega arith)

was_sheet : (g : reading.Reading) {r : Reading} → ReadAs g (Ok r) → (s : tree.Sheet) × (g ≡ sheet s)
was_sheet (refused n) a = absurd (let x = a.answer in let z : ◌≡◌ {A = ℕ} 0 1 = cc in omega arith)
was_sheet (sheet s) a = (s, refl)

pub refusal_told : {g : reading.Reading} {n : ℕ} → g ≡ refused n → newest_words g ≡ Err n
unfolding newest_words
refusal_told e = rw e refl

-- Where the newest words stand in front of the wide area, the reader reads them there.
module _ (bs : List ℕ) {wide : List ℕ} {n : ℕ} (w : Newest (words bs) wide n) where
  same : read_words (words (take (4 * n) wide)) ≡ read_words_in first_form (words bs)
  same = ap read_words (words_take wide n ∙ w.front.are) ∙ w.judged

  pub wide_lent : {result work : List ℕ} → length wide ≡ wide_bytes → Lent bs result work → reader.Lent (take (4 * n) wide) work
  wide_lent {result} {work} e l =
      let a = length-take-le (4 * n) wide w.front.room in
      let b = encode_length newest w.tree in
      let c = w.front.count in
      let r = w.front.room in
      let z = leb-true work_bytes (length work) (second_so (leb result_bytes (length result)) _ l.enough) in
      record { least = omega arith; most = omega arith; room = omega arith }

  pub ids_refused : {e : Refusal} → ReadAs (read_words (words (take (4 * n) wide))) (Err e)
      → newest_words (read_words_in first_form (words bs)) ≡ Err (refusal_number e)
  ids_refused a = refusal_told (sym same ∙ was_refused (read_words (words (take (4 * n) wide))) a)

  module _ {r : Reading} (a : ReadAs (read_words (words (take (4 * n) wide))) (Ok r)) where
    abbrev found : tree.Sheet
    found = (was_sheet (read_words (words (take (4 * n) wide))) a).0

    reads : read_words_in first_form (words bs) ≡ sheet found
    reads = sym same ∙ (was_sheet (read_words (words (take (4 * n) wide))) a).1

    encoded : encode found ≡ encode w.tree
    encoded = (reads_sheet (words_sound newest (encode w.tree) (encode_length newest w.tree)) (w.judged ∙ reads)).words

    long : n ≡ length (encode found)
    long = w.front.count ∙ ap length (sym encoded)

    pub too_long : most_words < n → newest_words (read_words_in first_form (words bs)) ≡ Err result_too_long
    unfolding newest_words
    too_long h =
        let m = long in
        let e : leb (length (encode found)) most_words ≡ false = lt-leb (length (encode found)) most_words (omega arith) in
        rw (reads, newest_words) (rw (e, newest_words) refl)

    pub written : {result result' work : List ℕ} → n ≤ most_words → Lent bs result work
        → Wrote result result' 0 (take n (drop 0 (words wide)))
        → Written (newest_words (read_words_in first_form (words bs))) result' n
    unfolding newest_words
    written {result} {result'} h l o =
        let m = long in
        let e : leb (length (encode found)) most_words ≡ true = le-leb (length (encode found)) most_words (omega arith) in
        let z = leb-true result_bytes (length result) (first_so (leb result_bytes (length result)) _ l.enough) in
        let x : take n (words wide) ≡ encode found = w.front.are ∙ sym encoded in
        let g = o.long in
        record {
          sheet = encode found;
          is = rw (reads, newest_words) (rw (e, newest_words) refl);
          count = long;
          few = h;
          room = omega arith;
          are = subst (λ k. take k (words result') ≡ encode found) (sym long) (wrote_slice (rw x at o) (omega arith));
        }

-- A sheet of good length can be widened.
pub widenable : {bs result work wide : List ℕ} → Lent bs result work → length wide ≡ wide_bytes → Widenable bs wide
widenable {bs} l e =
    let m = sheet_most bs l.long in
    record { least = leb-true least_bytes (length bs) (first_so (leb least_bytes (length bs)) _ l.long); most = m; room = omega arith }

take_bytes : (bs : List ℕ) (n : ℕ) → AreBytes bs → AreBytes (take n bs)
take_bytes bs zero h i = omega arith
take_bytes [] (suc n) h i = omega arith
take_bytes (b ∷ bs) (suc n) h zero = h 0
take_bytes (b ∷ bs) (suc n) h (suc i) = take_bytes bs n (λ j. h (suc j)) i

-- The bytes of the words in front.
front_bytes : (bs : List ℕ) (n : ℕ) {ws : List ℕ} → AreBytes bs → 4 * n ≤ length bs → take n (words bs) ≡ ws → take (4 * n) bs ≡ bytes ws
front_bytes bs n {ws} h r e =
    let k = length-take-le (4 * n) bs r in
    sym (bytes_words (take (4 * n) bs) (take_bytes bs (4 * n) h) (omega arith)) ∙ ap bytes (words_take bs n ∙ e)

module _ (bs result work : List ℕ) where
  -- Refusals 1 and 2 touch nothing.
  pub handed_length : {r : Bool} → r ≡ is_length (length bs) → not r ≡ true → Handed bs result work (Err BadLength) result work
  unfolding conversion
  handed_length i n = let e = sym i ∙ not-true _ n in record { is = rw (e, conversion) refl }

  pub handed_short : {r q : Bool} → r ≡ is_length (length bs) → not r ≡ false → q ≡ lent_by (length result) (length work) → not q ≡ true
      → Handed bs result work (Err ShortBuffer) result work
  unfolding conversion
  handed_short i n j m =
      let e = sym i ∙ not-false _ n in
      let f = sym j ∙ not-true _ m in
      record { is = rw (e, conversion) (rw (f, conversion) refl) }

  pub all_lent : {r q : Bool} → r ≡ is_length (length bs) → not r ≡ false → q ≡ lent_by (length result) (length work) → not q ≡ false
      → Lent bs result work
  all_lent i n j m = record { long = sym i ∙ not-false _ n; enough = sym j ∙ not-false _ m }

  module _ (l : Lent bs result work) where
    delivers : conversion first_form bs result work ≡ delivered (newest_words (read_words_in first_form (words bs))) result work
    unfolding conversion read_in
    delivers = rw (l.long, conversion) (rw (l.enough, conversion) (rw (l.long, read_in) refl))

    module _ (result₁ work₁ : List ℕ) {result' work' : List ℕ} (same_result : length result₁ ≡ length result)
        (same_work : length work₁ ≡ length work) (z : work' ≡ replicate (length work₁) 0) where
      pub handed_refused : {e : Refusal} → newest_words (read_words_in first_form (words bs)) ≡ Err (refusal_number e)
          → result' ≡ replicate (length result₁) 0
          → Handed bs result work (Err e) result' work'
      unfolding delivered
      handed_refused {e} f y =
          record { is = rw (y, z, same_result, same_work) (sym (delivers ∙ rw (f, delivered) refl)) }

      pub handed_sheet : {n : ℕ} → AreBytes result₁ → Written (newest_words (read_words_in first_form (words bs))) result₁ n
          → ClearedFrom result₁ result' (4 * n)
          → Handed bs result work (Ok (4 * n)) result' work'
      unfolding delivered
      handed_sheet {n} known w y =
          let e : take (4 * n) result₁ ≡ bytes w.sheet = front_bytes result₁ n known w.room w.are in
          let m : 4 * n ≡ 4 * length w.sheet = ap (λ k. 4 * k) w.count in
          let f : result' ≡ bytes w.sheet ++ replicate (length result - 4 * length w.sheet) 0 =
          y.is ∙ ap₂ ◌++◌ e (ap (λ k. replicate k 0) (ap₂ ◌-◌ same_result m)) in
          record { is = rw (f, z, same_work, m) (sym (delivers ∙ rw (w.is, delivered) refl)) }

pub ruleset outcomes = (handed_length, handed_short, all_lent)
