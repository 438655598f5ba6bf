-- The returns of the functions that read with a work area.
use Prim.Native.Nat.{ℕ, ◌<◌, ◌≤◌}
use mathlib.Core.Path.{◌≡◌, refl, sym, ap, ◌∙◌}
use mathlib.Core.List.{List}
use mathlib.Core.Bool.{Bool, true, false}
use native.Mathlib.Omega.{arith}
use lib.ListN.{length, replicate}
use lib.Dec.{leb}
use borrow.Author.Tests.{le-leb, lt-leb, leb-true}
use Rattle.grammar.specs.Numbers.{least_bytes, most_bytes, work_bytes}
use Rattle.grammar.specs.Words.{words}
use Rattle.grammar.specs.Reading.{read_words, is_length, read_in}
use Rattle.std.specs.Prelude.{Result, Err}
use Rattle.std.specs.Cmp.{first_so, second_so}
use Rattle.words.specs.declared.numbers.Refusal.{Refusal}
use Rattle.words.specs.declared.numbers.Refusal.TheVariants.{BadLength, ShortBuffer}
use Rattle.sheet.specs.declared.answer.Reading.{Reading}
use Rattle.sheet.specs.Answer.{ReadAs, read_lent, work_after, Lent}
use Rattle.sheet.proofs.Laws.Answer.{read_refused}

pub sheet_most : (bs : List ℕ) → is_length (length bs) ≡ true → length bs ≤ most_bytes
sheet_most bs e = leb-true _ _ (first_so (leb (length bs) most_bytes) _ (second_so (leb least_bytes (length bs)) _ e))

-- the reader with a work area
pub lent_all : (bs work : List ℕ) → is_length (length bs) ≡ true → work_bytes ≤ length work → Lent bs work
lent_all bs work e h =
    record {
      least = leb-true _ _ (first_so (leb least_bytes (length bs)) _ e);
      most = let m = sheet_most bs e in omega arith;
      room = let m = sheet_most bs e in omega arith;
    }

module _ (bs work : List ℕ) {b : Bool} (e : b ≡ is_length (length bs)) where
  module _ (h : b ≡ false) where
    length_false : is_length (length bs) ≡ false
    length_false = sym e ∙ h

    pub length_refused : ReadAs (read_lent bs work) (Err BadLength)
    unfolding read_lent
    length_refused = read_refused BadLength (rw (length_false, read_lent) refl) refl

    pub length_after : work ≡ work_after bs work
    unfolding work_after
    length_after = rw (length_false, work_after) refl

  module _ (h : b ≡ true) where
    length_true : is_length (length bs) ≡ true
    length_true = sym e ∙ h

    pub lent : work_bytes ≤ length work → Lent bs work
    lent = lent_all bs work length_true

    pub work_refused : length work < work_bytes → ReadAs (read_lent bs work) (Err ShortBuffer)
    unfolding read_lent
    work_refused g = read_refused ShortBuffer (rw (length_true, lt-leb work_bytes (length work) g, read_lent) refl) refl

    pub work_after_lem : length work < work_bytes → work ≡ work_after bs work
    unfolding work_after
    work_after_lem g = rw (length_true, lt-leb work_bytes (length work) g, work_after) refl

    pub examined : {r : Result Reading Refusal} → work_bytes ≤ length work → ReadAs (read_words (words bs)) r → ReadAs (read_lent bs work) r
    unfolding read_lent read_in
    examined g a = rw (length_true, le-leb work_bytes (length work) g, read_lent) (rw (length_true, read_in) a)

    pub examined_after : (mid : List ℕ) {after : List ℕ} → work_bytes ≤ length work → length mid ≡ length work
        → after ≡ replicate (length mid) 0 → after ≡ work_after bs work
    unfolding work_after
    examined_after mid g l f = rw (length_true, le-leb work_bytes (length work) g, work_after) (f ∙ ap (λ n. replicate n 0) l)

pub ruleset reads = (length_refused, length_after, lent, work_refused, work_after_lem, examined, examined_after)
