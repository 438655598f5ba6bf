-- The laws of the codec: the reader and the encoder are inverse to one another, and the reader's answers are the ones that it may give.
use Rattle.std.specs.Prelude.{ℕ, zero, suc, ◌%◌, ◌≤◌, ◌<◌, ◌≡◌, refl, List, [], ◌∷◌, true, ◌&&◌, length, get_or, leb, ltb}
use Rattle.std.proofs.Common.{ap, ◌∙◌, arith, length-append, leb-true, ltb-true, eqb-true, le-leb, lt-ltb, eq-eqb}
use Rattle.std.proofs.lemmas.Bool.{and_from}
use Rattle.std.specs.Cmp.{first_so, second_so}
use Rattle.grammar.specs.Numbers.{least_bytes, most_bytes, most_words, word_end}
use Rattle.grammar.specs.Tree.{Sheet}
use Rattle.grammar.specs.Form.{Form}
use Rattle.grammar.specs.Words.{words, bytes}
use Rattle.grammar.specs.Encode.{encode_in}
use Rattle.grammar.specs.Lists.{member, all}
use Rattle.grammar.specs.Valid.{valid_in, fits_in}
use Rattle.grammar.specs.Reading.{refused, sheet, refusals, is_length, read_words_in, read_in}
use Rattle.grammar.specs.Laws.Words.{AreWords, length_words, length_bytes, words_bytes, bytes_words, words_bound}
use Rattle.grammar.specs.Laws.Stands.{stands_self}
use Rattle.grammar.specs.Laws.Parse.{either}
use Rattle.grammar.specs.Laws.Whole.{Reads, refuses, reads_map, reads_sheet, reads_refused, parts_valid, valid_parts, IsSheet}
use Rattle.grammar.specs.Laws.Whole.{words_sound, words_complete}

all_words : (ws : List ℕ) → all (λ w. ltb w word_end) ws ≡ true → AreWords ws
unfolding all
all_words [] t i = omega arith
all_words (w ∷ ws) t zero = ltb-true w word_end (first_so (ltb w word_end) _ t)
all_words (w ∷ ws) t (suc i) = all_words ws (second_so (ltb w word_end) _ t) i

words_all : (ws : List ℕ) → AreWords ws → all (λ w. ltb w word_end) ws ≡ true
unfolding all
words_all [] h = refl
words_all (w ∷ ws) h = and_from (ltb w word_end) _ (lt-ltb w word_end (h 0)) (words_all ws λ i. h (suc i))

-- An encoding holds at least the trailer.
pub encode_length : (form : Form) (s : Sheet) → 8 ≤ length (encode_in form s)
unfolding encode_in
encode_length form s = simp length-append (omega arith)

-- The lengths in bytes that are no refusal.
record Size (n : ℕ) : Type 0 where
  least : least_bytes ≤ n
  most : n ≤ most_bytes
  whole : n % 4 ≡ 0

size : (n : ℕ) → is_length n ≡ true → Size n
size n t =
    let u = second_so (leb least_bytes n) _ t in
    record {
      least = leb-true least_bytes n (first_so (leb least_bytes n) _ t);
      most = leb-true n most_bytes (first_so (leb n most_bytes) _ u);
      whole = eqb-true (n % 4) 0 (second_so (leb n most_bytes) _ u);
    }

is_length_lem : (n : ℕ) → Size n → is_length n ≡ true
is_length_lem n z = and_from _ _ (le-leb least_bytes n z.least) (and_from _ _ (le-leb n most_bytes z.most) (eq-eqb (n % 4) 0 z.whole))

-- What the reader finds, in one statement.
record IsFound (form : Form) (bs : List ℕ) (s : Sheet) : Type 0 where
  fitting : Size (length bs)
  tree : IsSheet form (words bs) s

read_found : (form : Form) (bs : List ℕ) → Reads (IsFound form bs) (read_in form bs)
unfolding read_in member
read_found form bs =
    either (is_length (length bs))
    (λ t. rw (t, read_in) (
    let z = size (length bs) t in
    reads_map (words_sound form (words bs) (omega (arith, length_words bs))) λ s x. record { fitting = z; tree = x }))
    (λ t. rw (t, read_in) (refuses refl))

-- A valid tree is what the reader of words finds in its encoding.
pub reads_back_words : (form : Form) (s : Sheet) → valid_in form s ≡ true → read_words_in form (encode_in form s) ≡ sheet s
reads_back_words form s v = words_complete form (encode_in form s) s (stands_self (encode_in form s)) (valid_parts form s v)

-- A tree that is valid and fits is what the reader finds in its encoding.
pub reads_back_lem : (form : Form) (s : Sheet) → valid_in form s ≡ true → fits_in form s ≡ true
    → read_in form (bytes (encode_in form s)) ≡ sheet s
unfolding read_in fits_in
reads_back_lem form s v f =
    let m = leb-true (length (encode_in form s)) most_words (first_so (leb (length (encode_in form s)) most_words) _ f) in
    let w = all_words (encode_in form s) (second_so (leb (length (encode_in form s)) most_words) _ f) in
    let h = encode_length form s in
    let l = length_bytes (encode_in form s) in
    let z : Size (length (bytes (encode_in form s))) = record { least = omega arith; most = omega arith; whole = omega arith } in
    rw (is_length_lem _ z, read_in) (rw (words_bytes (encode_in form s) w) (reads_back_words form s v))

-- The words that the reader accepts are the encoding of what it found.
pub is_encoding_words : (form : Form) (bs : List ℕ) (s : Sheet) → read_in form bs ≡ sheet s → encode_in form s ≡ words bs
is_encoding_words form bs s e = (reads_sheet (read_found form bs) e).tree.words

-- What the reader accepts is the encoding of what it found, byte for byte.
pub is_encoding : (form : Form) (bs : List ℕ) → ((i : ℕ) → get_or bs i 0 < 256) → (s : Sheet) → read_in form bs ≡ sheet s
    → bytes (encode_in form s) ≡ bs
is_encoding form bs b s e =
    let x = reads_sheet (read_found form bs) e in
    ap bytes x.tree.words ∙ bytes_words bs b x.fitting.whole

-- What the reader finds is valid and fits.
pub accepted_valid : (form : Form) (bs : List ℕ) → ((i : ℕ) → get_or bs i 0 < 256) → (s : Sheet) → read_in form bs ≡ sheet s
    → (valid_in form s ≡ true) × (fits_in form s ≡ true)
unfolding fits_in
accepted_valid form bs b s e =
    let x = reads_sheet (read_found form bs) e in
    let l = length_words bs in
    let q = x.fitting.most in
    let f : (leb (length (encode_in form s)) most_words && all (λ w. ltb w word_end) (encode_in form s)) ≡ true =
    rw x.tree.words (and_from _ _ (le-leb (length (words bs)) most_words (omega arith)) (words_all (words bs) (words_bound bs b))) in
    (parts_valid form s x.tree.parts, f)

-- Two valid trees with the same encoding are equal.
pub one_tree : (form : Form) (s t : Sheet) → valid_in form s ≡ true → valid_in form t ≡ true → encode_in form s ≡ encode_in form t → s ≡ t
one_tree form s t v w e =
    let x = reads_back_words form s v in
    let y = reads_back_words form t w in
    let z = rw e at x in
    cc

-- Two trees that are valid and fit, with the same bytes, are equal.
pub one_tree_bytes : (form : Form) (s t : Sheet) → valid_in form s ≡ true → fits_in form s ≡ true → valid_in form t ≡ true
    → fits_in form t ≡ true → bytes (encode_in form s) ≡ bytes (encode_in form t)
    → s ≡ t
one_tree_bytes form s t v f w g e =
    let x = reads_back_lem form s v f in
    let y = reads_back_lem form t w g in
    cc

-- The reader refuses by no other number than these.
pub refuses_only : (form : Form) (bs : List ℕ) (n : ℕ) → read_in form bs ≡ refused n → member n refusals ≡ true
refuses_only form bs n e = reads_refused (read_found form bs) e
