-- Words and bytes: each way round is the identity, where a word stands in bytes, and what it is to write one.
use Rattle.std.specs.Prelude.{ℕ, zero, suc, ◌+◌, ◌-◌, ◌*◌, ◌/◌, ◌%◌, ◌≤◌, ◌<◌, ◌≡◌, refl}
use Rattle.std.specs.Prelude.{List, [], ◌∷◌, length, get_or, set, take, drop}
use Rattle.std.proofs.Common.{ap, ap₂, arith}
use mathlib.Core.List.{Memᴰ}
use Rattle.grammar.specs.Numbers.{word_end}
use Rattle.grammar.specs.Words.{word_of, words, bytes}

-- Every byte of a list is a byte, and every word of a list has 32 bits.
abbrev pub AreBytes : List ℕ → Type 0
AreBytes bs = (i : ℕ) → get_or bs i 0 < 256

abbrev pub AreWords : List ℕ → Type 0
AreWords ws = (i : ℕ) → get_or ws i 0 < word_end

-- Numbers of which each is a word are words.
pub in_words : (ws : List ℕ) → ((w : ℕ) → Memᴰ w ws → w < word_end) → AreWords ws
in_words [] h i = omega arith
in_words (w ∷ ws) h zero = h w (Memᴰ.head refl)
in_words (w ∷ ws) h (suc i) = in_words ws (λ x m. h x (Memᴰ.tail m)) i

pub four : (i : ℕ) → 4 * suc i ≡ suc (suc (suc (suc (4 * i))))
four i = omega arith

four_more : (i k : ℕ) → 4 * suc i + k ≡ suc (suc (suc (suc (4 * i + k))))
four_more i k = omega arith

-- The lowest byte of a number, and the rest.
low : (a r : ℕ) → a < 256 → (a + 256 * r) % 256 ≡ a
low a r h = omega arith

high : (a r : ℕ) → a < 256 → (a + 256 * r) / 256 ≡ r
high a r h = omega arith

mod_lt : (a : ℕ) → a < 256 → a % 256 ≡ a
mod_lt a h = omega arith

-- Four bytes make a word, and what stands in bytes are words.
pub word_of_bound : (a b c d : ℕ) → a < 256 → b < 256 → c < 256 → d < 256 → word_of a b c d < word_end
word_of_bound a b c d ha hb hc hd = omega arith

pub words_bound : (bs : List ℕ) → AreBytes bs → AreWords (words bs)
unfolding words
words_bound [] h i = omega arith
words_bound (a ∷ []) h i = omega arith
words_bound (a ∷ b ∷ []) h i = omega arith
words_bound (a ∷ b ∷ c ∷ []) h i = omega arith
words_bound (a ∷ b ∷ c ∷ d ∷ bs) h zero = word_of_bound a b c d (h 0) (h 1) (h 2) (h 3)
words_bound (a ∷ b ∷ c ∷ d ∷ bs) h (suc i) = words_bound bs (λ j. h (suc (suc (suc (suc j))))) i

pub length_words : (bs : List ℕ) → length (words bs) ≡ length bs / 4
unfolding words
length_words [] = refl
length_words (a ∷ []) = refl
length_words (a ∷ b ∷ []) = refl
length_words (a ∷ b ∷ c ∷ []) = refl
length_words (a ∷ b ∷ c ∷ d ∷ bs) = let h = length_words bs in omega arith

pub length_bytes : (ws : List ℕ) → length (bytes ws) ≡ 4 * length ws
unfolding bytes
length_bytes [] = refl
length_bytes (w ∷ ws) = let h = length_bytes ws in omega arith

-- A word that stands whole in the bytes.
pub get_d_words : (bs : List ℕ) (i : ℕ) → 4 * i + 4 ≤ length bs
    → get_or (words bs) i 0 ≡ word_of (get_or bs (4 * i) 0) (get_or bs (4 * i + 1) 0) (get_or bs (4 * i + 2) 0) (get_or bs (4 * i + 3) 0)
unfolding words
get_d_words [] i h = absurd (omega arith)
get_d_words (a ∷ []) i h = absurd (omega arith)
get_d_words (a ∷ b ∷ []) i h = absurd (omega arith)
get_d_words (a ∷ b ∷ c ∷ []) i h = absurd (omega arith)
get_d_words (a ∷ b ∷ c ∷ d ∷ bs) zero h = refl
get_d_words (a ∷ b ∷ c ∷ d ∷ bs) (suc i) h = rw (four_more i 1, four_more i 2, four_more i 3, four i) (get_d_words bs i (omega arith))

-- The words of the first bytes are the first words, and so behind them and in between.
pub words_take : (bs : List ℕ) (n : ℕ) → words (take (4 * n) bs) ≡ take n (words bs)
unfolding words
words_take bs zero = refl
words_take [] (suc n) = rw (four n)
words_take (a ∷ []) (suc n) = rw (four n)
words_take (a ∷ b ∷ []) (suc n) = rw (four n)
words_take (a ∷ b ∷ c ∷ []) (suc n) = rw (four n)
words_take (a ∷ b ∷ c ∷ d ∷ bs) (suc n) = rw (four n) (ap {B = List ℕ} (λ l. word_of a b c d ∷ l) (words_take bs n))

pub words_drop : (bs : List ℕ) (n : ℕ) → words (drop (4 * n) bs) ≡ drop n (words bs)
unfolding words
words_drop bs zero = refl
words_drop [] (suc n) = rw (four n)
words_drop (a ∷ []) (suc n) = rw (four n)
words_drop (a ∷ b ∷ []) (suc n) = rw (four n)
words_drop (a ∷ b ∷ c ∷ []) (suc n) = rw (four n)
words_drop (a ∷ b ∷ c ∷ d ∷ bs) (suc n) = rw (four n) (words_drop bs n)

pub words_between : (bs : List ℕ) (from to : ℕ)
    → words (take (4 * to - 4 * from) (drop (4 * from) bs)) ≡ take (to - from) (drop from (words bs))
words_between bs from to =
    let e : 4 * to - 4 * from ≡ 4 * (to - from) = omega arith in
    rw (e, ← words_drop bs from) (words_take (drop (4 * from) bs) (to - from))

-- To write the four bytes of a word is to write the word.
pub words_set : (bs : List ℕ) (i a b c d : ℕ) → 4 * i + 4 ≤ length bs
    → words (set (set (set (set bs (4 * i) a) (4 * i + 1) b) (4 * i + 2) c) (4 * i + 3) d) ≡ set (words bs) i (word_of a b c d)
unfolding words
words_set [] i a b c d h = absurd (omega arith)
words_set (_ ∷ []) i a b c d h = absurd (omega arith)
words_set (_ ∷ _ ∷ []) i a b c d h = absurd (omega arith)
words_set (_ ∷ _ ∷ _ ∷ []) i a b c d h = absurd (omega arith)
words_set (_ ∷ _ ∷ _ ∷ _ ∷ bs) zero a b c d h = refl
words_set (x ∷ y ∷ z ∷ w ∷ bs) (suc i) a b c d h =
    rw (four_more i 1, four_more i 2, four_more i 3, four i)
    (ap {B = List ℕ} (λ l. word_of x y z w ∷ l) (words_set bs i a b c d (omega arith)))

-- Each way round is the identity.
pub words_bytes : (ws : List ℕ) → AreWords ws → words (bytes ws) ≡ ws
unfolding words bytes
words_bytes [] h = refl
words_bytes (w ∷ ws) h = let b = h 0 in ap₂ {C = List ℕ} ◌∷◌ (omega arith) (words_bytes ws λ i. h (suc i))

pub bytes_words : (bs : List ℕ) → AreBytes bs → length bs % 4 ≡ 0 → bytes (words bs) ≡ bs
unfolding words bytes
bytes_words [] h e = refl
bytes_words (a ∷ []) h e = absurd (omega arith)
bytes_words (a ∷ b ∷ []) h e = absurd (omega arith)
bytes_words (a ∷ b ∷ c ∷ []) h e = absurd (omega arith)
bytes_words (a ∷ b ∷ c ∷ d ∷ bs) h e =
    let ha : a < 256 = h 0 in
    let hb : b < 256 = h 1 in
    let hc : c < 256 = h 2 in
    let hd : d < 256 = h 3 in
    let q = bytes_words bs (λ i. h (suc (suc (suc (suc i))))) (omega arith) in
    simp (low, high, mod_lt, q)
