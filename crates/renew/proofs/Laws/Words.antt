-- A word without a bit, and a row of two words without a place.
use Prim.Native.Nat.{ℕ, suc, ◌+◌, ◌-◌, ◌*◌, ◌/◌, ◌%◌, ◌^◌, ◌<◌, ◌≤◌}
use mathlib.Core.Path.{◌≡◌, refl, sym, ap, ap₂, ◌∙◌, subst}
use mathlib.Core.List.{List, [], ◌∷◌}
use mathlib.Core.Bool.{Bool, true, false, ◌&&◌, ◌||◌, not, and-true, or-false}
use native.Mathlib.Omega.{arith}
use native.Mathlib.Nat.{div-eq_of_lt, mul_assoc, mod-lt, zero-lt-suc, le_trans}
use lib.ListN.{get_or}
use lib.Dec.{eqb, ltb}
use lib.Bits.{bit_and, bit_or, bit_xor, shifted_even}
use lib.Pow.{pow-add, pow_mono, shl-shr, shl_exact, shr-shr, shr_lt, shr_le}
use borrow.Author.Tests.{ltb-true, ltb-false, lt-ltb, le-ltb}
use Rattle.grammar.specs.Laws.Parse.{either}
use Rattle.reach.specs.Rows.{digit, bit}
use Rattle.reach.proofs.Laws.Words.{or_digit, minus_digit}
use Rattle.reach.proofs.Laws.Rows.{low_bit, no_bit}
use Rattle.renew.specs.Less.{before, WordLess, Less}

pub before_low : {k j : ℕ} → j < k → before k j ≡ j
unfolding before
before_low {k} {j} l = rw (lt-ltb j k l, before) refl

pub before_high : {k j : ℕ} → k ≤ j → before k j ≡ suc j
unfolding before
before_high {k} {j} l = rw (le-ltb j k l, before) refl

-- Below a place, or from it on.
pub sides : {R : Type 0} (j k : ℕ) → (j < k → R) → (k ≤ j → R) → R
sides j k a b = either (ltb j k) (λ t. a (ltb-true j k t)) (λ f. b (ltb-false j k f))

-- Bits of shifted words.
shr_digit : (w k t : ℕ) → digit (w / 2 ^ k) t ≡ digit w (k + t)
unfolding digit
shr_digit w k t = ap (λ x. eqb (x % 2) 1) (shr-shr w k t)

shl_digit : (h k t : ℕ) → digit (h * 2 ^ k) (k + t) ≡ digit h t
unfolding digit
shl_digit h k t = ap (λ x. eqb (x % 2) 1) (sym (shr-shr (h * 2 ^ k) k t) ∙ ap (λ x. x / 2 ^ t) (shl-shr h k))

shl_none : (h m t : ℕ) → digit (h * 2 ^ (suc m + t)) t ≡ false
unfolding digit
shl_none h m t =
    ap (λ x. eqb (x / 2 ^ t % 2) 1) (ap (λ x. h * x) (pow-add 2 (suc m) t) ∙ sym (mul_assoc h (2 ^ suc m) (2 ^ t)))
    ∙ ap (λ x. eqb (x % 2) 1) (shl-shr (h * 2 ^ suc m) t) ∙ ap (λ x. eqb x 1) (shifted_even h m)

shl_high : (h : ℕ) {k t : ℕ} → k ≤ t → digit (h * 2 ^ k) t ≡ digit h (t - k)
shl_high h {k} {t} l = let e : t ≡ k + (t - k) = omega arith in ap (digit (h * 2 ^ k)) e ∙ shl_digit h k (t - k)

shl_low : (h : ℕ) {k t : ℕ} → t < k → digit (h * 2 ^ k) t ≡ false
shl_low h {k} {t} l =
    let e : k ≡ suc (k - suc t) + t = omega arith in
    ap (λ x. digit (h * 2 ^ x) t) e ∙ shl_none h (k - suc t) t

-- A word has 64 bits.
past_digit : {w : ℕ} (t : ℕ) → w < 2 ^ 64 → 64 ≤ t → digit w t ≡ false
unfolding digit
past_digit {w} t l h = ap (λ x. eqb (x % 2) 1) (div-eq_of_lt (le_trans l (pow_mono h)))

module _ (w k : ℕ) (l : k < 64) (b : w < 2 ^ 64) where
  shifted : (h : ℕ) → h ≤ w / 2 ^ k → h * 2 ^ k % 18446744073709551616 ≡ h * 2 ^ k
  shifted h m =
      let e : 64 - k + k ≡ 64 = omega arith in
      let s : w / 2 ^ k < 2 ^ (64 - k) = shr_lt (64 - k) k (subst (λ i. w < 2 ^ i) (sym e) b) in
      shl_exact (64 - k) k 64 (omega arith) (omega arith)

  -- What code makes of a word without a bit.
  pub word_less : WordLess w k
      (bit_or (bit_xor w (bit_and w (w / 2 ^ k * 2 ^ k % 18446744073709551616))) (w / 2 ^ k / 2 ^ 1 * 2 ^ k % 18446744073709551616))
  word_less =
      rw (shifted (w / 2 ^ k) (omega arith), shifted (w / 2 ^ k / 2 ^ 1) (shr_le (w / 2 ^ k) 1))
      (record { at = λ j. or_digit _ _ j ∙ ap₂ ◌||◌ (minus_digit w _ j) refl ∙ sides j k (low j) (high j) })
    where
      neither : (a b : Bool) → ((a && not a) || b) ≡ b
      neither true b = refl
      neither false b = refl

      low : (j : ℕ) → j < k
          → (((digit w j && not (digit (w / 2 ^ k * 2 ^ k) j)) || digit (w / 2 ^ k / 2 ^ 1 * 2 ^ k) j) ≡ digit w (before k j))
      low j m =
          rw (shl_low (w / 2 ^ k) m, shl_low (w / 2 ^ k / 2 ^ 1) m, before_low m)
          (or-false (digit w j && true) ∙ and-true (digit w j))

      high : (j : ℕ) → k ≤ j
          → (((digit w j && not (digit (w / 2 ^ k * 2 ^ k) j)) || digit (w / 2 ^ k / 2 ^ 1 * 2 ^ k) j) ≡ digit w (before k j))
      high j m =
          let same : digit (w / 2 ^ k * 2 ^ k) j ≡ digit w j =
          shl_high (w / 2 ^ k) m ∙ shr_digit w k (j - k) ∙ ap (digit w) (let e : k + (j - k) ≡ j = omega arith in e) in
          let next : digit (w / 2 ^ k / 2 ^ 1 * 2 ^ k) j ≡ digit w (suc j) =
          shl_high (w / 2 ^ k / 2 ^ 1) m ∙ shr_digit (w / 2 ^ k) 1 (j - k) ∙ shr_digit w k (1 + (j - k))
          ∙ ap (digit w) (let e : k + (1 + (j - k)) ≡ suc j = omega arith in e) in
          rw (same, next, before_high m) (neither (digit w j) (digit w (suc j)))

-- Behind its second word a row has no bits, as the word has none.
high_bit : (row : List ℕ) (j : ℕ) → 64 ≤ j → get_or row 1 0 < 2 ^ 64 → bit row j ≡ digit (get_or row 1 0) (j - 64)
unfolding bit
high_bit row j h b = sides j 128 inside (λ m. no_bit row j m ∙ sym (past_digit (j - 64) b (omega arith)))
  where
    inside : j < 128 → bit row j ≡ digit (get_or row 1 0) (j - 64)
    inside l =
        let w : j / 64 ≡ 1 = omega arith in
        let p : j % 64 ≡ j - 64 = omega arith in
        rw (lt-ltb j 128 l, w, p)

-- The lowest bit of a word, put above another word.
top_low : (h : ℕ) {t : ℕ} → t < 63 → digit (h % 2 * 2 ^ 63 % 18446744073709551616) t ≡ false
top_low h {t} l = ap (λ x. digit x t) (shl_exact 1 63 64 (mod-lt h (zero-lt-suc 1)) (omega arith)) ∙ shl_low (h % 2) l

top_own : (h : ℕ) → digit (h % 2 * 2 ^ 63 % 18446744073709551616) 63 ≡ digit h 0
unfolding digit
top_own h =
    ap (λ x. digit x 63) (shl_exact 1 63 64 (mod-lt h (zero-lt-suc 1)) (omega arith))
    ∙ shl_high (h % 2) {k = 63} {t = 63} (omega arith) ∙ ap (λ x. eqb x 1) (let e : h % 2 / 1 % 2 ≡ h / 1 % 2 = omega arith in e)

module _ {low high : ℕ} (x : low < 2 ^ 64) (y : high < 2 ^ 64) {k : ℕ} where
  -- A place of the first word is taken out.
  pub first_less : {u : ℕ} → WordLess low k u → k < 64
      → Less (low ∷ high ∷ []) k (bit_or u (high % 2 * 2 ^ 63 % 18446744073709551616) ∷ high / 2 ^ 1 ∷ [])
  first_less {u} w l = record { at = λ j. sides j 64 (first j) (second j) }
    where
      less : List ℕ
      less = bit_or u (high % 2 * 2 ^ 63 % 18446744073709551616) ∷ high / 2 ^ 1 ∷ []

      second : (j : ℕ) → 64 ≤ j → bit less j ≡ bit (low ∷ high ∷ []) (before k j)
      second j h =
          let small : high / 2 ^ 1 < 2 ^ 64 = let m = shr_le high 1 in omega arith in
          high_bit less j h small ∙ shr_digit high 1 (j - 64) ∙ ap (digit high) (let e : 1 + (j - 64) ≡ suc j - 64 = omega arith in e)
          ∙ sym (ap (bit (low ∷ high ∷ [])) (before_high (let m : k ≤ j = omega arith in m)) ∙ high_bit (low ∷ high ∷ []) (suc j) (omega arith) y)

      first : (j : ℕ) → j < 64 → bit less j ≡ bit (low ∷ high ∷ []) (before k j)
      first j h =
          low_bit less j h ∙ or_digit u _ j ∙ ap₂ ◌||◌ (w.at j) refl
          ∙ sides j 63
          (λ m. rw (top_low high m) (or-false (digit low (before k j)) ∙ sym (low_bit (low ∷ high ∷ []) (before k j) (below m))))
          (λ m. last (let e : j ≡ 63 = omega arith in e))
        where
          below : {j : ℕ} → j < 63 → before k j < 64
          below {j} m = sides j k (λ a. rw (before_low a) (omega arith)) (λ a. rw (before_high a) (omega arith))

          last : {j : ℕ} → j ≡ 63
              → ((digit low (before k j) || digit (high % 2 * 2 ^ 63 % 18446744073709551616) j) ≡ bit (low ∷ high ∷ []) (before k j))
          last e =
              rw (e, before_high (let m : k ≤ 63 = omega arith in m), top_own high, past_digit 64 x (omega arith))
              (sym (high_bit (low ∷ high ∷ []) 64 (omega arith) y))

  -- A place of the second word is taken out.
  pub second_less : {v : ℕ} → WordLess high (k - 64) v → 64 ≤ k → v < 2 ^ 64 → Less (low ∷ high ∷ []) k (low ∷ v ∷ [])
  second_less {v} w l b = record { at = λ j. sides j 64 (first j) (second j) }
    where
      first : (j : ℕ) → j < 64 → bit (low ∷ v ∷ []) j ≡ bit (low ∷ high ∷ []) (before k j)
      first j h = low_bit (low ∷ v ∷ []) j h ∙ sym (ap (bit (low ∷ high ∷ [])) (before_low (let m : j < k = omega arith in m)) ∙ low_bit (low ∷ high ∷ []) j h)

      second : (j : ℕ) → 64 ≤ j → bit (low ∷ v ∷ []) j ≡ bit (low ∷ high ∷ []) (before k j)
      second j h =
          high_bit (low ∷ v ∷ []) j h b ∙ w.at (j - 64)
          ∙ sides j k
          (λ m. rw (before_low m, before_low (let n : j - 64 < k - 64 = omega arith in n)) (sym (high_bit (low ∷ high ∷ []) j h y)))
          (λ m.
          rw (before_high m, before_high (let n : k - 64 ≤ j - 64 = omega arith in n))
          (ap (digit high) (let e : suc (j - 64) ≡ suc j - 64 = omega arith in e) ∙ sym (high_bit (low ∷ high ∷ []) (suc j) (omega arith) y)))

pub ruleset lesses = (word_less, first_less, second_less)
