-- Rows of two words, word by word.
use Prim.Native.Nat.{ℕ, ◌+◌, ◌-◌, ◌*◌, ◌/◌, ◌%◌, ◌^◌, ◌<◌, ◌≤◌}
use mathlib.Core.Path.{◌≡◌, refl, sym, ap, ap₂, ◌∙◌}
use mathlib.Core.List.{List, [], ◌∷◌}
use mathlib.Core.Bool.{Bool, true, false, ◌&&◌, ◌||◌, not}
use native.Mathlib.Omega.{arith}
use lib.ListN.{get_or}
use lib.Dec.{eqb, ltb}
use lib.Bits.{bit_and, bit_or, bit_xor, or_add_and, and_le_l, and_le_r}
use borrow.Author.Tests.{eqb-true, eqb-false, ltb-true, ltb-false, lt-ltb, le-ltb, eq-eqb, ne_eqb}
use Rattle.grammar.specs.Laws.Parse.{either}
use Rattle.reach.specs.Rows.{digit, bit, One, Union, Meet, Minus, Empty}
use Rattle.reach.proofs.Laws.Words.{or_digit, and_digit, minus_digit, zero_digit, one_digit, some_digit}

pub low_bit : (row : List ℕ) (j : ℕ) → j < 64 → bit row j ≡ digit (get_or row 0 0) j
unfolding bit
low_bit row j l =
    let w : j / 64 ≡ 0 = omega arith in
    let p : j % 64 ≡ j = omega arith in
    rw (lt-ltb j 128 (omega arith), w, p)

high_bit : (row : List ℕ) (j : ℕ) → 64 ≤ j → j < 128 → bit row j ≡ digit (get_or row 1 0) (j - 64)
unfolding bit
high_bit row j h l =
    let w : j / 64 ≡ 1 = omega arith in
    let p : j % 64 ≡ j - 64 = omega arith in
    rw (lt-ltb j 128 l, w, p)

pub no_bit : (row : List ℕ) (j : ℕ) → 128 ≤ j → bit row j ≡ false
unfolding bit
no_bit row j h = rw (le-ltb j 128 h)

-- A place is in the first word, in the second, or in none.
places : {R : Type 0} (j : ℕ) → (j < 64 → R) → (64 ≤ j → j < 128 → R) → (128 ≤ j → R) → R
places j a b c =
    either (ltb j 64) (λ t. a (ltb-true j 64 t))
    (λ f. either (ltb j 128) (λ t. b (ltb-false j 64 f) (ltb-true j 128 t)) (λ g. c (ltb-false j 128 g)))

-- A row is its two words.
pub two_words : (row : List ℕ) (k : ℕ) → bit (get_or row 0 0 ∷ get_or row 1 0 ∷ []) k ≡ bit row k
two_words row k =
    let two = get_or row 0 0 ∷ get_or row 1 0 ∷ [] in
    places k (λ h. low_bit two k h ∙ sym (low_bit row k h)) (λ h i. high_bit two k h i ∙ sym (high_bit row k h i))
    (λ h. no_bit two k h ∙ sym (no_bit row k h))

pub has_low : (row : List ℕ) (j : ℕ) → j < 64 → eqb (get_or row 0 0 / 2 ^ j % 2) 1 ≡ bit row j
unfolding digit
has_low row j l = sym (low_bit row j l)

pub has_high : (row : List ℕ) (j : ℕ) → 64 ≤ j → j < 128 → eqb (get_or row 1 0 / 2 ^ (j - 64) % 2) 1 ≡ bit row j
unfolding digit
has_high row j h l = sym (high_bit row j h l)

pub one_low : (j : ℕ) → j < 64 → One j (1 * 2 ^ j % 18446744073709551616 ∷ 0 ∷ [])
one_low j l =
    let row = 1 * 2 ^ j % 18446744073709551616 ∷ 0 ∷ [] in
    record {
      at = λ k.
          places k (λ h. low_bit row k h ∙ one_digit j k l)
          (λ h i. high_bit row k h i ∙ zero_digit (k - 64) ∙ sym (ne_eqb k j (λ e. omega arith)))
          (λ h. no_bit row k h ∙ sym (ne_eqb k j (λ e. omega arith)));
    }

pub one_high : (j : ℕ) → 64 ≤ j → j < 128 → One j (0 ∷ 1 * 2 ^ (j - 64) % 18446744073709551616 ∷ [])
one_high j b l =
    let row : List ℕ = 0 ∷ 1 * 2 ^ (j - 64) % 18446744073709551616 ∷ [] in
    record {
      at = λ k.
          places k (λ h. low_bit row k h ∙ zero_digit k ∙ sym (ne_eqb k j (λ e. omega arith)))
          (λ h i. high_bit row k h i ∙ one_digit (j - 64) (k - 64) (omega arith) ∙ shifted j k b h)
          (λ h. no_bit row k h ∙ sym (ne_eqb k j (λ e. omega arith)));
    }
  where
    shifted : (j k : ℕ) → 64 ≤ j → 64 ≤ k → eqb (k - 64) (j - 64) ≡ eqb k j
    shifted j k b h =
        either (eqb k j) (λ e. ap (λ x. eqb (x - 64) (j - 64)) (eqb-true k j e) ∙ eq-eqb (j - 64) (j - 64) refl ∙ sym e)
        (λ n. let d = eqb-false k j n in ne_eqb (k - 64) (j - 64) (λ e. d (omega arith)) ∙ sym n)

-- An operation on words that works bit by bit.
module _ (op : ℕ → ℕ → ℕ) (f : Bool → Bool → Bool) (none : f false false ≡ false)
    (by : (a b t : ℕ) → digit (op a b) t ≡ f (digit a t) (digit b t)) where
  by_words : (a b : List ℕ) (k : ℕ) → bit (op (get_or a 0 0) (get_or b 0 0) ∷ op (get_or a 1 0) (get_or b 1 0) ∷ []) k ≡ f (bit a k) (bit b k)
  by_words a b k =
      let row = op (get_or a 0 0) (get_or b 0 0) ∷ op (get_or a 1 0) (get_or b 1 0) ∷ [] in
      places k (λ h. low_bit row k h ∙ by _ _ k ∙ sym (ap₂ f (low_bit a k h) (low_bit b k h)))
      (λ h i. high_bit row k h i ∙ by _ _ (k - 64) ∙ sym (ap₂ f (high_bit a k h i) (high_bit b k h i)))
      (λ h. no_bit row k h ∙ sym none ∙ sym (ap₂ f (no_bit a k h) (no_bit b k h)))

pub or_row : (a b : List ℕ) → Union a b (bit_or (get_or a 0 0) (get_or b 0 0) ∷ bit_or (get_or a 1 0) (get_or b 1 0) ∷ [])
or_row a b = record { at = by_words bit_or ◌||◌ refl or_digit a b }

pub and_row : (a b : List ℕ) → Meet a b (bit_and (get_or a 0 0) (get_or b 0 0) ∷ bit_and (get_or a 1 0) (get_or b 1 0) ∷ [])
and_row a b = record { at = by_words bit_and ◌&&◌ refl and_digit a b }

pub minus_row : (a b : List ℕ)
    → Minus a b (bit_xor (get_or a 0 0) (bit_and (get_or a 0 0) (get_or b 0 0)) ∷ bit_xor (get_or a 1 0) (bit_and (get_or a 1 0) (get_or b 1 0)) ∷ [])
minus_row a b = record { at = by_words (λ x y. bit_xor x (bit_and x y)) (λ x y. x && not y) refl minus_digit a b }

pub no_bits : (k : ℕ) → bit (0 ∷ 0 ∷ []) k ≡ false
no_bits k =
    places k (λ h. low_bit (0 ∷ 0 ∷ []) k h ∙ zero_digit k)
    (λ h i. high_bit (0 ∷ 0 ∷ []) k h i ∙ zero_digit (k - 64)) (no_bit (0 ∷ 0 ∷ []) k)

pub zero_row : (x y : ℕ) → x < 2 ^ 64 → y < 2 ^ 64 → Empty (x ∷ y ∷ []) (eqb (bit_or x y) 0)
zero_row x y a b =
    let row = x ∷ y ∷ [] in
    let sum = or_add_and x y in
    let l = and_le_l x y in
    let r = and_le_r x y in
    record {
      none = λ e k.
          let z = eqb-true (bit_or x y) 0 e in
          let u : x ≡ 0 = omega arith in
          let v : y ≡ 0 = omega arith in
          places k (λ h. low_bit row k h ∙ ap (λ w. digit w k) u ∙ zero_digit k)
          (λ h i. high_bit row k h i ∙ ap (λ w. digit w (k - 64)) v ∙ zero_digit (k - 64)) (no_bit row k);
      some = λ e.
          let n = eqb-false (bit_or x y) 0 e in
          either (eqb x 0)
          (λ u. high (some_digit 64 y b (λ v. n (ap₂ bit_or (eqb-true x 0 u) v))))
          (λ u. low (some_digit 64 x a (eqb-false x 0 u)));
    }
  where
    low : (t : ℕ) × (t < 64) × (digit x t ≡ true) → (j : ℕ) × (j < 128) × (bit (x ∷ y ∷ []) j ≡ true)
    low (t, i, d) = (t, (omega arith), low_bit (x ∷ y ∷ []) t i ∙ d)

    high : (t : ℕ) × (t < 64) × (digit y t ≡ true) → (j : ℕ) × (j < 128) × (bit (x ∷ y ∷ []) j ≡ true)
    high (t, i, d) =
        let e : t + 64 - 64 ≡ t = omega arith in
        (t + 64, (omega arith), high_bit (x ∷ y ∷ []) (t + 64) (omega arith) (omega arith) ∙ ap (digit y) e ∙ d)

pub empty_row : {row : List ℕ} {r : Bool} → Empty (get_or row 0 0 ∷ get_or row 1 0 ∷ []) r → Empty row r
empty_row {row} e =
    record {
      none = λ t k. sym (two_words row k) ∙ e.none t k;
      some = λ f. let (j, l, b) = e.some f in (j, l, sym (two_words row j) ∙ b);
    }
