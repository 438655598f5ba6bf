-- Bits of words, and of what code makes of words.
use Prim.Native.Nat.{ℕ, zero, suc, ◌+◌, ◌-◌, ◌*◌, ◌/◌, ◌%◌, ◌^◌, ◌<◌, suc-le-suc}
use mathlib.Core.Path.{◌≡◌, refl, sym, ap, ◌∙◌, subst}
use mathlib.Core.Bool.{true, false, ◌&&◌, ◌||◌, not}
use native.Mathlib.Omega.{arith}
use native.Mathlib.Nat.{mod-lt, pow-suc, mul-mod_left, div-eq_of_lt, zero-lt-suc, zero-div, one-mul}
use lib.Dec.{eqb, ltb}
use lib.Bits.{bit_and, bit_or, bit_xor, or_shr, and_shr, xor_shr, or_mod, and_mod, xor_mod}
use lib.Pow.{pow-lt, pow-add, shl-shr, shl_exact, shr-shr, shr_lt}
use borrow.Author.Tests.{eqb-true, eqb-false, ltb-true, ltb-false}
use Rattle.grammar.specs.Laws.Parse.{either}
use Rattle.reach.specs.Rows.{digit}

-- Of two digits.
two : (P : ℕ → ℕ → Type 0) → P 0 0 → P 0 1 → P 1 0 → P 1 1 → (u v : ℕ) → u < 2 → v < 2 → P u v
two P a b c d zero zero h k = a
two P a b c d zero (suc zero) h k = b
two P a b c d (suc zero) zero h k = c
two P a b c d (suc zero) (suc zero) h k = d
two P a b c d zero (suc (suc v)) h k = absurd (omega arith)
two P a b c d (suc zero) (suc (suc v)) h k = absurd (omega arith)
two P a b c d (suc (suc u)) v h k = absurd (omega arith)

low : (x : ℕ) → x % 2 < 2
low x = mod-lt x (zero-lt-suc 1)

pub or_digit : (a b t : ℕ) → digit (bit_or a b) t ≡ (digit a t || digit b t)
unfolding digit
or_digit a b t =
    ap (λ x. eqb (x % 2) 1) (or_shr a b t) ∙ ap (λ x. eqb x 1) (or_mod (a / 2 ^ t) (b / 2 ^ t) 1)
    ∙ two (λ u v. eqb (bit_or u v) 1 ≡ (eqb u 1 || eqb v 1)) refl refl refl refl (a / 2 ^ t % 2) (b / 2 ^ t % 2) (low _) (low _)

pub and_digit : (a b t : ℕ) → digit (bit_and a b) t ≡ (digit a t && digit b t)
unfolding digit
and_digit a b t =
    ap (λ x. eqb (x % 2) 1) (and_shr a b t) ∙ ap (λ x. eqb x 1) (and_mod (a / 2 ^ t) (b / 2 ^ t) 1)
    ∙ two (λ u v. eqb (bit_and u v) 1 ≡ (eqb u 1 && eqb v 1)) refl refl refl refl (a / 2 ^ t % 2) (b / 2 ^ t % 2) (low _) (low _)

-- What is in the one and in no part of it that is in the other too.
pub minus_digit : (a b t : ℕ) → digit (bit_xor a (bit_and a b)) t ≡ (digit a t && not (digit b t))
unfolding digit
minus_digit a b t =
    let x = a / 2 ^ t in
    let y = b / 2 ^ t in
    ap (λ z. eqb (z % 2) 1) (xor_shr a (bit_and a b) t ∙ ap (bit_xor x) (and_shr a b t))
    ∙ ap (λ z. eqb z 1) (xor_mod x (bit_and x y) 1 ∙ ap (bit_xor (x % 2)) (and_mod x y 1))
    ∙ two (λ u v. eqb (bit_xor u (bit_and u v)) 1 ≡ (eqb u 1 && not (eqb v 1))) refl refl refl refl (x % 2) (y % 2) (low x) (low y)

pub zero_digit : (t : ℕ) → digit 0 t ≡ false
unfolding digit
zero_digit t = ap (λ x. eqb (x % 2) 1) (zero-div (2 ^ t))

-- A power of two has its own bit alone.
power_own : (t : ℕ) → digit (1 * 2 ^ t) t ≡ true
unfolding digit
power_own t = ap (λ x. eqb (x % 2) 1) (shl-shr 1 t)

power_low : (m t : ℕ) → digit (1 * 2 ^ (suc m + t)) t ≡ false
unfolding digit
power_low m t =
    ap (λ x. eqb (x / 2 ^ t % 2) 1) (one-mul (2 ^ (suc m + t)) ∙ pow-add 2 (suc m) t)
    ∙ ap (λ x. eqb (x % 2) 1) (shl-shr (2 ^ suc m) t ∙ pow-suc 2 m) ∙ ap (λ x. eqb x 1) (mul-mod_left (2 ^ m) 2)

power_high : (j t : ℕ) → j < t → digit (1 * 2 ^ j) t ≡ false
unfolding digit
power_high j t h = ap (λ x. eqb (x % 2) 1) (div-eq_of_lt (subst (λ x. x < 2 ^ t) (sym (one-mul (2 ^ j))) (pow-lt h)))

power_digit : (j t : ℕ) → digit (1 * 2 ^ j) t ≡ eqb t j
power_digit j t =
    either (eqb t j)
    (λ e. ap (λ x. digit (1 * 2 ^ x) t) (sym (eqb-true t j e)) ∙ power_own t ∙ sym e)
    (λ n.
    let ne = eqb-false t j n in
    either (ltb t j)
    (λ l.
    let low = ltb-true t j l in
    let e : j ≡ suc (j - suc t) + t = omega arith in
    ap (λ x. digit (1 * 2 ^ x) t) e ∙ power_low (j - suc t) t ∙ sym n)
    (λ l. let high = ltb-false t j l in power_high j t (omega arith) ∙ sym n))

-- The word that a shift makes.
pub one_digit : (j t : ℕ) → j < 64 → digit (1 * 2 ^ j % 18446744073709551616) t ≡ eqb t j
unfolding digit
one_digit j t h = ap (λ x. eqb (x / 2 ^ t % 2) 1) (shl_exact 1 j 64 (omega arith) (omega arith)) ∙ power_digit j t

half_digit : (x t : ℕ) → digit (x / 2) t ≡ digit x (suc t)
unfolding digit
half_digit x t = ap (λ y. eqb (y % 2) 1) (shr-shr x 1 t ∙ ap (λ i. x / 2 ^ i) (omega arith))

even : (x : ℕ) → digit x 0 ≡ false → x / 2 ≡ 0 → x ≡ 0
unfolding digit
even x f z = let odd = eqb-false (x / 2 ^ 0 % 2) 1 f in omega arith

-- A word that is not 0 has a bit.
pub some_digit : (k x : ℕ) → x < 2 ^ k → (x ≡ 0 → ⊥) → (t : ℕ) × (t < k) × (digit x t ≡ true)
some_digit zero x l n = absurd (n (omega arith))
some_digit (suc k) x l n =
    either (digit x 0)
    (λ e. (0, (omega arith), e))
    (λ f.
    let half : x / 2 ^ 1 < 2 ^ k = shr_lt k 1 (subst (λ i. x < 2 ^ i) (omega arith) l) in
    let next = some_digit k (x / 2) half (λ z. n (even x f z)) in
    (suc next.0, suc-le-suc next.1, sym (half_digit x next.0) ∙ next.2))
