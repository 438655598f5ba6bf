-- Numbers and lines put piece by piece.
use Prim.Native.Nat.{ℕ, zero, suc, ◌/◌, ◌%◌, ◌<◌, ◌≤◌, ◌^◌}
use mathlib.Core.Path.{◌≡◌, refl, ap}
use mathlib.Core.List.{List, [], ◌∷◌, ◌++◌}
use native.Mathlib.Omega.{arith}
use native.Mathlib.Nat.{pow-succ'}
use lib.ListN.{length, length-append}
use lib.Dec.{ltb}
use borrow.Author.Tests.{lt-ltb, le-ltb, ltb-true, ltb-false}
use Rattle.grammar.specs.Laws.Parse.{either}
use Rattle.listed.specs.Put.{Put, PutFew}
use Rattle.listed.specs.Text.{digit, decimal_by, decimal}
use Rattle.listed.proofs.Laws.Put.{put_then}

-- With more divisions than are needed the digits are the same.
decimal_enough : (k m n : ℕ) → n ≤ k → n ≤ m → decimal_by k n ≡ decimal_by m n
unfolding decimal_by
decimal_enough zero zero n h g = refl
decimal_enough zero (suc m) n h g = rw (lt-ltb n 10 (omega arith), decimal_by) refl
decimal_enough (suc k) zero n h g = rw (lt-ltb n 10 (omega arith), decimal_by) refl
decimal_enough (suc k) (suc m) n h g =
    either (ltb n 10)
    (λ e. rw (e, decimal_by) refl)
    (λ e.
    let l = ltb-false n 10 e in
    rw (e, decimal_by) (ap (λ l. l ++ (digit (n % 10) ∷ [])) (decimal_enough k m (n / 10) (omega arith) (omega arith))))

decimal_small : (n : ℕ) → n < 10 → decimal n ≡ digit n ∷ []
unfolding decimal_by
decimal_small zero h = refl
decimal_small (suc n) h = rw (lt-ltb (suc n) 10 h, decimal_by) refl

decimal_large : (n : ℕ) → 10 ≤ n → decimal n ≡ decimal (n / 10) ++ (digit (n % 10) ∷ [])
unfolding decimal_by
decimal_large zero h = absurd (omega arith)
decimal_large (suc n) h =
    rw (le-ltb (suc n) 10 h, decimal_by)
    (ap (λ l. l ++ (digit (suc n % 10) ∷ [])) (decimal_enough n (suc n / 10) (suc n / 10) (omega arith) (omega arith)))

-- As many digits as there are tens in a bound.
decimal_short : (k n : ℕ) → n < 10 ^ suc k → length (decimal n) ≤ suc k
decimal_short zero n h = let e = ap length (decimal_small n (omega arith)) in omega arith
decimal_short (suc k) n h =
    either (ltb n 10)
    (λ e. let l = ap length (decimal_small n (ltb-true n 10 e)) in omega arith)
    (λ e.
    let g = ltb-false n 10 e in
    let i = decimal_short k (n / 10) (let p = pow-succ' 10 (suc k) in omega arith) in
    let l = ap length (decimal_large n g) in
    let m = length-append (decimal (n / 10)) (digit (n % 10) ∷ []) in
    omega arith)

pub ten_digits : (n : ℕ) → n < 2 ^ 32 → length (decimal n) ≤ 10
ten_digits n h = decimal_short 9 n (omega arith)

module _ {b a : List ℕ} {n r : ℕ} (w : ℕ) {d : ℕ} where
  pub decimal_one : w < 10 → d ≡ digit w → Put b a n r (d ∷ []) → PutFew b a n r (decimal w) 10
  decimal_one h e p =
      record {
        put = rw (decimal_small w h) (rw e at p);
        few = let m = p.moved in omega arith;
      }

  pub decimal_more : {m : List ℕ} {q k : ℕ} → 10 ≤ w → w < 2 ^ 32 → d ≡ digit (w % 10) → PutFew b m n q (decimal (w / 10)) k
      → Put m a q r (d ∷ [])
      → PutFew b a n r (decimal w) 10
  decimal_more h g e v p =
      let z : Put b a n r (decimal w) = rw (decimal_large w h) (put_then v.put (rw e at p)) in
      record { put = z; few = let m = z.moved in let t = ten_digits w g in omega arith }

pub ruleset numbers = (decimal_one, decimal_more)
