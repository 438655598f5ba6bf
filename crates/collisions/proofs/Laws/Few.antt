-- Places of a sheet that differ are few.
use Prim.Native.Nat.{ℕ, zero, suc, ◌+◌, ◌<◌}
use mathlib.Core.Path.{◌≡◌, refl, sym, ap}
use mathlib.Core.Logic.{⊎_elim}
use mathlib.Core.List.Memᴰ
use mathlib.Core.List.{List, [], ◌∷◌, Memᴰ}
use mathlib.Core.Bool.{true}
use native.Mathlib.Omega.{arith}
use lib.ListN.{length}
use lib.Dec.{eqb}
use borrow.Author.Tests.{eqb-true, eqb-false}
use Rattle.grammar.specs.Lists.{member, distinct}
use Rattle.grammar.specs.Laws.Few.{no_more}
use Rattle.grammar.specs.Laws.Lists.{member_in}
use Rattle.grammar.specs.Laws.Parse.{either}

-- The numbers from 2 on, m of them.
numbers : ℕ → List ℕ
numbers zero = []
numbers (suc m) = (m + 2) ∷ numbers m

numbers_length : (m : ℕ) → length (numbers m) ≡ m
unfolding numbers
numbers_length zero = refl
numbers_length (suc m) = ap suc (numbers_length m)

in_numbers : (m x : ℕ) → 1 < x → x < m + 2 → Memᴰ x (numbers m)
unfolding numbers
in_numbers zero x l h = absurd (omega arith)
in_numbers (suc m) x l h =
    either (eqb x (m + 2)) (λ t. Memᴰ.head (eqb-true x (m + 2) t))
    (λ f. let e = eqb-false x (m + 2) f in Memᴰ.tail (in_numbers m x l (omega arith)))

-- What a function gives below n, the last first.
given : (ℕ → ℕ) → ℕ → List ℕ
given f zero = []
given f (suc n) = f n ∷ given f n

given_length : (f : ℕ → ℕ) (n : ℕ) → length (given f n) ≡ n
unfolding given
given_length f zero = refl
given_length f (suc n) = ap suc (given_length f n)

in_given : (f : ℕ → ℕ) (n : ℕ) {x : ℕ} → Memᴰ x (given f n) → (i : ℕ) × (i < n) × (f i ≡ x)
unfolding given
in_given f zero m = absurd (Memᴰ.not-nil m)
in_given f (suc n) {x} m =
    ⊎_elim (λ e. (n, omega arith, sym e)) (λ k. let (i, l, e) = in_given f n k in (i, omega arith, e)) (Memᴰ.cases_cons m)

fresh_true : (x : ℕ) (xs : List ℕ) → (Memᴰ x xs → ⊥) → distinct xs ≡ true → distinct (x ∷ xs) ≡ true
unfolding distinct
fresh_true x xs h t = either (member x xs) (λ u. absurd (h (member_in xs u))) (λ f. rw (f, t) refl)

module _ (f : ℕ → ℕ) where
  given_distinct : (n : ℕ) → ((i j : ℕ) → i < j → j < n → f i ≡ f j → ⊥) → distinct (given f n) ≡ true
  unfolding given distinct
  given_distinct zero h = refl
  given_distinct (suc n) h =
      fresh_true (f n) (given f n) (λ m. let (i, l, e) = in_given f n m in h i n l (omega arith) e)
      (given_distinct n (λ i j l k. h i j l (omega arith)))

  pub fewer : (n at m : ℕ) → ((i : ℕ) → i < n → 1 < f i) → ((i : ℕ) → i < n → f i < m + 2)
      → ((i j : ℕ) → i < j → j < n → f i ≡ f j → ⊥) → 1 < at → at < m + 2 → ((i : ℕ) → i < n → f i ≡ at → ⊥) → n < m
  fewer n at m some low apart l h other =
      let t =
      fresh_true at (given f n) (λ k. let (i, u, e) = in_given f n k in other i u e) (given_distinct n apart) in
      let c =
      no_more (at ∷ given f n) (numbers m) t
      (λ x k.
      ⊎_elim (λ e. in_numbers m x (omega arith) (omega arith))
      (λ u. let (i, v, e) = in_given f n u in let a = some i v in let b = low i v in in_numbers m x (omega arith) (omega arith))
      (Memᴰ.cases_cons k)) in
      let a = numbers_length m in
      let b = given_length f n in
      omega arith
