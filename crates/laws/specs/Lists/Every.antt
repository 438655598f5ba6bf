-- Tests that each item of a list passes and properties that each has, by membership; what is in front and behind.
use Rattle.std.specs.Prelude.{ℕ, zero, suc, ◌≡◌, Bool, ◌&&◌, ◌||◌, take, drop}
use Rattle.std.proofs.Math.Path.{refl}
use Rattle.std.proofs.Common.{ap, ◌∙◌, true≢false, eq-eqb}
use mathlib.Core.List.Memᴰ
use mathlib.Core.List.{List, [], ◌∷◌, ◌++◌, Memᴰ}
use Rattle.std.proofs.Math.Bool.{true, false, or-true}
use Rattle.std.proofs.Math.Dec.{eqb}
use Rattle.std.proofs.lemmas.Bool.{and_from}
use Rattle.grammar.specs.Lists.{AllOf, all, member}

module _ {A : Type 0} where
  pub in_all : (test : A → Bool) (xs : List A) → ((a : A) → Memᴰ a xs → test a ≡ true) → all test xs ≡ true
  unfolding all
  in_all test [] h = refl
  in_all test (x ∷ xs) h = and_from (test x) _ (h x (Memᴰ.head refl)) (in_all test xs λ a m. h a (Memᴰ.tail m))

  pub not_all : (test : A → Bool) (xs : List A) → all test xs ≡ false → (a : A) × Memᴰ a xs × (test a ≡ false)
  unfolding all
  not_all test [] e = absurd (true≢false e)
  not_all test (x ∷ xs) e = go (test x) refl e (not_all test xs)
    where
      go : (b : Bool) → test x ≡ b → (b && all test xs) ≡ false → (all test xs ≡ false → (a : A) × Memᴰ a xs × (test a ≡ false))
          → (a : A) × Memᴰ a (x ∷ xs) × (test a ≡ false)
      go false k e ih = (x, Memᴰ.head refl, k)
      go true k e ih = let (a, m, t) = ih e in (a, Memᴰ.tail m, t)

  pub take_in : (i : ℕ) (xs : List A) {a : A} → Memᴰ a (take i xs) → Memᴰ a xs
  take_in zero [] m = m
  take_in zero (x ∷ xs) m = absurd (Memᴰ.not-nil m)
  take_in (suc i) [] m = m
  take_in (suc i) (x ∷ xs) (Memᴰ.head e) = Memᴰ.head e
  take_in (suc i) (x ∷ xs) (Memᴰ.tail m) = Memᴰ.tail (take_in i xs m)

  pub drop_in : (i : ℕ) (xs : List A) {a : A} → Memᴰ a (drop i xs) → Memᴰ a xs
  drop_in zero [] m = m
  drop_in zero (x ∷ xs) m = m
  drop_in (suc i) [] m = m
  drop_in (suc i) (x ∷ xs) m = Memᴰ.tail (drop_in i xs m)

-- A property of each number of two lists, one after the other, and of each member.
module _ (P : ℕ → Type 0) where
  pub left_of : (xs ys : List ℕ) → AllOf P (xs ++ ys) → AllOf P xs
  left_of [] ys h = tt
  left_of (x ∷ xs) ys h = (h.0, left_of xs ys h.1)

  pub right_of : (xs ys : List ℕ) → AllOf P (xs ++ ys) → AllOf P ys
  right_of [] ys h = h
  right_of (x ∷ xs) ys h = right_of xs ys h.1

  pub all_members : (xs : List ℕ) → ((n : ℕ) → member n xs ≡ true → P n) → AllOf P xs
  unfolding member
  all_members [] h = tt
  all_members (x ∷ xs) h = (
    h x (ap (λ b. b || member x xs) (eq-eqb x x refl)),
    all_members xs (λ n t. h n (ap (λ b. eqb n x || b) t ∙ or-true (eqb n x))),
  )
