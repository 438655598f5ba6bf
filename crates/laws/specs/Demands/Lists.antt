-- What is promised of the words about lists of numbers that the other statements use: each by what stands in a list.
use Rattle.std.specs.Prelude.{ℕ, ◌+◌, ◌≤◌, ◌<◌, ◌≡◌, ◌↔◌, true}
use mathlib.Core.List.{List, [], ◌∷◌, ◌++◌, Memᴰ}
use Rattle.grammar.specs.Lists.{member, distinct, below, rising, total, AllOf, AnyOf}
use Rattle.grammar.specs.Laws.Words.{AreBytes}

-- No number stands in two places; each is below a number; each is below the next.
abbrev pub NoTwo : List ℕ → Type 0
NoTwo xs = (front middle rest : List ℕ) (x : ℕ) → front ++ (x ∷ (middle ++ (x ∷ rest))) ≡ xs → ⊥

abbrev pub Low : ℕ → List ℕ → Type 0
Low c xs = (x : ℕ) → Memᴰ x xs → x < c

abbrev pub Rises : List ℕ → Type 0
Rises xs = (front rest : List ℕ) (a b : ℕ) → front ++ (a ∷ b ∷ rest) ≡ xs → a < b

pub record ListsTold : Type 0 where
  pub is_member : (x : ℕ) (xs : List ℕ) → (member x xs ≡ true) ↔ Memᴰ x xs
  pub is_distinct : (xs : List ℕ) → (distinct xs ≡ true) ↔ NoTwo xs
  pub is_below : (c : ℕ) (xs : List ℕ) → (below c xs ≡ true) ↔ Low c xs
  pub is_rising : (xs : List ℕ) → (rising xs ≡ true) ↔ Rises xs
  pub total : (x : ℕ) (xs : List ℕ) → (total [] ≡ 0) × (total (x ∷ xs) ≡ x + total xs)
  pub all_of : (c : ℕ) (xs : List ℕ) → AllOf (λ x. x < c) xs ↔ Low c xs
  pub any_of : (c : ℕ) (xs : List ℕ) → AnyOf (λ x. c ≤ x) xs ↔ ((x : ℕ) × Memᴰ x xs × (c ≤ x))
  pub are_bytes : (bs : List ℕ) → AreBytes bs ↔ Low 256 bs
