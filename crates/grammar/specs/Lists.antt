-- Functions on lists. Sets are lists here, and only membership in them is asked.
use Rattle.std.specs.Prelude.{ℕ, zero, suc, ◌+◌, ◌⊎◌}
use Rattle.std.specs.Prelude.{List, [], ◌∷◌, ◌++◌, Bool, true, false, ◌&&◌, ◌||◌, not, length, leb, ltb, eqb}
use Rattle.std.proofs.Math.Option.{Option, none, some}

abbrev pub is_empty : {A : Type 0} → List A → Bool
is_empty [] = true
is_empty (a ∷ as') = false

-- No items, whatever is looked at.
abbrev pub nothing : {A B : Type 0} → A → List B
nothing a = []

-- What each item gives, one after the other.
abbrev pub each : {A : Type 0} → (A → List ℕ) → List A → List ℕ
each f [] = []
each f (a ∷ as') = f a ++ each f as'

-- The number, where a test holds.
abbrev pub only : Bool → ℕ → List ℕ
only true i = i ∷ []
only false i = []

unfoldable pub all : {A : Type 0} → (A → Bool) → List A → Bool
all test [] = true
all test (a ∷ as') = test a && all test as'

unfoldable pub any : {A : Type 0} → (A → Bool) → List A → Bool
any test [] = false
any test (a ∷ as') = test a || any test as'

unfoldable pub member : ℕ → List ℕ → Bool
member x [] = false
member x (y ∷ ys) = eqb x y || member x ys

-- Whether two lists are the same, number by number.
unfoldable pub same : List ℕ → List ℕ → Bool
same [] [] = true
same [] (y ∷ ys) = false
same (x ∷ xs) [] = false
same (x ∷ xs) (y ∷ ys) = elim (eqb x y) [ true ↦ same xs ys | false ↦ false ]

-- No two are equal.
unfoldable pub distinct : List ℕ → Bool
distinct [] = true
distinct (x ∷ xs) = not (member x xs) && distinct xs

-- Each is below the counter.
unfoldable pub below : ℕ → List ℕ → Bool
below c [] = true
below c (x ∷ xs) = ltb x c && below c xs

-- The item in front, where a test holds.
abbrev pub push : {A : Type 0} → Bool → A → List A → List A
push true a as' = a ∷ as'
push false a as' = as'

-- Those that pass, in order.
unfoldable pub keep : {A : Type 0} → (A → Bool) → List A → List A
keep test [] = []
keep test (a ∷ as') = push (test a) a (keep test as')

-- The first that passes.
unfoldable pub first : {A : Type 0} → (A → Bool) → List A → Option A
first test [] = none
first test (a ∷ as') = elim (test a) [ true ↦ some a | false ↦ first test as' ]

unfoldable pub total : List ℕ → ℕ
total [] = 0
total (x ∷ xs) = x + total xs

-- Whether two lists have a member in common.
unfoldable pub meet : List ℕ → List ℕ → Bool
meet xs ys = any (λ x. member x ys) xs

unfoldable pub insert : ℕ → List ℕ → List ℕ
insert x [] = x ∷ []
insert x (y ∷ ys) = elim (leb x y) [ true ↦ x ∷ y ∷ ys | false ↦ y ∷ insert x ys ]

-- In rising order.
unfoldable pub sorted : List ℕ → List ℕ
sorted [] = []
sorted (x ∷ xs) = insert x (sorted xs)

-- Strictly rising.
unfoldable pub rising : List ℕ → Bool
rising [] = true
rising (x ∷ []) = true
rising (x ∷ y ∷ ys) = ltb x y && rising (y ∷ ys)

-- Rounds, until one leaves the length as it was or n are made.
unfoldable pub rounds : (List ℕ → List ℕ) → ℕ → List ℕ → List ℕ
rounds round zero xs = xs
rounds round (suc n) xs =
    let ys = round xs in
    elim (eqb (length ys) (length xs)) [ true ↦ xs | false ↦ rounds round n ys ]

-- Each, or one, of a list has a property.
abbrev pub AllOf : {A : Type 0} → (A → Type 0) → List A → Type 0
AllOf P [] = Unit {0}
AllOf P (a ∷ as') = P a × AllOf P as'

abbrev pub AnyOf : {A : Type 0} → (A → Type 0) → List A → Type 0
AnyOf P [] = ⊥
AnyOf P (a ∷ as') = P a ⊎ AnyOf P as'
