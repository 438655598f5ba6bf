-- Reading by position: what stands at a place and where it ends, or `bad`.
use Rattle.std.specs.Prelude.{ℕ, zero, suc, List, [], ◌∷◌, Bool, true, false}

pub data Got (A : Type 0) : Type 0 where
  got : A → (next : ℕ) → Got A
  bad : Got A

-- What follows what was found.
abbrev pub ◌then◌ : {A B : Type 0} → Got A → (A → ℕ → Got B) → Got B
(got a p) then f = f a p
bad then f = bad

-- The rest, where a test holds.
abbrev pub given : {A : Type 0} → Bool → (Unit {0} → Got A) → Got A
given true f = f tt
given false f = bad

-- n items, one after the other.
abbrev pub many : {A : Type 0} → (ℕ → Got A) → ℕ → ℕ → Got (List A)
many one zero at = got [] at
many one (suc n) at = one at then λ a p. many one n p then λ as' q. got (a ∷ as') q

infixl 20 ◌then◌
