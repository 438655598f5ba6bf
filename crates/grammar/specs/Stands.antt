-- What it is that a tree stands in a sheet: the relation that the reader decides and the encoder makes true.
use Rattle.std.specs.Prelude.{ℕ, suc, ◌+◌, ◌≤◌, ◌≡◌, List, [], ◌∷◌, Bool, true, get_or}

-- xs stands in ws from k words behind `at` up to q, which is not past the end.
abbrev pub Run : List ℕ → ℕ → List ℕ → ℕ → ℕ → ℕ → Type 0
Run ws end [] at k q = (q ≡ at + k) × (q ≤ end)
Run ws end (x ∷ xs) at k q = (get_or ws (at + k) 0 ≡ x) × Run ws end xs at (suc k) q

-- xs stands in ws from `at` up to q, which is not past the end.
pub record Stands (ws : List ℕ) (end : ℕ) (xs : List ℕ) (at q : ℕ) : Type 0 where
  pub run : Run ws end xs at 0 q

-- The encoding of a stands there, and a passes the test.
pub record Spans (ws : List ℕ) (end : ℕ) {A : Type 0} (enc : A → List ℕ) (ok : A → Bool) (at : ℕ) (a : A) (q : ℕ) : Type 0 where
  pub stands : Stands ws end (enc a) at q
  pub fine : ok a ≡ true
