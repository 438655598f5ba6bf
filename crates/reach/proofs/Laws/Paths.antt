-- Warshall's recursion finds the paths.
use Prim.Native.Nat.{ℕ, zero, suc, ◌≤◌, ◌<◌}
use mathlib.Core.Path.{◌≡◌, subst}
use mathlib.Core.Logic.{◌⊎◌, inl, inr, ⊎_elim}
use mathlib.Core.Bool.{Bool, true, ◌&&◌, ◌||◌}
use native.Mathlib.Omega.{arith}
use lib.Dec.{eqb}
use borrow.Author.Tests.{eqb-true, eqb-false}
use Rattle.std.proofs.lemmas.Bool.{or_cases, or_left, or_right, and_from}
use Rattle.std.specs.Cmp.{first_so, second_so}
use Rattle.grammar.specs.Laws.Parse.{either}
use Rattle.reach.specs.Reach.{Path, last, more}

pub path_path : {f : ℕ → ℕ → Bool} {n i k j : ℕ} → Path f n i k → k < n → Path f n k j → Path f n i j
path_path (last e) l q = more e l q
path_path (more e m p) l q = more e m (path_path p l q)

module _ (f : ℕ → ℕ → Bool) where
  -- Whether a path goes from i to j through rules below k alone.
  unfoldable pub within : ℕ → ℕ → ℕ → Bool
  within zero i j = f i j
  within (suc k) i j = within k i j || (within k i k && within k k j)

  -- The last step in, the two steps over k, and both ways to tell them apart.
  step : (k i j : ℕ) → within (suc k) i j ≡ true → (within k i j ≡ true) ⊎ ((within k i k ≡ true) × (within k k j ≡ true))
  unfolding within
  step k i j t = ⊎_elim inl (λ u. inr (first_so (within k i k) _ u, second_so (within k i k) _ u)) (or_cases (within k i j) _ t)

  over : (k i j : ℕ) → within k i k ≡ true → within k k j ≡ true → within (suc k) i j ≡ true
  unfolding within
  over k i j a b = or_right (within k i j) _ (and_from (within k i k) (within k k j) a b)

  stay : (k i j : ℕ) → within k i j ≡ true → within (suc k) i j ≡ true
  unfolding within
  stay k i j a = or_left (within k i j) _ a

  pub within_path : (n i j : ℕ) → within n i j ≡ true → Path f n i j
  unfolding within
  within_path n i j t = go n i j (omega arith) t
    where
      go : (k i j : ℕ) → k ≤ n → within k i j ≡ true → Path f n i j
      go zero i j l t = last t
      go (suc k) i j l t =
          ⊎_elim (go k i j (omega arith))
          (λ p. path_path (go k i k (omega arith) p.0) (omega arith) (go k k j (omega arith) p.1)) (step k i j t)

  -- Paths through k end or start there: k need not be passed again.
  end : (k i : ℕ) → within (suc k) i k ≡ true → within k i k ≡ true
  end k i t = ⊎_elim (λ a. a) (λ p. p.0) (step k i k t)

  start : (k j : ℕ) → within (suc k) k j ≡ true → within k k j ≡ true
  start k j t = ⊎_elim (λ a. a) (λ p. p.1) (step k k j t)

  join : (n i k j : ℕ) → k < n → within n i k ≡ true → within n k j ≡ true → within n i j ≡ true
  join zero i k j l a b = absurd (omega arith)
  join (suc n) i k j l a b =
      either (eqb k n)
      (λ t.
      let e = eqb-true k n t in
      over n i j (end n i (subst (λ x. within (suc n) i x ≡ true) e a)) (start n j (subst (λ x. within (suc n) x j ≡ true) e b)))
      (λ f.
      let ne = eqb-false k n f in
      let low : k < n = omega arith in
      ⊎_elim
      (λ u. ⊎_elim (λ v. stay n i j (join n i k j low u v)) (λ v. over n i j (join n i k n low u v.0) v.1) (step n k j b))
      (λ u. ⊎_elim (λ v. over n i j u.0 (join n n k j low u.1 v)) (λ v. over n i j u.0 v.1) (step n k j b)) (step n i k a))

  edge_within : (k i j : ℕ) → f i j ≡ true → within k i j ≡ true
  unfolding within
  edge_within zero i j e = e
  edge_within (suc k) i j e = stay k i j (edge_within k i j e)

  pub path_within : (n : ℕ) {i j : ℕ} → Path f n i j → within n i j ≡ true
  path_within n (last {i = i} {j = j} e) = edge_within n i j e
  path_within n (more {i = i} {k = k} {j = j} e l p) = join n i k j l (edge_within n i k e) (path_within n p)
