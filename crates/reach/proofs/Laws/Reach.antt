-- The loops over rows: what holds at each turn.
use Prim.Native.Nat.{ℕ, ◌+◌, ◌≤◌, ◌<◌}
use mathlib.Core.Path.{◌≡◌, refl, sym, ap, ap₂, ◌∙◌, subst}
use mathlib.Core.List.{List, []}
use mathlib.Core.Bool.{◌&&◌, ◌||◌, not}
use native.Mathlib.Omega.{arith}
use native.Mathlib.Numerals.{add-one}
use lib.ListN.{length, get_or, set, length-set}
use lib.Seq.{get_or-set_same, get_or-set_other}
use lib.Dec.{eqb}
use borrow.Author.Tests.{eqb-true, eqb-false}
use Rattle.grammar.specs.Laws.Parse.{either}
use Rattle.reach.specs.Rows.{bit, edge, Without}
use Rattle.reach.specs.Reach.{other, Others, Closed}
use Rattle.reach.specs.Steps.{Through}
use Rattle.reach.proofs.Laws.Paths.{within, within_path, path_within}

-- A row stored, and the others.
pub edge_same : (rows : List (List ℕ)) (i : ℕ) (row : List ℕ) (j : ℕ) → i < length rows → edge (set rows i row) i j ≡ bit row j
edge_same rows i row j l = ap (λ x. bit x j) (get_or-set_same rows i row [] l)

pub edge_other : (rows : List (List ℕ)) (i : ℕ) (row : List ℕ) (a j : ℕ) → (a ≡ i → ⊥) → edge (set rows i row) a j ≡ edge rows a j
edge_other rows i row a j n = ap (λ x. bit x j) (get_or-set_other rows i a row [] n)

-- An index below i + 1.
upto : {R : Type 0} (a i : ℕ) → a < i + 1 → (a ≡ i → R) → (a < i → R) → R
upto a i l f g = either (eqb a i) (λ t. f (eqb-true a i t)) (λ e. let n = eqb-false a i e in g (omega arith))

-- Rows below i have lost their own edge.
pub record Cleared (rows : List (List ℕ)) (n i : ℕ) (r : List (List ℕ)) : Type 0 where
  pub size : length r ≡ 128
  pub room : i ≤ n
  pub below : (a j : ℕ) → a < i → edge r a j ≡ other rows a j
  pub rest : (a j : ℕ) → i ≤ a → edge r a j ≡ edge rows a j

pub cleared_more : {rows : List (List ℕ)} {n i : ℕ} {r : List (List ℕ)} {t : List ℕ} → Cleared rows n i r → i < n → n ≤ 128
    → Without (get_or r i []) i t
    → Cleared rows n (i + 1) (set r i t)
unfolding other
cleared_more {rows} {n} {i} {r} {t} h l m w =
    record {
      size = length-set r i t ∙ h.size;
      room = omega arith;
      below = λ a j k.
          upto a i k
          (λ e.
          subst (λ x. edge (set r i t) x j ≡ (edge rows x j && not (eqb j x))) (sym e)
          (edge_same r i t j (let s = h.size in omega arith) ∙ w.at j ∙ ap (λ b. b && not (eqb j i)) (h.rest i j (omega arith))))
          (λ b. edge_other r i t a j (λ e. omega arith) ∙ h.below a j b);
      rest = λ a j k. edge_other r i t a j (λ e. omega arith) ∙ h.rest a j (omega arith);
    }

pub cleared_done : {rows : List (List ℕ)} {n i : ℕ} {r : List (List ℕ)} → Cleared rows n i r → n ≤ i → Others rows n r
cleared_done h l = record { at = λ a j k. h.below a j (omega arith) }

pub ruleset clearing = (cleared_more, cleared_done)

-- Rows below i have gone through rule k.
pub record Midway (rows : List (List ℕ)) (k : ℕ) (via : List ℕ) (n i : ℕ) (r : List (List ℕ)) : Type 0 where
  pub size : length r ≡ 128
  pub room : i ≤ n
  pub below : (a j : ℕ) → a < i → edge r a j ≡ (edge rows a j || (edge rows a k && bit via j))
  pub rest : (a j : ℕ) → i ≤ a → edge r a j ≡ edge rows a j

-- The rows have the paths through rules below k.
pub record Sofar (rows : List (List ℕ)) (n k : ℕ) (r : List (List ℕ)) : Type 0 where
  pub size : length r ≡ 128
  pub room : k ≤ n
  pub at : (i j : ℕ) → i < n → edge r i j ≡ within (edge rows) k i j

pub sofar_none : {rows : List (List ℕ)} {n : ℕ} → length rows ≡ 128 → Sofar rows n 0 rows
unfolding within
sofar_none s = record { size = s; room = omega arith; at = λ i j l. refl }

pub sofar_more : {rows : List (List ℕ)} {n k : ℕ} {r s : List (List ℕ)} → Sofar rows n k r → k < n → Through r k (get_or r k []) n s
    → Sofar rows n (k + 1) s
unfolding within
sofar_more {rows} {n} {k} h l m =
    record {
      size = m.size;
      room = omega arith;
      at = λ a j b.
          m.at a j b ∙ ap₂ ◌||◌ (h.at a j b) (ap₂ ◌&&◌ (h.at a k b) (h.at k j l))
          ∙ ap (λ x. within (edge rows) x a j) (sym (add-one k));
    }

pub sofar_done : {rows : List (List ℕ)} {n k : ℕ} {r : List (List ℕ)} → Sofar rows n k r → n ≤ k → Closed rows n r
sofar_done {rows} {n} {k} h l =
    record {
      at = λ i j b. (
        λ t. within_path (edge rows) n i j (ap (λ x. within (edge rows) x i j) same ∙ sym (h.at i j b) ∙ t),
        λ p. h.at i j b ∙ ap (λ x. within (edge rows) x i j) (sym same) ∙ path_within (edge rows) n p,
      );
    }
  where
    same : n ≡ k
    same = let r = h.room in omega arith

pub ruleset closing = (sofar_more, sofar_done)
