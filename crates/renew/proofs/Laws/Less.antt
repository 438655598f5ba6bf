-- Places before and after one is taken out, and rows without a place, one after the other.
use Prim.Native.Nat.{ℕ, zero, suc, ◌+◌, ◌-◌, ◌<◌, ◌≤◌}
use mathlib.Core.Path.{◌≡◌, refl, sym, ap, ◌∙◌}
use mathlib.Core.List.{List, [], ◌∷◌, ◌++◌}
use native.Mathlib.Omega.{arith}
use lib.ListN.{length, get_or, set, length-set}
use lib.Seq.{get_or-set_same, get_or-set_other}
use lib.Dec.{eqb}
use borrow.Author.Tests.{eqb-true, eqb-false, lt-ltb, le-ltb}
use Rattle.grammar.specs.Numbers.{rule_limit}
use Rattle.grammar.specs.Laws.Parse.{either}
use Rattle.reach.proofs.Laws.Rows.{two_words}
use Rattle.renew.specs.Less.{before, after, Less, RowsLess}
use Rattle.renew.proofs.Laws.Words.{before_low, before_high, sides}

pub is_before_low : {k j : ℕ} → j < k → j ≡ before k j
is_before_low l = sym (before_low l)

pub is_before_high : {k j : ℕ} → k ≤ j → j + 1 ≡ before k j
is_before_high {k} {j} l = let e : j + 1 ≡ suc j = omega arith in e ∙ sym (before_high l)

pub after_low : {k i : ℕ} → i ≤ k → i ≡ after k i
unfolding after
after_low {k} {i} l = rw (le-ltb k i l, after) refl

pub after_high : {k i : ℕ} → k < i → i - 1 ≡ after k i
unfolding after
after_high {k} {i} l = rw (lt-ltb k i l, after) refl

pub ruleset befores = (is_before_low, is_before_high)

pub ruleset afters = (after_low, after_high)

-- A place before is not below the place after, and at most one above it.
pub before_from : (k j : ℕ) → j ≤ before k j
before_from k j = sides j k (λ l. rw (before_low l) (omega arith)) (λ l. rw (before_high l) (omega arith))

pub before_next : (k j : ℕ) → before k j ≤ suc j
before_next k j = sides j k (λ l. rw (before_low l) (omega arith)) (λ l. rw (before_high l) (omega arith))

-- There and back.
pub before_after : {k i : ℕ} → (i ≡ k → ⊥) → before k (after k i) ≡ i
before_after {k} {i} d =
    sides k i
    (λ l. let e = after_high l in rw (← e) (before_high (omega arith) ∙ (let z : suc (i - 1) ≡ i = omega arith in z)))
    (λ l. let e = after_low l in rw (← e) (before_low (omega arith)))

pub after_inside : {k i n : ℕ} → (i ≡ k → ⊥) → i < suc n → k < suc n → after k i < n
after_inside {k} {i} {n} d l m =
    sides k i (λ h. let e = after_high h in rw (← e) (omega arith)) (λ h. let e = after_low h in rw (← e) (omega arith))

-- A list without the item at a place.
pub list_less : {B : Type 0} (front : List B) (b : B) (more : List B) (d : B) (j : ℕ)
    → get_or (front ++ (b ∷ more)) (before (length front) j) d ≡ get_or (front ++ more) j d
list_less [] b more d j = ap (λ i. get_or (b ∷ more) i d) (before_high (omega arith))
list_less (x ∷ front) b more d zero = ap (λ i. get_or (x ∷ (front ++ (b ∷ more))) i d) (before_low (omega arith))
list_less (x ∷ front) b more d (suc j) =
    ap (λ i. get_or (x ∷ (front ++ (b ∷ more))) i d) (next (length front) j) ∙ list_less front b more d j
  where
    next : (k j : ℕ) → before (suc k) (suc j) ≡ suc (before k j)
    next k j =
        sides j k (λ l. before_low (omega arith) ∙ ap suc (sym (before_low l))) (λ l. before_high (omega arith) ∙ ap suc (sym (before_high l)))

pub less_row : {row r : List ℕ} {k : ℕ} → Less (get_or row 0 0 ∷ get_or row 1 0 ∷ []) k r → Less row k r
less_row {row} {r} {k} l = record { at = λ j. l.at j ∙ two_words row (before k j) }

-- The rows below i are without place k, those from i on as they were.
pub record Lessening (k : ℕ) (rows₀ : List (List ℕ)) (i : ℕ) (rows : List (List ℕ)) : Type 0 where
  pub done : (j : ℕ) → j < i → Less (get_or rows₀ (before k j) []) k (get_or rows j [])
  pub same : (j : ℕ) → i ≤ j → get_or rows j [] ≡ get_or rows₀ j []
  pub long : length rows ≡ rule_limit

pub lessen_none : (k : ℕ) {rows : List (List ℕ)} → length rows ≡ rule_limit → Lessening k rows 0 rows
lessen_none k e = record { done = λ j l. absurd (omega arith); same = λ j l. refl; long = e }

module _ {k : ℕ} {rows₀ : List (List ℕ)} {i : ℕ} {rows : List (List ℕ)} (x : Lessening k rows₀ i rows) where
  pub lessen_more : {from : ℕ} {r : List ℕ} → from ≡ before k i → Less (get_or rows from []) k r → i < rule_limit
      → Lessening k rows₀ (i + 1) (set rows i r)
  lessen_more {from} {r} e l h =
      record {
        done = λ j m. either (eqb j i) (λ t. here (eqb-true j i t)) (λ t. there j m (eqb-false j i t));
        same = λ j m. get_or-set_other rows i j r [] (λ z. omega arith) ∙ x.same j (omega arith);
        long = length-set rows i r ∙ x.long;
      }
    where
      here : {j : ℕ} → j ≡ i → Less (get_or rows₀ (before k j) []) k (get_or (set rows i r) j [])
      here z =
          rw (z, get_or-set_same rows i r [] (let w = x.long in omega arith), ← x.same (before k i) (before_from k i), ← e) l

      there : (j : ℕ) → j < i + 1 → (j ≡ i → ⊥) → Less (get_or rows₀ (before k j) []) k (get_or (set rows i r) j [])
      there j m n = rw (get_or-set_other rows i j r [] n) (x.done j (omega arith))

  pub lessen_all : {n : ℕ} → n - 1 ≤ i → RowsLess n k rows₀ rows
  lessen_all l = record { at = λ j m. x.done j (omega arith); long = x.long }

pub ruleset lessening = (lessen_none, lessen_more, lessen_all)
