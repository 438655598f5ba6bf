-- The table of names: what one store more puts in it, and what a byte of it tells.
use Prim.Native.Nat.{ℕ, ◌+◌, ◌<◌, ◌≤◌, ◌%◌}
use mathlib.Core.Path.{◌≡◌, refl, sym, ap, ◌∙◌}
use mathlib.Core.List.{List}
use mathlib.Core.Bool.{true, false}
use native.Mathlib.Omega.{arith}
use native.Mathlib.Numerals.{add-one}
use lib.ListN.{length, get_or, set, take, length-set}
use Rattle.std.proofs.Common.{get_or-take, length-take-le}
use lib.Dec.{eqb, ltb}
use borrow.Author.Tests.{eqb-true, eqb-false, ltb-true, ltb-false, lt-ltb, eq-eqb}
use Rattle.grammar.specs.Laws.Parse.{either}
use Rattle.analysis.specs.Names.{is_named, slots, table_with, Told, Tabled, At, IsTarget}
use Rattle.std.specs.Prelude.{Option, Some, None, MatchOption, EachIndex, slice_index, ◌≢◌}
use Rattle.std.specs.Cmp.{first_so, second_so}

-- The first i names are in the table.
pub record Putting (names : List ℕ) (n : ℕ) (before table : List ℕ) (i : ℕ) : Type 0 where
  pub within : i ≤ n
  pub long : length table ≡ length before
  pub is : table ≡ table_with names i before
  pub room : slots ≤ length table

pub put_none : {names : List ℕ} {n : ℕ} (table : List ℕ) → Told names n → slots ≤ length table → Putting names n table table 0
unfolding table_with
put_none table t r = record { within = omega arith; long = refl; is = refl; room = r }

module _ {names : List ℕ} {n : ℕ} {before table : List ℕ} {i : ℕ} (p : Putting names n before table i) where
  put_more : i < n → Putting names n before (set table (get_or names i 0 % slots) i) (i + 1)
  unfolding table_with
  put_more l =
      record {
        within = omega arith;
        long = length-set table (get_or names i 0 % slots) i ∙ p.long;
        is = rw (add-one i) (ap (λ x. set x (get_or names i 0 % slots) i) p.is);
        room = rw (length-set table (get_or names i 0 % slots) i) p.room;
      }

  pub put_room : i < n → {m : ℕ} → m < slots → m < length table
  put_room l e = let r = p.room in omega arith

  pub put_next : i < n → {w m : ℕ} → w ≡ get_or names i 0 → m ≡ w % slots → Putting names n before (set table m i) (i + 1)
  put_next l e f = rw (f, e) (put_more l)

  pub put_all : n ≤ i → table ≡ table_with names n before
  put_all l = let e : i ≡ n = let w = p.within in omega arith in rw (← e) p.is

  pub put_tabled : Told names n → n ≤ i → Tabled names n table
  put_tabled t l = record { told = t; room = λ h. p.room }

pub ruleset puts = (put_none, put_room, put_next, put_all, put_tabled)

-- A rule that has a name is below n, and the name stands there.
module _ (names : List ℕ) (n m j : ℕ) where
  named_is : is_named names n m j ≡ true → (j < n) × (get_or names j 0 ≡ m)
  unfolding is_named
  named_is e =
      (ltb-true j n (first_so (ltb j n) _ e), eqb-true (get_or names j 0) m (second_so (ltb j n) (eqb (get_or names j 0) m) e))

  is_named_lem : j < n → get_or names j 0 ≡ m → is_named names n m j ≡ true
  unfolding is_named
  is_named_lem l e = rw (lt-ltb j n l, eq-eqb (get_or names j 0) m e) refl

module _ {names : List ℕ} {n m : ℕ} where
  -- Only rule i can have the name.
  module _ {i : ℕ} (there : (j : ℕ) → j < n → get_or names j 0 ≡ m → j ≡ i) where
    found_at : i < n → get_or names i 0 ≡ m → At names n m i
    found_at l e = record { below = l; only = λ j. either (eqb j i) (same j) (other j) }
      where
        same : (j : ℕ) → eqb j i ≡ true → is_named names n m j ≡ eqb j i
        same j x = let y = eqb-true j i x in rw y (is_named_lem names n m i l e ∙ sym (eq-eqb i i refl))

        other : (j : ℕ) → eqb j i ≡ false → is_named names n m j ≡ eqb j i
        other j x =
            either (is_named names n m j)
            (λ y. let z = named_is names n m j y in absurd (eqb-false j i x (there j z.0 z.1)))
            (λ y. y ∙ sym x)

    target_at : i < n → get_or names i 0 ≡ m → IsTarget names n m (Some i)
    target_at l e =
        record {
          rule = λ j f. let g : i ≡ j = cc in rw (← g) (found_at l e);
          unknown = λ f. absurd (let z : ◌≡◌ {A = ℕ} 0 1 = cc in omega arith);
        }

  target_none : ((j : ℕ) → j < n → get_or names j 0 ≡ m → ⊥) → IsTarget names n m None
  target_none never =
      record {
        rule = λ j f. absurd (let z : ◌≡◌ {A = ℕ} 0 1 = cc in omega arith);
        unknown = λ f.
            record {
              none = λ j. either (is_named names n m j) (λ y. let z = named_is names n m j y in absurd (never j z.0 z.1)) (λ y. y);
            };
      }

-- A rule that has the name is the only one.
only_target : {names : List ℕ} {n : ℕ} → Told names n → {m i : ℕ} → i < n → get_or names i 0 ≡ m → IsTarget names n m (Some i)
only_target t {m} {i} l e =
    target_at
    (λ j k f.
    either (ltb j i) (λ x. absurd (t.apart j i (ltb-true j i x) l (f ∙ sym e)))
    (λ x.
    either (eqb j i) (eqb-true j i) (λ y.
    absurd (let a = ltb-false j i x in let b = eqb-false j i y in t.apart i j (omega arith) k (e ∙ sym f)))))
    l e

pub target_found : {names : List ℕ} {n : ℕ} {table : List ℕ} → Tabled names n table → {m i : ℕ} → i < n → get_or names i 0 ≡ m
    → IsTarget names n m (Some i)
target_found t l e = only_target t.told l e

pub table_room : {names : List ℕ} {n : ℕ} {table : List ℕ} → Tabled names n table → (length table ≡ 0 → ⊥) → {m : ℕ} → m < slots
    → m < length table
table_room t h l = let r = t.room h in omega arith

pub names_room : {names : List ℕ} {n : ℕ} {table : List ℕ} → Tabled names n table → {i : ℕ} → i < n → i < length names
names_room t l = let f = t.told.few in omega arith

pub ruleset lookups = (target_found, table_room, names_room)

-- What looking through the names finds: the place of the first that is the name, or that there is none.
pub scanned : {names : List ℕ} {n : ℕ} → Told names n → {m : ℕ} (r : Option ℕ)
    → MatchOption r (EachIndex (take n names) (λ k. slice_index (take n names) k ≢ m))
    (λ i. (i < length (take n names)) × (slice_index (take n names) i ≡ m))
    → IsTarget names n m r
scanned {names} {n} t {m} None h = target_none {names = names} {n = n} {m = m}
    λ j k e. h j (rw (length-take-le n names t.few) k) (get_or-take n names j 0 k ∙ e)
scanned {names} {n} t {m} (Some i) h =
    let few = t.few in
    let long : length (take n names) ≡ n = length-take-le n names t.few in
    let low : i < n = omega (arith, h.0) in
    only_target t low (sym (get_or-take n names i 0 low) ∙ h.1)
