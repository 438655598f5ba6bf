-- What a track says of the ids it has seen: below its top, and distinct where they rose.
use Prim.Native.Nat.{ℕ, ◌+◌, ◌<◌, ◌≤◌}
use mathlib.Core.Path.{◌≡◌, refl, sym, ap, ◌∙◌}
use mathlib.Core.List.{List, [], ◌∷◌}
use mathlib.Core.Bool.{Bool, true, false, false≢true, ◌&&◌, ◌||◌, and-true, and_assoc}
use native.Mathlib.Omega.{arith}
use lib.Dec.{eqb, leb, ltb}
use borrow.Author.Tests.{le-leb, lt-leb, lt-ltb, leb-true, leb-false, ltb-true, ltb-false, eqb-true}
use Rattle.grammar.specs.Lists.{member, distinct, below}
use Rattle.ids.specs.declared.survey.Track.{Track}
use Rattle.ids.specs.Survey.{seen, tracked, fresh}

-- one id
pub see_higher : (t : Track) (id : ℕ) → t.top ≤ id → record { top = id + 1; falls = t.falls } ≡ seen t id
unfolding seen
see_higher t id h = rw (le-leb t.top id h, seen) refl

pub see_lower : (t : Track) (id : ℕ) → id < t.top → record { top = t.top; falls = true } ≡ seen t id
unfolding seen
see_lower t id h = rw (lt-leb t.top id h, seen) refl

-- an id that is seen moves the top, or shows that the ids do not rise
data See (t : Track) (x : ℕ) : Type 0 where
  higher : t.top ≤ x → seen t x ≡ record { top = x + 1; falls = t.falls } → See t x
  lower : x < t.top → seen t x ≡ record { top = t.top; falls = true } → See t x

see_case : (t : Track) (x : ℕ) → See t x
see_case t x = go (leb t.top x) refl
  where
    go : (b : Bool) → leb t.top x ≡ b → See t x
    go true e = let h = leb-true t.top x e in higher h (sym (see_higher t x h))
    go false e = let h = leb-false t.top x e in lower h (sym (see_lower t x h))

-- the top is at most a counter exactly where all ids are below it
top_step : (t : Track) (x c : ℕ) → leb (seen t x).top c ≡ (leb t.top c && ltb x c)
top_step t x c = go (see_case t x) (ltb x c) refl (leb t.top c) refl
  where
    go : See t x → (b : Bool) → ltb x c ≡ b → (d : Bool) → leb t.top c ≡ d → leb (seen t x).top c ≡ (leb t.top c && ltb x c)
    go (higher h e) true f d g =
        let z = ltb-true x c f in rw (e, f, le-leb (x + 1) c (omega arith), le-leb t.top c (omega arith)) refl
    go (higher h e) false f true g = let z = ltb-false x c f in rw (e, f, g, lt-leb (x + 1) c (omega arith)) refl
    go (higher h e) false f false g = let z = ltb-false x c f in rw (e, f, g, lt-leb (x + 1) c (omega arith)) refl
    go (lower h e) b f true g = let z = leb-true t.top c g in rw (e, g, lt-ltb x c (omega arith)) refl
    go (lower h e) b f false g = rw (e, g) refl

top_under : (t : Track) (xs : List ℕ) (c : ℕ) → leb (tracked t xs).top c ≡ (leb t.top c && below c xs)
unfolding below
top_under t [] c = sym (and-true (leb t.top c))
top_under t (x ∷ xs) c =
    top_under (seen t x) xs c ∙ ap (λ b. b && below c xs) (top_step t x c) ∙ and_assoc (leb t.top c) (ltb x c) (below c xs)

pub fresh_under : (xs : List ℕ) (c : ℕ) → leb (tracked fresh xs).top c ≡ below c xs
fresh_under xs c = top_under fresh xs c ∙ ap (λ b. b && below c xs) (le-leb 0 c (omega arith))

-- ids that rise are distinct
pub record Risen (t : Track) (xs : List ℕ) : Type 0 where
  pub apart : distinct xs ≡ true
  pub from : (y : ℕ) → member y xs ≡ true → t.top ≤ y
  pub rose : t.falls ≡ false

pub risen : (t : Track) (xs : List ℕ) → (tracked t xs).falls ≡ false → Risen t xs
unfolding distinct member
risen t [] e = record { apart = refl; from = λ y m. absurd (false≢true m); rose = e }
risen t (x ∷ xs) e = go (see_case t x) (risen (seen t x) xs e)
  where
    go : See t x → Risen (seen t x) xs → Risen t (x ∷ xs)
    go (lower h f) r = absurd (false≢true (sym r.rose ∙ ap (λ u. u.falls) f))
    go (higher h f) r =
        record { apart = rw fresh_here r.apart; from = λ y m. least y (eqb y x) refl m; rose = sym (ap (λ u. u.falls) f) ∙ r.rose }
      where
        above : (y : ℕ) → member y xs ≡ true → x + 1 ≤ y
        above y m = let z = r.from y m in let u = ap (λ u. u.top) f in omega arith

        fresh_here : member x xs ≡ false
        fresh_here = by (member x xs) refl
          where
            by : (b : Bool) → member x xs ≡ b → b ≡ false
            by true m = absurd (let z = above x m in omega arith)
            by false m = refl

        least : (y : ℕ) (b : Bool) → eqb y x ≡ b → (eqb y x || member y xs) ≡ true → t.top ≤ y
        least y true g m = let z = eqb-true y x g in omega arith
        least y false g m = let z = above y (rw g at m) in omega arith
