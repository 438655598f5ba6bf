-- Whatever names and members a cycle has, it is one of a grammar: the ids of its rules are their places among them.
use Prim.Native.Nat.{ℕ, zero, suc, ◌+◌, ◌<◌, ◌≤◌}
use mathlib.Core.Path.{◌≡◌, refl, sym, ap, ◌∙◌}
use mathlib.Core.List.{List, [], ◌∷◌}
use mathlib.Core.Option.{none, some}
use mathlib.Core.Bool.{true, false}
use native.Mathlib.Omega.{arith}
use lib.ListN.{get_or}
use lib.Dec.{eqb}
use borrow.Author.Tests.{eqb-true, eqb-false, ne_eqb, lt-ltb}
use Rattle.grammar.specs.Lists.{member, first}
use Rattle.grammar.specs.Laws.Parse.{either}
use Rattle.reference.specs.Analysis.{Name, Grammar, target}
use Rattle.reach.specs.Rows.{bit}
use Rattle.analysis.specs.Names.{is_named}
use Rattle.steps.specs.Corner.{CycleBy}
use Rattle.steps.specs.declared.cycle.Cycle.{Cycle}

-- The numbers from i on, n of them.
abbrev from : ℕ → ℕ → List ℕ
from i zero = []
from i (suc n) = i ∷ from (suc i) n

from_at : (i n t : ℕ) → t < n → get_or (from i n) t 0 ≡ i + t
from_at i zero t l = absurd (omega arith)
from_at i (suc n) zero l = omega arith
from_at i (suc n) (suc t) l = let e = from_at (suc i) n t (omega arith) in omega arith

-- The first n rules by their names, and those of them that a row has.
module _ (names row : List ℕ) where
  abbrev entries : ℕ → List Name
  entries zero = []
  entries (suc n) = record { name = get_or names n 0; id = n } ∷ entries n

  abbrev those : ℕ → List ℕ
  those zero = []
  those (suc n) = elim (bit row n) [ true ↦ n ∷ those n | false ↦ those n ]

  unnamed : (n m : ℕ) → ((j : ℕ) → j < n → eqb (get_or names j 0) m ≡ false) → first (λ p. eqb p.name m) (entries n) ≡ none
  unfolding first
  unnamed zero m f = refl
  unnamed (suc n) m f = rw (first, f n (omega arith)) (unnamed n m λ j l. f j (omega arith))

  named_at : (n m t : ℕ) → t < n → ((j : ℕ) → j < n → eqb (get_or names j 0) m ≡ eqb j t)
      → first (λ p. eqb p.name m) (entries n) ≡ some (record { name = get_or names t 0; id = t })
  unfolding first
  named_at zero m t l f = absurd (omega arith)
  named_at (suc n) m t l f =
      either (eqb n t) (λ e. rw (first, f n (omega arith) ∙ e) (ap (λ i. some (record { name = get_or names i 0; id = i })) (eqb-true n t e)))
      (λ e.
      let z = eqb-false n t e in
      rw (first, f n (omega arith) ∙ e) (named_at n m t (omega arith) λ j k. f j (omega arith)))

  beyond : (n t : ℕ) → n ≤ t → member t (those n) ≡ false
  unfolding member
  beyond zero t l = refl
  beyond (suc n) t l =
      let z = beyond n t (omega arith) in
      either (bit row n) (λ e. rw (member, e, ne_eqb t n (λ i. omega arith), z) refl) (λ e. rw (member, e) z)

  inside : (n t : ℕ) → t < n → member t (those n) ≡ bit row t
  unfolding member
  inside zero t l = absurd (omega arith)
  inside (suc n) t l =
      either (eqb t n)
      (λ s.
      let i = eqb-true t n s in
      either (bit row n) (λ e. rw (member, e, s, i) (sym e)) (λ e. rw (member, e) (beyond n t (omega arith) ∙ sym (rw i e))))
      (λ s.
      let i = eqb-false t n s in
      let z = inside n t (omega arith) in
      either (bit row n) (λ e. rw (member, e, s) z) (λ e. rw (member, e) z))

-- Whether a rule has a name.
is_name : (names : List ℕ) (n m j : ℕ) → j < n → is_named names n m j ≡ eqb (get_or names j 0) m
unfolding is_named
is_name names n m j l = rw (lt-ltb j n l) refl

module _ (c : Cycle) where
  abbrev pub grammar_told : Grammar
  grammar_told = record { names = entries c.names.list.now c.members c.names.n; nullable = [] }

  pub cycle_told : c.hub < c.names.n → CycleBy grammar_told (those c.names.list.now c.members c.names.n) (from 0 c.names.n) c.names.list.now c
  unfolding target
  cycle_told h =
      record {
        unknown = λ m w.
            rw (target, unnamed c.names.list.now c.members c.names.n m λ j l. sym (is_name c.names.list.now c.names.n m j l) ∙ w.none j) refl;
        known = λ m t w.
            rw (target, named_at c.names.list.now c.members c.names.n m t w.below λ j l. sym (is_name c.names.list.now c.names.n m j l) ∙ w.only j)
            (ap some (sym (place t w.below)));
        members = λ t l. rw (place t l) (inside c.names.list.now c.members c.names.n t l);
        hub = λ t l. rw (place t l, place c.hub h) refl;
      }
    where
      place : (t : ℕ) → t < c.names.n → get_or (from 0 c.names.n) t 0 ≡ t
      place t l = let e = from_at 0 c.names.n t l in omega arith
