-- Cycles that are written as rows, one after the other, until none is left.
use Prim.Native.Nat.{ℕ, suc, ◌+◌, ◌≤◌, ◌<◌}
use mathlib.Core.Path.{◌≡◌, refl, sym, ap, ◌∙◌, subst}
use mathlib.Core.List.{List, [], ◌∷◌, ◌++◌}
use mathlib.Core.Bool.{Bool, true, false}
use native.Mathlib.Omega.{arith}
use lib.ListN.{length, get_or, set, length-set, length-append, length-map}
use lib.Seq.{get_or-append_seam, get_or-set_same, get_or-set_other}
use lib.Dec.{eqb, leb}
use borrow.Author.Tests.{eqb-true, eqb-false}
use Rattle.grammar.specs.Numbers.{rule_limit}
use Rattle.grammar.specs.Tree.{Block, RuleOf}
use Rattle.grammar.specs.Lists.{push, insert, sorted}
use Rattle.grammar.specs.Corners.{Corners}
use Rattle.grammar.specs.Laws.Parse.{either}
use Rattle.reference.specs.Analysis.{Grammar, Row, ids_of, row_of, reach, component, is_cycle, cycles_from, left_corner_cycles}
use Rattle.reach.specs.Rows.{RowOf, Behind}
use Rattle.reach.specs.Reach.{Loops}
use Rattle.reach.specs.Listed.{corner_rows, Numbered, Ids, Left, AllLeft, Taken, AheadOf, CycleRows, CyclesIn}
use Rattle.reach.specs.declared.cycles.Ahead.{Ahead}
use Rattle.std.specs.Prelude.{Option, Some, None}

-- There are no more cycles than rules.
insert_length : (x : ℕ) (ys : List ℕ) → length (insert x ys) ≡ suc (length ys)
unfolding insert
insert_length x [] = refl
insert_length x (y ∷ ys) = either (leb x y) (λ t. rw (t, insert)) (λ f. rw (f, insert) (ap suc (insert_length x ys)))

sorted_length : (xs : List ℕ) → length (sorted xs) ≡ length xs
unfolding sorted
sorted_length [] = refl
sorted_length (x ∷ xs) = insert_length x (sorted xs) ∙ ap suc (sorted_length xs)

push_few : {A : Type 0} (b : Bool) (x : A) (xs : List A) → length (push b x xs) ≤ suc (length xs)
push_few true x xs = omega arith
push_few false x xs = omega arith

cycles_few : (rows : List Row) (is : List ℕ) → length (cycles_from rows is) ≤ length is
unfolding cycles_from
cycles_few rows [] = omega arith
cycles_few rows (i ∷ is) =
    let one = push_few (is_cycle i (component rows i)) (component rows i) (cycles_from rows is) in
    let others = cycles_few rows is in
    omega arith

pub corners_few : (c : Corners) (g : Grammar) (d : ℕ) (rs : List (RuleOf (Block d))) {n : ℕ} → Numbered (corner_rows c g d rs) n
    → length (left_corner_cycles c g d rs) ≤ n
unfolding left_corner_cycles
corners_few c g d rs k =
    let few = cycles_few (reach (corner_rows c g d rs)) (sorted (ids_of rs)) in
    let same = sorted_length (ids_of rs) in
    let ids = length-map rs (λ r. r.id) in
    let rules = length-map rs (row_of c g d) in
    omega arith

-- A list has one item at a place.
one_at : {A : Type 0} (front given : List A) {x y : A} (xs ys : List A) → front ++ (x ∷ xs) ≡ given ++ (y ∷ ys)
    → length front ≡ length given → x ≡ y
one_at front given {x} {y} xs ys e l = cc (get_or-append_seam front x xs x, get_or-append_seam given y ys x)

-- The first k of all cycles are written; `left` has the others.
pub record Part (rows : List Row) (ids : List ℕ) (n : ℕ) (all closed : List (List ℕ)) (left : List ℕ) (written : List (List ℕ)) (k : ℕ)
    : Type 0 where
  pub rest : List (List ℕ)
  pub others : Left rows n all closed left rest
  pub count : k + length rest ≡ length all
  pub at : (front : List (List ℕ)) (x : List ℕ) (behind : List (List ℕ)) → front ++ (x ∷ behind) ≡ all → length front < k
      → RowOf ids n x (get_or written (length front) [])

module _ {rows : List Row} {ids : List ℕ} {n : ℕ} {all closed : List (List ℕ)} {left : List ℕ} {written : List (List ℕ)} {k : ℕ}
    (p : Part rows ids n all closed left written k) where
  -- The next one, in the row behind the last.
  part_more : {row less : List ℕ} → Taken rows ids n all closed p.rest row less → k < length written
      → Part rows ids n all closed less (set written k row) (k + 1)
  part_more {row} {less} t l =
      record {
        rest = t.rest;
        others = t.behind;
        count = let e = ap length t.first in omega arith;
        at = λ front x behind e b. either (eqb (length front) k) (λ y. here front behind e (eqb-true (length front) k y))
            (λ y. there front behind e b (eqb-false (length front) k y));
      }
    where
      here : (front : List (List ℕ)) {x : List ℕ} (behind : List (List ℕ)) → front ++ (x ∷ behind) ≡ all → length front ≡ k
          → RowOf ids n x (get_or (set written k row) (length front) [])
      here front {x} behind e z =
          let parts : front ++ (x ∷ behind) ≡ p.others.given ++ (t.cycle ∷ t.rest) =
          e ∙ sym p.others.order ∙ ap (λ cs. p.others.given ++ cs) t.first in
          let size = ap length p.others.order in
          let sum = length-append p.others.given p.rest in
          let same = one_at front p.others.given behind t.rest parts (omega arith) in
          rw (z, get_or-set_same written k row [] l, same) t.members

      there : (front : List (List ℕ)) {x : List ℕ} (behind : List (List ℕ)) → front ++ (x ∷ behind) ≡ all → length front < k + 1
          → (length front ≡ k → ⊥) → RowOf ids n x (get_or (set written k row) (length front) [])
      there front {x} behind e b z =
          rw (get_or-set_other written k (length front) row [] z) (p.at front x behind e (omega arith))

  -- All are written.
  part_all : length all ≤ k → CycleRows ids n all written k
  part_all l =
      record {
        count = omega arith;
        at = λ front x behind e.
            let size = ap length e in
            let sum = length-append front (x ∷ behind) in
            p.at front x behind e (omega arith);
      }

-- So it is for all rules whose cycles are those that were left at the start.
pub record Writing (ids : List ℕ) (n : ℕ) (closed : List (List ℕ)) (left₀ : List ℕ) (before after : List (List ℕ)) (left : List ℕ) (k : ℕ)
    : Type 0 where
  pub low : k ≤ n
  pub behind : Behind k before after
  pub is : (rows : List Row) (all : List (List ℕ)) → Ids rows n ids → Left rows n all closed left₀ all
      → Part rows ids n all closed left after k

pub write_none : {ids left : List ℕ} {n : ℕ} {closed before : List (List ℕ)} → length before ≡ rule_limit
    → Writing ids n closed left before before left 0
write_none e =
    record {
      low = omega arith;
      behind = record { same = λ i l. refl; long = e };
      is = λ rows all d h. record { rest = all; others = h; count = omega arith; at = λ front x behind e l. absurd (omega arith) };
    }

module _ {ids left₀ left : List ℕ} {n k : ℕ} {closed before after : List (List ℕ)}
    (w : Writing ids n closed left₀ before after left k) where
  pub write_more : {r : Option Ahead} {a : Ahead} → AheadOf closed ids n left r → r ≡ Some a → k < n → n ≤ rule_limit
      → Writing ids n closed left₀ before (set after k a.members) a.left (k + 1)
  write_more {r} {a} f y l few =
      let row = a.members in
      record {
        low = omega arith;
        behind = record {
          same = λ j b. get_or-set_other after k j row [] (λ e. omega arith) ∙ w.behind.same j (omega arith);
          long = length-set after k row ∙ w.behind.long;
        };
        is = λ rows all d h.
            let p = w.is rows all d h in
            part_more p (rw y at (f.takes rows all p.rest d p.others)) (let z = w.behind.long in omega arith);
      }

  module _ {corners : List (List ℕ)} (j : AllLeft corners n closed) (u : Loops closed n left₀) where
    -- Where the first finds none, or as many are written as there are rules, these are all.
    pub write_done : {r : Option Ahead} → AheadOf closed ids n left r → r ≡ None → CyclesIn corners ids n before after k
    write_done f y =
        record {
          low = w.low;
          behind = w.behind;
          is = λ c g d rs e i.
              let rows = corner_rows c g d rs in
              let all = left_corner_cycles c g d rs in
              let p = w.is rows all i (j.left c g d rs e left₀ u) in
              let none : p.rest ≡ [] = rw y at (f.takes rows all p.rest i p.others) in
              let size = ap length none in
              part_all p (omega arith);
        }

    pub write_full : n ≤ k → CyclesIn corners ids n before after n
    write_full l = subst (CyclesIn corners ids n before after) same record {
      low = w.low;
      behind = w.behind;
      is = λ c g d rs e i.
          let few = corners_few c g d rs i.numbered in
          part_all (w.is (corner_rows c g d rs) (left_corner_cycles c g d rs) i (j.left c g d rs e left₀ u)) (omega arith);
    }
      where
        same : k ≡ n
        same = let low = w.low in omega arith

pub ruleset writing = (write_none, write_more, write_done, write_full)
