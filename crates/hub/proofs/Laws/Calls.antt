-- Calls of several rules in one row: one rule more.
use Prim.Native.Nat.{ℕ, ◌+◌, ◌≤◌}
use mathlib.Core.Path.{◌≡◌, refl, sym, ap, ◌∙◌}
use mathlib.Core.List.{List, []}
use mathlib.Core.Bool.{Bool, true, false, ◌&&◌, ◌||◌, not, or_assoc}
use native.Mathlib.Omega.{arith}
use native.Mathlib.Numerals.{add-one}
use lib.ListN.{get_or}
use Rattle.reach.specs.Rows.{bit, edge, Union}
use Rattle.analysis.specs.Names.{any_below}
use Rattle.hub.specs.Calls.{CallsAdded, CallsFrom}

module _ {row out : List ℕ} {i : ℕ} {calls : List ℕ} {b : Bool} (e : b ≡ bit out i) where
  pub calls_out : b ≡ true → CallsAdded row out i calls row
  calls_out f = record { at = λ j. rw (sym e ∙ f) refl }

  pub calls_in : {r : List ℕ} → b ≡ false → Union calls row r → CallsAdded row out i calls r
  calls_in f u = record { at = λ j. rw (sym e ∙ f) (u.at j) }

module _ {calls : List (List ℕ)} {out from : List ℕ} where
  pub from_none : CallsFrom calls out from 0 from
  unfolding any_below
  from_none = record { at = λ j. refl }

  pub from_more : {i : ℕ} {r t : List ℕ} → CallsFrom calls out from i r → CallsAdded r out i (get_or calls i []) t
      → CallsFrom calls out from (i + 1) t
  unfolding any_below
  from_more {i} {r} {t} f a =
      record {
        at = λ j.
            a.at j
            ∙ ap (λ x. (not (bit out i) && edge calls i j) || x) (f.at j)
            ∙ rw (add-one i)
            (sym (or_assoc (not (bit out i) && edge calls i j) (any_below (λ i. not (bit out i) && edge calls i j) i) (bit from j)));
      }

  pub from_all : {i n : ℕ} {r : List ℕ} → CallsFrom calls out from i r → i ≤ n → n ≤ i → CallsFrom calls out from n r
  from_all {i} {n} f l k = let z : i ≡ n = omega arith in rw (← z) f

pub ruleset calling = (calls_out, calls_in, from_none, from_more, from_all)
