-- Room in the list: for what was just taken off, and for what a step puts in its place (refusal 7).
use Rattle.std.specs.Prelude.{ℕ, ◌+◌, ◌≡◌, List, ◌++◌, true, length, leb}
use native.Mathlib.Omega.{arith}
use Rattle.std.proofs.Common.{length-append}
use Rattle.std.proofs.lemmas.Bool.{and_from}
use Rattle.std.specs.Cmp.{first_so, second_so}
use borrow.Author.Tests.{leb-true, le-leb}
use Rattle.reference.specs.Numbers.{most_alternatives, most_elements, most_options}
use Rattle.reference.specs.Substitute.{Planned, standard, is_within}
use Rattle.planned.specs.Layout.{settled, stack}
use Rattle.planned.specs.List.{alternatives_in, elements_in, options_in, Laid, HasRoom, Movable, InHand}
use Rattle.planned.specs.Moves.{Took}
use Rattle.planned.specs.Laws.Counts.{elements_all, options_all, elements_all_lem, options_all_lem, alternatives_in_lem, elements_in_lem}
use Rattle.planned.specs.Laws.Counts.{options_in_lem}
use Rattle.planned.specs.declared.list.Sizes.{Sizes}
use Rattle.planned.specs.declared.list.Listed.{Listed}

-- What was on the stack has room behind what is settled.
pub took_room : {bs : List ℕ} {l rest : Sizes} {x : Listed} → Laid bs l → Took bs l x rest → HasRoom rest 1 x.ne x.no
took_room g t =
    let f = t.fewer in
    let a = f.alternatives in
    let e = f.elements in
    let o = f.options in
    record { alternatives = omega arith; elements = omega arith; options = omega arith }

-- What is in hand may be settled, where there is room.
pub hand_movable : {bs : List ℕ} {l : Sizes} {h : Listed} → Laid bs l → InHand h → HasRoom l 1 h.ne h.no → Movable l h
hand_movable g i r =
    record { elements = omega arith; options = omega arith; few_elements = omega arith; few_options = omega arith }

-- There is room for several alternatives in front of the stack just where the list with them is within the limits.
module _ (ws : List ℕ) (end d : ℕ) (bs : List ℕ) (l : Sizes) (laid : Laid bs l) (ps : List (Planned d)) where
  abbrev all : List (Planned d)
  all = settled ws end d bs l ++ (ps ++ stack ws end d bs l)

  count_all : length all ≡ alternatives_in l + length ps
  count_all =
      let s = settled ws end d bs l in
      let t = stack ws end d bs l in
      let u = length-append s (ps ++ t) in
      let v = length-append ps t in
      let w = alternatives_in_lem ws end d bs l laid in
      omega arith

  elements_of_all : elements_all all ≡ elements_in l + elements_all ps
  elements_of_all =
      let s = settled ws end d bs l in
      let t = stack ws end d bs l in
      let u = elements_all_lem s (ps ++ t) in
      let v = elements_all_lem ps t in
      let w = elements_in_lem ws end d bs l laid in
      omega arith

  options_of_all : options_all all ≡ options_in l + options_all ps
  options_of_all =
      let s = settled ws end d bs l in
      let t = stack ws end d bs l in
      let u = options_all_lem s (ps ++ t) in
      let v = options_all_lem ps t in
      let w = options_in_lem ws end d bs l laid in
      omega arith

  pub room_within : HasRoom l (length ps) (elements_all ps) (options_all ps) → is_within d standard all ≡ true
  unfolding is_within
  room_within r =
      let a = count_all in
      let e = elements_of_all in
      let o = options_of_all in
      and_from _ _ (le-leb (length all) most_alternatives (omega arith))
      (and_from _ _ (le-leb (elements_all all) most_elements (omega arith)) (le-leb (options_all all) most_options (omega arith)))

  pub within_room : is_within d standard all ≡ true → HasRoom l (length ps) (elements_all ps) (options_all ps)
  unfolding is_within
  within_room t =
      let a = count_all in
      let e = elements_of_all in
      let o = options_of_all in
      let u = leb-true (length all) most_alternatives (first_so (leb (length all) most_alternatives) _ t) in
      let v = second_so (leb (length all) most_alternatives) _ t in
      let w = leb-true (elements_all all) most_elements (first_so (leb (elements_all all) most_elements) _ v) in
      let z = leb-true (options_all all) most_options (second_so (leb (elements_all all) most_elements) _ v) in
      record { alternatives = omega arith; elements = omega arith; options = omega arith }
