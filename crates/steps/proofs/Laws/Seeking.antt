-- The search for the corner of an alternative that is listed, element by element.
use Prim.Native.Nat.{ℕ, zero, suc, ◌+◌, ◌<◌, ◌≤◌}
use mathlib.Core.Path.{◌≡◌, refl, ap, ◌∙◌}
use mathlib.Core.List.{List}
use native.Mathlib.Omega.{arith}
use native.Mathlib.Numerals.{add-one}
use mathlib.Core.Bool.{Bool}
use lib.ListN.{get_or, drop}
use Rattle.grammar.specs.Tree.{Element, Block}
use Rattle.grammar.specs.Found.{FoundElement}
use Rattle.reference.specs.Analysis.{Grammar}
use Rattle.reference.specs.Substitute.{PlannedCorner, optional, satellite, blocked, settled, further, planned_corner}
use Rattle.planned.specs.Layout.{meaning}
use Rattle.planned.specs.List.{ListedIn}
use Rattle.planned.specs.Reading.{ItemIs}
use Rattle.planned.specs.Laws.Parts.{no_steps_left}
use Rattle.planned.specs.declared.list.Listed.{Listed}
use Rattle.std.specs.Prelude.{Option, None, Some}
use Rattle.steps.specs.Corner.{CycleBy, corner_by, CornerIn, met_corner_by, met_corner, MetIn, ItemMet, CornerAt}
use Rattle.steps.specs.declared.cycle.Cycle.{Cycle}
use Rattle.steps.specs.declared.corner.Corner.{Corner}
use Rattle.steps.specs.declared.corner.Corner.TheVariants.{Settled, Blocked, Optional, Satellite}

-- A corner with i silent elements more in front.
unfoldable pub shifted : ℕ → PlannedCorner → PlannedCorner
shifted zero k = k
shifted (suc i) k = shifted i (further k)

shift_settled : (i : ℕ) → shifted i settled ≡ settled
unfolding shifted further
shift_settled zero = refl
shift_settled (suc i) = shift_settled i

shift_blocked : (i : ℕ) → shifted i blocked ≡ blocked
unfolding shifted further
shift_blocked zero = refl
shift_blocked (suc i) = shift_blocked i

shift_optional : (i j t : ℕ) → shifted i (optional j t) ≡ optional (i + j) t
unfolding shifted further
shift_optional zero j t = ap (λ k. optional k t) (omega arith)
shift_optional (suc i) j t = shift_optional i (suc j) t ∙ ap (λ k. optional k t) (omega arith)

shift_satellite : (i j t : ℕ) → shifted i (satellite j t) ≡ satellite (i + j) t
unfolding shifted further
shift_satellite zero j t = ap (λ k. satellite k t) (omega arith)
shift_satellite (suc i) j t = shift_satellite i (suc j) t ∙ ap (λ k. satellite k t) (omega arith)

-- What is met at an element behind i silent ones.
shift_met : (c : Cycle) (ids : List ℕ) (i : ℕ) (r : Corner) → MetIn c i r → shifted i (met_corner_by ids r) ≡ corner_by ids r
shift_met c ids i Settled m = shift_settled i
shift_met c ids i Blocked m = shift_blocked i
shift_met c ids i (Optional p) m =
    let e = m.0 in
    shift_optional i 0 (get_or ids p.target 0) ∙ ap (λ k. optional k (get_or ids p.target 0)) (omega arith)
shift_met c ids i (Satellite p) m =
    let e = m.0 in
    shift_satellite i 0 (get_or ids p.target 0) ∙ ap (λ k. satellite k (get_or ids p.target 0)) (omega arith)

-- It is in range.
met_within : (c : Cycle) {n i : ℕ} (r : Corner) → i < n → MetIn c i r → CornerIn c n r
met_within c Settled l m = tt
met_within c Blocked l m = tt
met_within c (Optional p) l m = record { index = let e = m.0 in omega arith; rule = m.1; member = m.2 }
met_within c (Satellite p) l m = (record { index = let e = m.0 in omega arith; rule = m.1; member = m.2 }, m.3)

module _ (names : List ℕ) (c : Cycle) (ws : List ℕ) (end d : ℕ) (bs : List ℕ) (x : Listed) where
  abbrev es : List (Element (Block d))
  es = (meaning ws end d bs x).elements

  -- The elements in front of i are silent.
  pub record Seeking (i : ℕ) : Type 0 where
    pub is : (g : Grammar) (cycle ids : List ℕ) → CycleBy g cycle ids names c
        → planned_corner g cycle (get_or ids c.hub 0) es ≡ shifted i (planned_corner g cycle (get_or ids c.hub 0) (drop i es))
    pub within : i ≤ x.ne

  pub seek_none : Seeking 0
  unfolding shifted
  seek_none = record { is = λ g cycle ids b. refl; within = omega arith }

module _ {names : List ℕ} {c : Cycle} {ws : List ℕ} {end d : ℕ} {bs : List ℕ} {x : Listed} {i : ℕ}
    (s : Seeking names c ws end d bs x i) where
  pub seek_end : x.ne ≤ i → CornerAt names c ws end d bs x Settled
  unfolding planned_corner
  seek_end h =
      record {
        is = λ g cycle ids b.
            s.is g cycle ids b
            ∙ ap (λ zs. shifted i (planned_corner g cycle (get_or ids c.hub 0) zs))
            (no_steps_left ws end d bs x i h)
            ∙ shift_settled i;
        within = tt;
      }

  module _ {at : ℕ} {made : Bool} (l : i < x.ne) (f : ListedIn ws end d bs x) (t : ItemIs bs x i at made) where
    -- What is met at the element decides.
    met : {m : Option Corner} → ItemMet names c ws end d i at made m → (g : Grammar) (cycle ids : List ℕ) → CycleBy g cycle ids names c
        → planned_corner g cycle (get_or ids c.hub 0) (es names c ws end d bs x)
        ≡ shifted i (met_corner ids m (planned_corner g cycle (get_or ids c.hub 0) (drop (i + 1) (es names c ws end d bs x))))
    met m g cycle ids b =
        let u = t.is ws end d f in
        s.is g cycle ids b
        ∙ ap (λ zs. shifted i (planned_corner g cycle (get_or ids c.hub 0) zs)) (u.here u.found.tree u.found.next u.found.spans)
        ∙ ap (shifted i) (m.is g cycle ids b u.found.tree u.found.next u.found.spans _)

    pub seek_silent : {k : Option Corner} → ItemMet names c ws end d i at made k → k ≡ None → Seeking names c ws end d bs x (i + 1)
    unfolding shifted
    seek_silent w e =
        let m = rw e at w in
        record { is = λ g cycle ids b. met m g cycle ids b ∙ rw (add-one i) refl; within = omega arith }

    pub seek_met : {k : Option Corner} {r : Corner} → ItemMet names c ws end d i at made k → k ≡ Some r → CornerAt names c ws end d bs x r
    seek_met {r = r} w e =
        let m : ItemMet names c ws end d i at made (Some r) = rw e at w in
        record { is = λ g cycle ids b. met m g cycle ids b ∙ shift_met c ids i r m.member; within = met_within c r l m.member }

-- The element stands in the sheet.
pub item_found : {ws : List ℕ} {end d : ℕ} {bs : List ℕ} {x : Listed} {i at : ℕ} {made : Bool} → ListedIn ws end d bs x → ItemIs bs x i at made
    → FoundElement ws end d at
item_found {ws} {end} {d} f t = (t.is ws end d f).found

pub ruleset seeking = (item_found, seek_none, seek_end, seek_silent, seek_met)
