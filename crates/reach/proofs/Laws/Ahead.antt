-- The next cycle and what is left behind it, by the rule with the least id.
use Prim.Native.Nat.{ℕ, ◌<◌}
use mathlib.Core.Path.{◌≡◌, ◌∙◌}
use mathlib.Core.List.{List}
use lib.Dec.{ltb}
use borrow.Author.Tests.{ltb-true}
use Rattle.grammar.specs.Laws.Parse.{either}
use Rattle.reference.specs.Analysis.{Row, reach, component}
use Rattle.reach.specs.Rows.{Minus, holds, RowOf}
use Rattle.reach.specs.Reach.{Around}
use Rattle.reach.specs.Cycles.{Least, IsNext}
use Rattle.reach.specs.Listed.{row_at, Ids, Members, GivesNext, AheadOf, Given}
use Rattle.std.specs.Prelude.{Option, Some, None}

-- Who is around a rule is all that a row has.
around_row : {rows : List Row} {n i : ℕ} {ids row xs : List ℕ} {closed : List (List ℕ)} → Ids rows n ids → Around closed i n row
    → Members rows n row xs → RowOf ids n xs row
unfolding holds
around_row {n = n} d a m =
    record {
      at = λ j. either (ltb j n) (λ t. let l = ltb-true j n t in rw (t, d.at j l) (m.at j l)) (λ f. a.at j ∙ rw f);
    }

pub ahead_none : {ids left : List ℕ} {n : ℕ} {r : Option ℕ} {closed : List (List ℕ)} → GivesNext ids left n r → r ≡ None
    → AheadOf closed ids n left None
ahead_none {closed = closed} f e = record { takes = λ rows all cycles d h. rw e at (f.gives rows all closed cycles d h) }

pub ahead_cycle : {ids left row less : List ℕ} {n i : ℕ} {r : Option ℕ} {closed : List (List ℕ)} → GivesNext ids left n r → r ≡ Some i
    → Around closed i n row → Minus left row less → AheadOf closed ids n left (Some (record { members = row; left = less }))
ahead_cycle {row = row} {less = less} {n = n} {i = i} {closed = closed} f e a m =
    record {
      takes = λ rows all cycles d h.
          let g : Given rows n all closed _ i cycles = rw e at (f.gives rows all closed cycles d h) in
          record {
            cycle = component (reach rows) (row_at rows i).id;
            rest = g.rest;
            first = g.first;
            members = around_row d a (g.around row a);
            behind = g.behind row less a m;
          };
    }

pub next_below : (ids left : List ℕ) {n i : ℕ} {r : Option ℕ} → IsNext ids left n r → r ≡ Some i → i < n
next_below ids left {n} {i} h e = let l : Least ids left n i = rw e at h in l.below

pub ruleset coming = (next_below, ahead_none, ahead_cycle)
