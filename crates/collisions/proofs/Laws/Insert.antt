-- Halves moved by one, and an entry more between those in front and those behind.
use Prim.Native.Nat.{ℕ, ◌+◌, ◌-◌}
use mathlib.Core.Path.{◌≡◌, ap, ◌∙◌}
use mathlib.Core.List.{List}
use native.Mathlib.Omega.{arith}
use Rattle.planned.specs.Layout.{half}
use Rattle.planned.specs.Halves.{HalvesMoved}
use Rattle.collisions.specs.Order.{Raised}

-- The halves from one place up to another are moved by one.
pub raised : {before after : List ℕ} {from to : ℕ} → HalvesMoved before after from (from + 1) (to - from) → Raised before after from to
raised {before} {after} {from} {to} m =
    record {
      moved = λ j a b.
          let k : from + (j - from) ≡ j = omega arith in
          let i : j + 1 ≡ from + 1 + (j - from) = omega arith in
          ap (half after) i ∙ m.here (j - from) (omega arith) ∙ ap (half before) k;
      front = λ j a. m.front j (omega arith);
      long = m.long;
    }
