use Prim.Native.Nat.{ℕ, ◌<◌, ◌^◌}
use mathlib.Core.Path.{◌≡◌}
use Rattle.std.specs.Prelude.{Option}
use Rattle.records.proofs.Laws.Steps.{Left}
use Rattle.records.proofs.records.many.Given as goal

abbrev pub invariant-loop : goal.invariant-loop
invariant-loop g l =
    record {
      fits : l.p < 2 ^ 64;
      left : (step : ℕ → Option ℕ) → ((x : ℕ) (r : Option ℕ) → x < 2 ^ 64 → goal.F-post g l.one x r → r ≡ step x) → Left step l.n l.at l.counter l.p;
    }
