use Prim.Native.Nat.{suc, ◌-◌}
use mathlib.Core.Path.{◌≡◌}
use lib.ListN.{length}
use Rattle.analysis.specs.Corners.{corners_of}
use Rattle.run.proofs.Laws.Loop.{Looping}
use Rattle.run.proofs.unit.run_unit.Given as goal

abbrev pub invariant-loop-next : goal.invariant-loop-next
invariant-loop-next l =
    let b = l.fn.before in
    Looping l.limits (corners_of l.reading) l.room l.initial.res b.end b.to b.rules b.counters l.res l.trail l.work
    l.rows.calls l.rows.corners l.st
    × (length l.res ≡ length l.initial.res) × (length l.trail ≡ length l.initial.trail) × (length l.work ≡ length l.initial.work)

abbrev pub decreases-loop-next : goal.decreases-loop-next
decreases-loop-next l = suc l.fn.before.rules.n - l.st.plans
