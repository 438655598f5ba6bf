use Rattle.hub.specs.Calls.{CallsFrom}
use Rattle.hub.proofs.calls.calls_from.Given as goal

abbrev pub invariant-loop-i : goal.invariant-loop-i
invariant-loop-i l = CallsFrom l.calls l.out l.initial.r l.i l.r
