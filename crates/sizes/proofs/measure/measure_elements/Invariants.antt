use Rattle.sizes.proofs.Laws.Elements.{Adding}
use Rattle.sizes.proofs.measure.measure_elements.Given as goal

abbrev pub invariant-loop-i : goal.invariant-loop-i
invariant-loop-i l = Adding l.a l.i l.m
