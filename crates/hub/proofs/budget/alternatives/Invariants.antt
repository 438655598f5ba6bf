use Rattle.words.specs.Sheet.{text}
use Rattle.hub.specs.Budget.{Summed}
use Rattle.hub.proofs.budget.alternatives.Given as goal

abbrev pub invariant-loop-i : goal.invariant-loop-i
invariant-loop-i l = Summed (text l.g.s.now) l.g.s.now.end l.places l.members l.i l.sum
