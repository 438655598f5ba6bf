use Rattle.words.specs.Sheet.{text}
use Rattle.splices.proofs.Laws.Places.{Placing}
use Rattle.splices.proofs.places.put_places.Given as goal

abbrev pub invariant-loop-i : goal.invariant-loop-i
invariant-loop-i l = Placing (text l.s) l.s.end l.depth l.n l.at l.initial.work l.to l.work l.i l.p
