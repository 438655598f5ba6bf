use lib.ListN.{take}
use Rattle.listed.specs.Put.{Wrote}
use Rattle.listed.proofs.text.Text.write.Given as goal

abbrev pub invariant-loop-b : goal.invariant-loop-b
invariant-loop-b l = Wrote l.fn.self l.self (take l.b-index l.word)
