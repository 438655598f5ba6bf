use Rattle.std.proofs.Common.{◌+◌, ◌*◌, length}
use Rattle.listed.specs.Put.{WroteFew}
use Rattle.listed.proofs.Laws.Lines.{begun}
use Rattle.listed.proofs.text.Text.line.Given as goal

abbrev pub invariant-loop-w : goal.invariant-loop-w
invariant-loop-w l = WroteFew l.fn.self l.self (begun l.word l.numbers l.w-index) (length l.word + 11 * l.w-index)
