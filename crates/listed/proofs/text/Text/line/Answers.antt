use Rattle.std.proofs.Common.{rules}
use Rattle.listed.proofs.text.Text.line.Goals as goal
use Rattle.listed.proofs.Laws.Lines.{lines}

pub loop-w-preserved : goal.loop-w-preserved
loop-w-preserved c = search (rules, lines)

pub returns : goal.returns
returns c = search (rules, lines)
