use Rattle.std.proofs.Common.{rules}
use Rattle.listed.proofs.text.Text.+decimal.Goals as goal
use Rattle.listed.proofs.Laws.Text.{numbers}

pub returns-then-w-lt10 : goal.returns-then-w-lt10
returns-then-w-lt10 t c = search (rules, numbers)

pub returns : goal.returns
returns t c = search (rules, numbers)
