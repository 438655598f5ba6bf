use Rattle.std.proofs.Common.{rules}
use Rattle.planned.specs.Layout.{half}
use Rattle.planned.proofs.halves.half.Goals as goal
use Rattle.planned.specs.Layout.{half}

-- src/halves.rt:14:1
pub returns : goal.returns
unfolding half
returns c = search rules
