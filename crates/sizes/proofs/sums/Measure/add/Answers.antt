use Rattle.std.proofs.Common.{rules}
use Rattle.sizes.specs.Sized.{plus}
use Rattle.sizes.proofs.sums.Measure.add.Goals as goal
use Rattle.sizes.specs.Sized.{plus}

-- src/sums.rt:17:1
pub returns : goal.returns
unfolding plus
returns c = search rules
