use Rattle.std.proofs.Common.{rules}
use Rattle.renew.proofs.places.rules_less.Goals as goal
use Rattle.renew.proofs.Laws.Fewer.{dropping}

-- src/places.rt:114:5
pub loop-k-init : goal.loop-k-init
loop-k-init c = search (rules, dropping)

-- src/places.rt:114:5
pub loop-k-preserved : goal.loop-k-preserved
loop-k-preserved c = search (rules, dropping)

-- src/places.rt:101:1
pub returns : goal.returns
returns c = search (rules, dropping)
