use Rattle.std.proofs.Common.{rules}
use Rattle.substitution.proofs.size.hub_size.Goals as goal
use Rattle.grammar.specs.Laws.Fold.{bodies}
use Rattle.substitution.proofs.Laws.Size.{counting}

pub loop-init : goal.loop-init
loop-init c = search (rules, bodies, counting)

pub counted-z-requires : goal.counted-z-requires
counted-z-requires c = search (rules, bodies, counting)

pub alternative_end-p-requires :
    goal.alternative_end-p-requires
alternative_end-p-requires c = search (rules, bodies, counting)

pub loop-preserved : goal.loop-preserved
loop-preserved c = search (rules, bodies, counting)

pub returns : goal.returns
returns c = search (rules, bodies, counting)
