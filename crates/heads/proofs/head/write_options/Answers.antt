use Rattle.std.proofs.Common.{rules}
use Rattle.heads.proofs.head.write_options.Goals as goal
use Rattle.heads.proofs.Laws.Options.{options}

-- src/head.rt:38:5
pub loop-i-init : goal.loop-i-init
loop-i-init c = search (rules, options)

-- src/head.rt:40:9
pub write_option-requires : goal.write_option-requires
write_option-requires c = search (rules, options)

-- src/head.rt:38:5
pub loop-i-preserved : goal.loop-i-preserved
loop-i-preserved c = search (rules, options)
