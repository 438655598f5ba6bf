use Rattle.std.proofs.Common.{rules}
use Rattle.splices.proofs.options.option_meets.Goals as goal
use Rattle.splices.proofs.Laws.OptionsAdded.{meeting}

-- src/options.rt:93:1
pub returns-in-New : goal.returns-in-New
returns-in-New c = search (rules, meeting)

-- src/options.rt:93:1
pub returns-in_default : goal.returns-in_default
returns-in_default c = search (rules, meeting)
