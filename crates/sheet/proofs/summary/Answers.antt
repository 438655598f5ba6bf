use Rattle.sheet.proofs.summary.Goals as goal
use Rattle.sheet.proofs.Laws.Sizes.{standing, summary_sheet}

pub counted-requires : goal.counted-requires
counted-requires c = standing _ _ c.in_ok-r.ensures.read_as

pub returns-clause-summed_as : goal.returns-clause-summed_as
returns-clause-summed_as c = summary_sheet _ _ c.in_ok-r.ensures.read_as c.counted.ensures
