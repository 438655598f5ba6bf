use Rattle.sheet.proofs.counts.counted.Goals as goal
use Rattle.sheet.proofs.Laws.Sizes.{sizes_counted}

pub returns : goal.returns
returns c = sizes_counted c.args.parts.count (rw c.rules_end-end.ensures at c.survey_all-v.ensures)
