use Rattle.std.proofs.Common.{rules}
use Rattle.ids.proofs.Laws.Survey.{survey_done}
use Rattle.ids.proofs.survey.survey_all.Goals as goal

pub returns : goal.returns
returns c = survey_done (search rules) c.walk_rules.ensures.2
