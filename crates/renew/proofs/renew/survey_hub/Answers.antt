use Rattle.std.proofs.Common.{rules}
use Rattle.renew.proofs.renew.survey_hub.Goals as goal
use Rattle.analysis.proofs.Laws.Standing.{standing}

pub survey_rule-v-requires-clause-bounds : goal.survey_rule-v-requires-clause-bounds
survey_rule-v-requires-clause-bounds c = search (rules, standing)

pub survey_rule-v-requires-clause-found_rule : goal.survey_rule-v-requires-clause-found_rule
survey_rule-v-requires-clause-found_rule c = search (rules, standing)
