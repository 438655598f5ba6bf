use Rattle.std.proofs.Common.{rules}
use Rattle.renew.proofs.renew.renew.Goals as goal
use Rattle.renew.proofs.Laws.Renewed.{hub_low, renewed_of}

pub survey_hub-marks-requires : goal.survey_hub-marks-requires
survey_hub-marks-requires c = search (rules, hub_low)

pub returns-clause-renewed_of : goal.returns-clause-renewed_of
returns-clause-renewed_of c = search (rules, renewed_of)
