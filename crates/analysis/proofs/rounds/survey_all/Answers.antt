use Rattle.std.proofs.Common.{rules, refl}
use Rattle.analysis.proofs.rounds.survey_all.Goals as goal
use Rattle.analysis.proofs.Laws.Standing.{standing}
use Rattle.analysis.proofs.Laws.Rounds.{record_more, recording}

pub loop-i-init : goal.loop-i-init
loop-i-init c = search (rules, recording, standing)

pub survey_rule-t-requires-clause-bounds : goal.survey_rule-t-requires-clause-bounds
survey_rule-t-requires-clause-bounds c = search (rules, recording, standing)

pub survey_rule-t-requires-clause-found_rule : goal.survey_rule-t-requires-clause-found_rule
survey_rule-t-requires-clause-found_rule c = search (rules, recording, standing)

pub loop-i-preserved : goal.loop-i-preserved
loop-i-preserved c = record_more c.loop-i.invariant _ c.survey_rule-t.ensures refl c.loop-i-test.true (search rules) c.mark-m.ensures
