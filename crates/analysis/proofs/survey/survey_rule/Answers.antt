use Rattle.std.proofs.Common.{rules}
use Rattle.analysis.proofs.survey.survey_rule.Goals as goal
use Rattle.grammar.specs.Laws.Fold.{bodies}
use Rattle.analysis.proofs.Laws.Walks.{rule_surveyed}
use Rattle.analysis.proofs.Laws.Meant.{surveyed}

-- src/survey.rt:119:9
pub body-requires-clause-found_alternatives : goal.body-requires-clause-found_alternatives
body-requires-clause-found_alternatives c = search (rules, bodies)

-- src/survey.rt:103:1
pub returns : goal.returns
returns c = search (rules, bodies, surveyed, rule_surveyed)
