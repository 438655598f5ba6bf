use Rattle.std.proofs.Common.{rules}
use Rattle.ids.proofs.Laws.Seeing.{seeings}
use Rattle.ids.proofs.survey.SurveyVisitor.leaf.Goals as goal

pub returns : goal.returns
returns c = search (rules, seeings)
