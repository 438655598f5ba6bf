use Rattle.std.proofs.Common.{rules}
use Rattle.analysis.proofs.survey.outermost.Goals as goal
use Rattle.analysis.proofs.Laws.Walks.{outer_walked}

-- src/survey.rt:20:1
pub returns : goal.returns
returns c = search (rules, outer_walked)
