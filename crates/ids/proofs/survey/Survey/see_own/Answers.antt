use Rattle.std.proofs.Common.{rules}
use Rattle.ids.proofs.Laws.Survey.{parts}
use Rattle.ids.proofs.survey.Survey.see_own.Goals as goal

pub returns : goal.returns
returns c = search (rules, parts)
