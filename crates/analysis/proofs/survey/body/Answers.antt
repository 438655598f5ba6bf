use Rattle.std.proofs.Common.{rules}
use Rattle.analysis.proofs.survey.body.Goals as goal
use Rattle.analysis.proofs.Laws.Walks.{counted, body_room}

pub outermost-p-requires : goal.outermost-p-requires
outermost-p-requires c = search (rules, counted, body_room)

pub loop-preserved : goal.loop-preserved
loop-preserved c = search (rules, counted)

pub returns : goal.returns
returns c = search (rules, counted)
