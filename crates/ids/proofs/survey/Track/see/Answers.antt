use Rattle.std.proofs.Common.{rules}
use Rattle.ids.proofs.Laws.Track.{see_higher, see_lower}
use Rattle.ids.proofs.survey.Track.see.Goals as goal

pub returns-then-self-id : goal.returns-then-self-id
returns-then-self-id c = search (rules, see_higher)

pub returns-else-self-id : goal.returns-else-self-id
returns-else-self-id c = search (rules, see_lower)
