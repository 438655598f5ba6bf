use Rattle.std.proofs.Common.{rules}
use Rattle.compose.proofs.body.write_hub.Goals as goal
use Rattle.compose.proofs.Laws.Body.{closings}

-- src/body.rt:68:1
pub returns-clause-drawn : goal.returns-clause-drawn
returns-clause-drawn c = rw (← c.close.ensures.same_words) (search (rules, closings))
