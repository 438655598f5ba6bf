use Rattle.ids.proofs.ids.collect.Goals as goal
use Rattle.ids.proofs.Laws.NoSort.{collected_unnamed}

-- The number names no sort.
pub returns-in-Err : goal.returns-in-Err
returns-in-Err c = collected_unnamed c.in-Err.is c.try_from.ensures _ _ _ _
