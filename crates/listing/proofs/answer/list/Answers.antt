use Rattle.listed.proofs.Laws.Front.{held_front, recorded_front}
use Rattle.listing.proofs.answer.list.Goals as goal
use Rattle.listing.proofs.Laws.Joined.{joined_listed}

pub list_joined-n-requires : goal.list_joined-n-requires
list_joined-n-requires c = let j = rw c.in-Ok.is at c.requires.so in (held_front j.held, recorded_front j.recorded)

pub returns-in-Ok : goal.returns-in-Ok
returns-in-Ok c = let j = rw c.in-Ok.is at c.requires.so in joined_listed j c.list_joined-n.ensures
