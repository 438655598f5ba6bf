use Rattle.std.proofs.Common.{rules, refl}
use Rattle.hub.proofs.hub.choose_hub.Goals as goal
use Rattle.hub.proofs.Laws.Hub.{candidates_by, chosen_first}

pub returns : goal.returns
returns c = chosen_first refl (candidates_by _ c.names.ensures.0 c.names.ensures.1 c.candidates-can.ensures) c.calls_from.ensures c.meet-wanted.ensures c.first.result c.or_else.result c.first.ensures.0 (search rules)
