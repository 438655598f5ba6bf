use Rattle.std.proofs.Common.{rules}
use Rattle.collisions.proofs.clash.clash_at.Goals as goal
use Rattle.collisions.proofs.Laws.Clash.{clash_done}

-- src/clash.rt:171:1
pub returns : goal.returns
returns c = search (rules, clash_done)
