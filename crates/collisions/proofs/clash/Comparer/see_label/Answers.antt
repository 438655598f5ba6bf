use Rattle.std.proofs.Common.{rules}
use Rattle.collisions.proofs.clash.Comparer.see_label.Goals as goal
use Rattle.collisions.proofs.Laws.Clash.{clashes}

-- src/clash.rt:42:9
pub returns-then-name-eq0 : goal.returns-then-name-eq0
returns-then-name-eq0 c = search (rules, clashes)

-- src/clash.rt:33:1
pub returns : goal.returns
returns c = search (rules, clashes)
