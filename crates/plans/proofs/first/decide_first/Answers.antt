use Rattle.plans.proofs.first.decide_first.Goals as goal
use Rattle.plans.proofs.Laws.First.{firsts}

-- src/first.rt:27:1
pub returns : goal.returns
returns c =
    let asked = c.requires in let known = c.find_out-ground.ensures in search firsts
