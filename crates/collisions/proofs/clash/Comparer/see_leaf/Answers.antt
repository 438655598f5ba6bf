use Rattle.std.proofs.Common.{rules, ⊎_elim}
use Rattle.collisions.proofs.clash.Comparer.see_leaf.Goals as goal
use Rattle.words.specs.Laws.Kinds.{named_kinds}
use Rattle.collisions.proofs.Laws.Clash.{clashes}

pub returns-in-Call : goal.returns-in-Call
returns-in-Call c =
    ⊎_elim (λ e. search (rules, clashes, named_kinds)) (λ e. search (rules, clashes, named_kinds)) c.in-Call.is

pub returns-in_default : goal.returns-in_default
returns-in_default c = search (rules, clashes, named_kinds)
