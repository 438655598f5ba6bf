use Rattle.std.proofs.Common.{rules, ⊎_elim}
use Rattle.collisions.proofs.references.reference_count.Goals as goal
use Rattle.words.specs.Laws.Kinds.{named_kinds}
use Rattle.collisions.proofs.Laws.Walks.{counts}

pub returns-in-Action : goal.returns-in-Action
returns-in-Action c =
    ⊎_elim (λ e. search (rules, counts, named_kinds)) (λ e. search (rules, counts, named_kinds)) c.in-Action.is

pub returns-in_default : goal.returns-in_default
returns-in_default c =
    search (rules, counts, named_kinds)
