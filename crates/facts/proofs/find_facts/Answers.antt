use Rattle.std.proofs.Common.{rules}
use Rattle.facts.proofs.find_facts.Goals as goal
use Rattle.facts.proofs.Laws.Told.{read_room, read_rules, tellings}

pub invariant_of-s : goal.invariant_of-s
invariant_of-s c = record { room = rw c.rules_end-end.ensures (read_room _ _ c.in-Ok.ensures.read_as) }

pub tell-t-requires-clause-bounds : goal.tell-t-requires-clause-bounds
tell-t-requires-clause-bounds c = search (rules, tellings)

pub invariant_of-g : goal.invariant_of-g
invariant_of-g c = record { standing = rw c.rules_end-end.ensures (read_rules _ _ c.in-Ok.ensures.read_as) }

pub returns-in-Ok-clause-tells : goal.returns-in-Ok-clause-tells
returns-in-Ok-clause-tells c =
    let told = rw (c.rules_end-end.ensures, c.reading_of.ensures) at c.tell-t.ensures.rules_told in search (rules, tellings)

pub returns-in-Ok-clause-work_after : goal.returns-in-Ok-clause-work_after
returns-in-Ok-clause-work_after c = search (rules, tellings)
