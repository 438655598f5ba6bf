use Rattle.std.proofs.Common.{rules}
use Rattle.written.proofs.list.write_same.Goals as goal
use Rattle.written.proofs.Laws.Planned.{sames}

pub id_at-id-requires : goal.id_at-id-requires
id_at-id-requires c = search (rules, sames)

pub begin-requires-clause-bounds : goal.begin-requires-clause-bounds
begin-requires-clause-bounds c = search (rules, sames)

pub write_items-requires-clause-readable : goal.write_items-requires-clause-readable
write_items-requires-clause-readable c =
    let fits = rw c.begin.ensures.same_entries at c.requires.readable.1 in
    let id = rw c.from.ensures at c.id_at-id.ensures in
    search (rules, sames)

pub returns-clause-drawn : goal.returns-clause-drawn
returns-clause-drawn c =
    let fits = rw c.begin.ensures.same_entries at c.requires.readable.1 in
    let id = rw c.from.ensures at c.id_at-id.ensures in
    rw c.begin.ensures.same_entries (search (rules, sames))
