use Rattle.std.proofs.Common.{rules}
use Rattle.written.proofs.list.write_new.Goals as goal
use Rattle.written.proofs.Laws.Planned.{news, new_readable, new_items, new_drawn}

pub id_at-owner-requires : goal.id_at-owner-requires
id_at-owner-requires c = search (rules, news)

pub fresh-given-requires : goal.fresh-given-requires
fresh-given-requires c = search (rules, news)

pub begin-requires-clause-bounds : goal.begin-requires-clause-bounds
begin-requires-clause-bounds c = let gave = rw c.from-reason.ensures at c.fresh-given.ensures in search (rules, news)

pub write_items-requires-clause-readable : goal.write_items-requires-clause-readable
write_items-requires-clause-readable c =
    let given = rw c.from-reason.ensures at c.fresh-given.ensures in
    let gave = rw c.begin.ensures.same_entries at given in
    let owner = rw c.from.ensures at c.id_at-owner.ensures in
    let asked = c.requires in (
      new_readable _ _ _ _ _ asked.bounds.1 asked.readable.1 owner gave c.begin.ensures.drawn asked.bounds.0 asked.readable.0,
      new_items _ _ _ _ _ asked.bounds.1 asked.readable.1 owner gave c.begin.ensures.drawn asked.bounds.0 asked.readable.0,
    )

pub returns-clause-drawn : goal.returns-clause-drawn
returns-clause-drawn c =
    let given = rw c.from-reason.ensures at c.fresh-given.ensures in
    let gave = rw c.begin.ensures.same_entries at given in
    let owner = rw c.from.ensures at c.id_at-owner.ensures in
    let asked = c.requires in
    new_drawn _ _ _ _ _ asked.bounds.1 asked.readable.1 owner gave c.begin.ensures.drawn asked.bounds.0 asked.readable.0
    c.write_items.ensures.drawn
