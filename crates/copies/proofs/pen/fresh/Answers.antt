use Rattle.std.proofs.Common.{rules}
use Rattle.copies.proofs.pen.fresh.Goals as goal
use Rattle.copies.proofs.Laws.Taken.{taken_is, taken_past}

pub returns : goal.returns
returns c =
    let id = taken_is c.args.pen.counters c.take-taken.result.id c.take-taken.result.counters c.args.sort c.take-taken.ensures in
    let on = taken_past c.args.pen.counters c.take-taken.result.id c.take-taken.result.counters c.args.sort c.take-taken.ensures c.requires.counter in
    search rules
