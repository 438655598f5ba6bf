use Rattle.std.proofs.Common.{refl, arith}
use Rattle.planned.proofs.halves.move_halves.Goals as goal
use Rattle.planned.specs.Laws.Moved.{halves_moved}

-- src/halves.rt:24:1
pub returns : goal.returns
returns c =
    let e = c.copy_within.ensures.by_index in
    halves_moved c.args.from c.args.to c.args.n refl refl (omega arith) e.0 e.1 e.2 c.copy_within.ensures.len
