use Rattle.collisions.proofs.names.joined.Goals as goal
use Rattle.collisions.proofs.Laws.Bits.{joined_now, joined_fits}

pub overflow_add-result : goal.overflow_add-result
overflow_add-result c = record { fits = joined_fits c.args.h c.args.set c.has_bit.ensures c.if-has_bit.false c.from.ensures c.ranges.h.fits }

pub returns-else-has_bit : goal.returns-else-has_bit
returns-else-has_bit c = joined_now c.args.h c.args.set c.has_bit.ensures c.if-has_bit.false c.from.ensures
