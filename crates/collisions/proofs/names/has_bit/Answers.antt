use Rattle.collisions.proofs.names.has_bit.Goals as goal
use Rattle.collisions.proofs.Laws.Bits.{bit_is}

pub returns : goal.returns
returns c = bit_is c.args.set c.from.ensures c.args.h
