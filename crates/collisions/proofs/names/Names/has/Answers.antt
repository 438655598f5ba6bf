use Rattle.std.proofs.Common.{refl}
use Rattle.collisions.specs.Names.{set_bit}
use Rattle.collisions.proofs.names.Names.has.Goals as goal
use Rattle.collisions.proofs.Laws.Find.{has_entry, has_none}

pub returns-in-Ok : goal.returns-in-Ok
returns-in-Ok c = has_entry c.args.self.now.ordered c.in-Ok.ensures refl (set_bit c.args.set) c.entry_at.ensures c.has_bit.ensures

pub returns-in-Err : goal.returns-in-Err
returns-in-Err c = has_none c.args.self.now.ordered c.in-Err.ensures refl (set_bit c.args.set)
