use Rattle.std.proofs.Common.{refl}
use Rattle.collisions.proofs.names.put.Goals as goal
use Rattle.collisions.proofs.Laws.Names.{put_insertable, put_inserted, put_joined}

pub insert-requires : goal.insert-requires
insert-requires c = put_insertable c.requires.0 c.args.at c.word.ensures c.in-Err.ensures refl c.requires.1 c.requires.2

pub returns-in-Ok : goal.returns-in-Ok
returns-in-Ok c = put_joined c.requires.0 c.args.at c.word.ensures c.in-Ok.ensures refl c.args.set c.join.ensures

pub returns-in-Err : goal.returns-in-Err
returns-in-Err c =
    put_inserted c.requires.0 c.args.at c.word.ensures c.in-Err.ensures refl c.requires.1 c.requires.2 c.args.set c.from.ensures c.insert.ensures
