use Rattle.convert.proofs.walk.widen_call.Goals as goal
use Rattle.convert.proofs.Laws.Leaves.{call_ended}

pub returns : goal.returns
returns c = call_ended c.args.s.now.room c.requires.bounds c.copy_up_to-end.ensures.copied c.write.ensures
