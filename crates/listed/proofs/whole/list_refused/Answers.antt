use Rattle.std.proofs.Common.{rules}
use Rattle.listed.proofs.whole.list_refused.Goals as goal
use Rattle.listed.proofs.Laws.Whole.{refused_put}

pub returns : goal.returns
returns c = refused_put c.args.number c.line.ensures.1 (search rules)
