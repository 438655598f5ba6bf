use Rattle.std.proofs.Common.{rules}
use Rattle.analysis.proofs.names.Names.scan.Goals as goal
use Rattle.analysis.proofs.Laws.Names.{scanned}

pub returns : goal.returns
returns c = scanned c.args.self.now.told c.position.result (search rules)
