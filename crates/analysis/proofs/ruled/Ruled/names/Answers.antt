use Rattle.analysis.proofs.ruled.Ruled.names.Goals as goal
use Rattle.analysis.proofs.Laws.Standing.{told}

pub invariant_of-result : goal.invariant_of-result
invariant_of-result c = record { told = told c.args.self.now.standing }
