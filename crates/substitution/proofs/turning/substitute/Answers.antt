use Rattle.substitution.proofs.turning.substitute.Goals as goal
use Rattle.turns.proofs.Laws.Stand.{rules_stand}

pub invariant_of-task-clause-stand : goal.invariant_of-task-clause-stand
invariant_of-task-clause-stand c = rules_stand c.requires.ground
