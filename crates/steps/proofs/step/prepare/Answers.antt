use Rattle.std.proofs.Common.{rules}
use Rattle.steps.proofs.step.prepare.Goals as goal
use Rattle.steps.proofs.Laws.Step.{preparing}

pub returns-then-is_quiet : goal.returns-then-is_quiet
returns-then-is_quiet c = search (rules, preparing)

pub returns-then-mark_around : goal.returns-then-mark_around
returns-then-mark_around c = search (rules, preparing)

pub returns : goal.returns
returns c = search (rules, preparing)
