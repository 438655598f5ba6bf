use Rattle.words.specs.Sheet.{text}
use mathlib.Core.Path.{◌≡◌}
use lib.ListN.{length}
use Rattle.turns.specs.Midway.{Shut, Ready}
use Rattle.turns.specs.Turn.{turns_left}
use Rattle.substitution.specs.Run.{Going}
use Rattle.substitution.proofs.turning.stored.Given as goal

abbrev pub invariant-loop-work : goal.invariant-loop-work
invariant-loop-work l = (length l.work ≡ length l.initial.work)
    × Shut (Ready (text l.task.s.now) l.task.s.now.end l.work l.st 0 0 0)
    × Shut (Going (text l.task.s.now) l.task.s.now.end l.task.c.names.list.now l.task.places.now l.task.c l.task.limits l.task.budget
    l.work l.st)

abbrev pub decreases-loop-work : goal.decreases-loop-work
decreases-loop-work l = turns_left (text l.task.s.now) l.task.s.now.end l.work l.st
