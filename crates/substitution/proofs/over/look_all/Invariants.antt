use Rattle.words.specs.Sheet.{text}
use Rattle.substitution.proofs.Laws.Looking.{Looking}
use Rattle.substitution.proofs.over.look_all.Given as goal

abbrev pub invariant-loop : goal.invariant-loop
invariant-loop l = Looking (text l.task.s.now) l.task.s.now.end l.task.c.names.list.now l.task.places.now l.task.c l.task.budget
    l.initial.work l.n l.counter l.p l.work
