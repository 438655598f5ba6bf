use Rattle.words.specs.Sheet.{text}
use Prim.Native.Nat.{◌-◌}
use Rattle.analysis.specs.Survey.{view_of, seen_of}
use Rattle.analysis.proofs.Laws.Walks.{BodyFolding}
use Rattle.analysis.proofs.survey.body.Given as goal

abbrev pub invariant-loop : goal.invariant-loop
invariant-loop l = BodyFolding (view_of l.v) (text l.s) l.s.end l.n l.at (seen_of l.initial.t) (l.n - l.counter) l.p (seen_of l.t)
