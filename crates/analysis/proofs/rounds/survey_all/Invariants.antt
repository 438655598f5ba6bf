use Rattle.words.specs.Sheet.{text}
use Rattle.analysis.specs.Survey.{view_of}
use Rattle.analysis.specs.Rounds.{Recording}
use Rattle.analysis.proofs.rounds.survey_all.Given as goal

abbrev pub invariant-loop-i : goal.invariant-loop-i
invariant-loop-i l = Recording (view_of l.v) (text l.g.s.now) l.g.s.now.end l.places l.initial.rows.calls l.initial.rows.corners l.i l.rows.calls l.rows.corners l.r
