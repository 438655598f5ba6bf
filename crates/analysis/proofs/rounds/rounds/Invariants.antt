use Rattle.words.specs.Sheet.{text}
use Prim.Native.Nat.{◌-◌}
use Rattle.analysis.specs.Corners.{corners_of}
use Rattle.analysis.specs.Rounds.{RoundFound}
use Rattle.analysis.proofs.Laws.Rounded.{Finding}
use Rattle.analysis.proofs.rounds.rounds.Given as goal

abbrev pub invariant-loop : goal.invariant-loop
invariant-loop l =
    Finding (text l.g.s.now) l.g.s.now.end l.g.rules.now (l.end - l.counter) l.nullable l.count
    × RoundFound (text l.g.s.now) l.g.s.now.end l.g.rules.now (corners_of l.reading) l.nullable l.fn.rows.calls l.fn.rows.corners
    l.rows.calls l.rows.corners l.r
