use Rattle.words.specs.Sheet.{text}
use mathlib.Core.Path.{◌≡◌}
use lib.ListN.{length}
use Rattle.analysis.specs.Corners.{corners_of}
use Rattle.plan.proofs.Laws.Search.{Trying}
use Rattle.plan.proofs.search.try_cycles.Given as goal

abbrev pub invariant-loop-k : goal.invariant-loop-k
invariant-loop-k l =
    let g = l.f.ground in
    (length l.work ≡ length l.initial.work)
    × Trying (text l.f.g.now.s.now) l.f.g.now.s.now.end l.f.g.now.rules.now (corners_of l.f.reading)
    l.f.rows.now.calls g.marks g.kept l.closed l.limits l.n l.k l.left l.clauses
