use Rattle.words.specs.Sheet.{text}
use Prim.Native.Nat.{◌-◌}
use Rattle.grammar.specs.Tree.{inner_depth}
use Rattle.grammar.specs.Laws.Fold.{RulesFolding}
use Rattle.words.proofs.visit.walk_rules.Given as goal

abbrev pub invariant-loop : goal.invariant-loop
invariant-loop g l =
    let m = g.V.Visitor in
    let ws = text l.s in
    m.Kept ws l.s.end l.initial.v l.v × m.Fits ws l.s.end inner_depth l.p l.v
    × RulesFolding (m.steps ws l.initial.v) ws l.s.end l.n l.at (m.state ws inner_depth l.initial.v) (l.n - l.counter) l.p
    (m.state ws inner_depth l.v)
