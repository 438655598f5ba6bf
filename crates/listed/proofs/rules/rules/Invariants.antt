use Rattle.words.specs.Sheet.{text}
use Prim.Native.Nat.{◌+◌, ◌-◌, ◌*◌, ◌≤◌}
use mathlib.Core.Path.{◌≡◌}
use Rattle.listed.specs.Walk.{pen}
use Rattle.listed.proofs.Laws.Rules.{RulesListing}
use Rattle.listed.proofs.rules.rules.Given as goal

abbrev pub invariant-loop : goal.invariant-loop
invariant-loop l = (l.out.bytes.ghost_name ≡ l.initial.out.bytes.ghost_name) × (l.out.n ≤ 10 * l.p + 64)
    × RulesListing (text l.s) l.s.end l.count 0 (pen l.initial.out.bytes.now l.initial.out.n 0)
    (l.count - l.counter) l.p (pen l.out.bytes.now l.out.n 0)
