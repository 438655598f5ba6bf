use Prim.Native.Nat.{◌+◌, ◌-◌, ◌*◌, ◌/◌, ◌≤◌}
use lib.ListN.{length}
use mathlib.Core.Path.{◌≡◌}
use Rattle.grammar.specs.Words.{words}
use Rattle.listed.specs.Walk.{pen}
use Rattle.listed.proofs.Laws.Entries.{EntriesListing}
use Rattle.listed.proofs.entries.list_entries.Given as goal

abbrev pub invariant-loop-i : goal.invariant-loop-i
invariant-loop-i l = (l.out.bytes.ghost_name ≡ l.initial.out.bytes.ghost_name) × (l.out.n ≤ l.initial.out.n + 46 * l.i)
    × EntriesListing (words l.trail) (4 * (length l.trail / 16)) (length l.trail / 16) 0 (pen l.initial.out.bytes.now l.initial.out.n 0)
    (length l.trail / 16 - l.i) (4 * l.i) (pen l.out.bytes.now l.out.n 0)
