-- What is listed of the slices that the pass's numbers cut.
use Prim.Native.Nat.{ℕ, ◌*◌, ◌/◌}
use mathlib.Core.Path.{sym}
use mathlib.Core.List.{List}
use lib.ListN.{length, take}
use Rattle.std.specs.Prelude.{None}
use Rattle.listed.specs.Ready.{JoinedPut}
use Rattle.listed.proofs.Laws.Front.{held_front, recorded_front}
use Rattle.pass.specs.declared.answer.Totals.{Totals}
use Rattle.listing.specs.Told.{JoinedAs, ListedAs}

pub joined_listed : {bs before after result trail : List ℕ} {t : Totals} {n : ℕ} → JoinedAs bs t result trail
    → JoinedPut (take (4 * (t.result / 4)) result) (take (16 * (t.trail / 16)) trail)
    (length (take (4 * (t.result / 4)) result) / 4) (length (take (16 * (t.trail / 16)) trail) / 16)
    t.plans t.steps before after n
    → ListedAs bs before after (record { n = n; refusal = None })
unfolding held_front recorded_front
joined_listed j p = record { text = rw j.is (p.text (held_front j.held) (recorded_front j.recorded)); number = sym j.number }
