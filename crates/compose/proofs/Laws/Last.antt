-- The preserved ids and the trailer, written behind the rules.
use Prim.Native.Nat.{ℕ, ◌+◌, ◌-◌, ◌≤◌}
use mathlib.Core.Path.{◌≡◌, refl}
use mathlib.Core.List.{List, ◌∷◌}
use native.Mathlib.Omega.{arith}
use lib.ListN.{length, get_or, take, drop, length-take, length-drop, length-append}
use Rattle.grammar.specs.Words.{words}
use Rattle.grammar.specs.Laws.Words.{length_words}
use Rattle.grammar.specs.Encode.{encode_counters}
use Rattle.words.specs.Room.{Room}
use Rattle.writing.specs.Wrote.{Wrote}
use Rattle.writing.specs.Taken.{counters_of}
use Rattle.writing.specs.Laws.Wrote.{wrote_then}
use Rattle.copies.specs.declared.pen.Pen.{Pen}
use Rattle.heads.specs.Front.{compose_at}
use Rattle.compose.specs.Hub.{Moved, trailer_words, end_words}

pub trailer_wrote : (ws : List ℕ) (end to : ℕ) (p : Pen) {b a : List ℕ} {at k f n : ℕ} → k ≡ get_or ws to 0
    → f ≡ p.to - compose_at + (to - end) → n ≡ to - end → Wrote b a at (k ∷ f ∷ n ∷ encode_counters (counters_of p.counters))
    → Wrote b a at (trailer_words ws end to p)
trailer_wrote ws end to p e f g u = rw (← e, ← f, ← g) u

pub end_moved : {bs : List ℕ} {end to : ℕ} {p : Pen} {b m a : List ℕ} → Room bs to → end ≤ to
    → Wrote b m p.to (take (to - end) (drop end (words bs))) → Wrote m a (p.to + (to - end)) (trailer_words (words bs) end to p)
    → Moved (end_words (words bs) end to p) b a p (record { to = p.to + (to - end) + 8; trail = p.trail; counters = p.counters })
end_moved {bs} {end} {to} {p} r h u v =
    let l : length (take (to - end) (drop end (words bs))) ≡ to - end =
    simp (length-take, length-drop) (let t = r.trailer in omega (arith, length_words bs)) in
    let n = length-append (take (to - end) (drop end (words bs))) (trailer_words (words bs) end to p) in
    record { wrote = wrote_then (omega arith) u v; to = omega arith; trail = refl; counters = refl }

pub ruleset lasts = (trailer_wrote, end_moved)
