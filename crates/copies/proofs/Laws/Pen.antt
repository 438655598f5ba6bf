-- Words written one after the other.
use Prim.Native.Nat.{ℕ, ◌+◌, ◌<◌, ◌≤◌}
use mathlib.Core.Path.{◌≡◌}
use mathlib.Core.List.{List, [], ◌∷◌}
use native.Mathlib.Omega.{arith}
use native.Mathlib.Numerals.{add-one}
use lib.ListN.{length, get_or, take}
use lib.Seq.{take-suc}
use Rattle.std.proofs.lemmas.List.{length-take-le, take_all}
use Rattle.writing.specs.Wrote.{Wrote}
use Rattle.writing.specs.Laws.Wrote.{wrote_nothing, wrote_then}

-- The first i of some words are written.
module _ (ws : List ℕ) {b m : List ℕ} {at : ℕ} (i : ℕ) where
  pub words_more : {a : List ℕ} → i < length ws → Wrote b m at (take i ws) → Wrote m a (at + i) (get_or ws i 0 ∷ [])
      → Wrote b a at (take (i + 1) ws)
  words_more h v w =
      let l : length (take i ws) ≡ i = length-take-le i ws (omega arith) in
      rw (add-one i, take-suc ws i 0 h) (wrote_then (omega arith) v w)

  pub words_all : length ws ≤ i → Wrote b m at (take i ws) → Wrote b m at ws
  words_all h w = rw (take_all i ws h) at w

pub ruleset words_written = (wrote_nothing, words_more, words_all)
