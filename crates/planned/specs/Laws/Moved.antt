-- Several halves moved at once.
use Prim.Native.Nat.{ℕ, ◌+◌, ◌*◌}
use Rattle.std.specs.Prelude.{◌≡◌, List, length, get_or}
use Rattle.std.specs.List.{CopiedTo, SameBelow, SameFrom}
use Rattle.std.proofs.Math.Path.{ap}
use Rattle.std.proofs.Common.{◌∙◌, arith}
use Rattle.planned.specs.Layout.{half}
use Rattle.planned.specs.Halves.{HalvesMoved}

-- Twice as many bytes are copied, from twice as far to twice as far: halves are.
pub halves_moved : {before after : List ℕ} (from to n : ℕ) {start dest len : ℕ} → start ≡ 2 * from → dest ≡ 2 * to → len ≡ 2 * n
    → CopiedTo before after start dest len → SameBelow before after dest → SameFrom before after (dest + len)
    → length after ≡ length before → HalvesMoved before after from to n
unfolding half
halves_moved {before} {after} from to n s d l copied below behind long =
    record {
      here = λ i h.
          let low : get_or after (2 * (to + i)) 0 ≡ get_or before (2 * (from + i)) 0 =
          copied (2 * (to + i)) 0 (omega arith) (omega arith) ∙ ap (λ k. get_or before k 0) (omega arith) in
          let high : get_or after (2 * (to + i) + 1) 0 ≡ get_or before (2 * (from + i) + 1) 0 =
          copied (2 * (to + i) + 1) 0 (omega arith) (omega arith) ∙ ap (λ k. get_or before k 0) (omega arith) in
          rw (low, high);
      front = λ j h.
          let low = below (2 * j) 0 (omega arith) in
          let high = below (2 * j + 1) 0 (omega arith) in
          rw (low, high);
      behind = λ j h.
          let low = behind (2 * j) 0 (omega arith) in
          let high = behind (2 * j + 1) 0 (omega arith) in
          rw (low, high);
      long = long;
    }
