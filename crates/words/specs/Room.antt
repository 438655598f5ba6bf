-- Room for the walks over the rules of a sheet.
use Rattle.std.specs.Prelude.{ℕ, ◌+◌, ◌*◌, ◌<◌, ◌≤◌, ◌^◌, List, length}
use Rattle.grammar.specs.Numbers.{least_bytes}

-- The trailer stands behind the word at which the rules end, and places past it do not wrap.
pub record Room (bs : List ℕ) (end : ℕ) : Type 0 where
  pub trailer : 4 * end + least_bytes ≤ length bs
  pub low : end < 2 ^ 31
