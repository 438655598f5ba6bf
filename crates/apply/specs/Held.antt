-- A sheet that stands in a lent buffer, from its first word on.
use Rattle.std.specs.Prelude.{ℕ, ◌+◌, ◌*◌, ◌≤◌, ◌≡◌, List, length}
use Rattle.grammar.specs.Numbers.{trailer_words}
use Rattle.grammar.specs.Tree.{Sheet}
use Rattle.grammar.specs.Words.{words}
use Rattle.grammar.specs.Stands.{Stands}
use Rattle.grammar.specs.Encode.{encode, encode_rules}

-- Its rules end at the one place, and its preserved ids at the other, where its trailer begins.
pub record Held (bs : List ℕ) (t : Sheet) (end to : ℕ) : Type 0 where
  pub stands : Stands (words bs) (to + trailer_words) (encode t) 0 (to + trailer_words)
  pub ends : end ≡ length (encode_rules t.rules)
  pub up_to : to ≡ end + length t.preserved
  pub room : 4 * (to + trailer_words) ≤ length bs
