-- How many words the entries of a trail have.
use Rattle.std.specs.Prelude.{◌≡◌, refl, ◌*◌, List, [], ◌∷◌, length}
use Rattle.std.proofs.Common.{arith}
use Rattle.grammar.specs.Lists.{each}
use Rattle.reference.specs.Numbers.{entry_words}
use Rattle.reference.specs.Apply.{Entry}
use Rattle.reference.specs.Run.{encode_entry}

pub entries_long : (es : List Entry) → length (each encode_entry es) ≡ entry_words * length es
unfolding encode_entry
entries_long [] = refl
entries_long (e ∷ es) = let h = entries_long es in omega arith
