-- The words behind the rules of a sheet: its preserved ids, and its trailer.
use Rattle.std.specs.Prelude.{◌≡◌, ℕ, List, ◌∷◌, ◌++◌, length}
use Rattle.std.proofs.Common.{append_assoc}
use Rattle.grammar.specs.Tree.{Sheet}
use Rattle.grammar.specs.Form.{Form, newest}
use Rattle.grammar.specs.Encode.{encode_in, encode_rules_in, encode_counters}

-- The words behind the preserved ids.
unfoldable pub trailing_in : Form → Sheet → List ℕ
trailing_in f s = s.kind ∷ length (encode_rules_in f s.rules ++ s.preserved) ∷ length s.preserved ∷ encode_counters s.counters

pub encode_split : (form : Form) (s : Sheet) → encode_in form s ≡ encode_rules_in form s.rules ++ (s.preserved ++ trailing_in form s)
unfolding encode_in trailing_in
encode_split form s = append_assoc (encode_rules_in form s.rules) s.preserved _

-- In the newest form.
abbrev pub trailing : Sheet → List ℕ
trailing = trailing_in newest
