-- The listing of SPECIFICATION 15.20, byte for byte; that 15.1 has this result and this trail is proved with the starred grammars.
use Rattle.std.specs.Prelude.{ℕ, ◌≡◌, refl, List, [], ◌∷◌}
use Rattle.grammar.specs.Encode.{leaf_kind}
use Rattle.reference.specs.Run.{encode_entry}
use Rattle.reference.specs.Worked.{case1}
use Rattle.listed.specs.Text.{decimal_by, line}
use Rattle.listed.specs.Listed.{leaf_name, element_lines, alternative_lines, block_lines, rule_lines, entry_line, listed_rules}

abbrev pub text : List ℕ
text =
    111 ∷ 107 ∷ 32 ∷ 49 ∷ 32 ∷ 49 ∷ 10 ∷
    114 ∷ 32 ∷ 49 ∷ 32 ∷ 49 ∷ 10 ∷
    97 ∷ 32 ∷ 48 ∷ 32 ∷ 49 ∷ 51 ∷ 10 ∷
    101 ∷ 32 ∷ 48 ∷ 32 ∷ 50 ∷ 53 ∷ 32 ∷ 51 ∷ 32 ∷ 48 ∷ 32 ∷ 49 ∷ 10 ∷
    101 ∷ 32 ∷ 48 ∷ 32 ∷ 50 ∷ 54 ∷ 32 ∷ 52 ∷ 32 ∷ 48 ∷ 32 ∷ 52 ∷ 10 ∷
    101 ∷ 32 ∷ 48 ∷ 32 ∷ 50 ∷ 55 ∷ 32 ∷ 51 ∷ 32 ∷ 48 ∷ 32 ∷ 49 ∷ 10 ∷
    97 ∷ 32 ∷ 48 ∷ 32 ∷ 49 ∷ 49 ∷ 10 ∷
    101 ∷ 32 ∷ 48 ∷ 32 ∷ 50 ∷ 49 ∷ 32 ∷ 52 ∷ 32 ∷ 48 ∷ 32 ∷ 51 ∷ 10 ∷
    116 ∷ 32 ∷ 50 ∷ 32 ∷ 49 ∷ 51 ∷ 32 ∷ 49 ∷ 32 ∷ 49 ∷ 50 ∷ 10 ∷
    116 ∷ 32 ∷ 51 ∷ 32 ∷ 50 ∷ 53 ∷ 32 ∷ 50 ∷ 32 ∷ 50 ∷ 50 ∷ 10 ∷
    116 ∷ 32 ∷ 51 ∷ 32 ∷ 50 ∷ 54 ∷ 32 ∷ 50 ∷ 32 ∷ 50 ∷ 51 ∷ 10 ∷
    116 ∷ 32 ∷ 51 ∷ 32 ∷ 50 ∷ 55 ∷ 32 ∷ 50 ∷ 32 ∷ 50 ∷ 52 ∷ 10 ∷
    116 ∷ 32 ∷ 49 ∷ 32 ∷ 49 ∷ 32 ∷ 49 ∷ 32 ∷ 49 ∷ 10 ∷
    []

pub example : listed_rules case1.plans case1.steps case1.result.rules case1.trail ≡ text
unfolding decimal_by line leaf_kind leaf_name element_lines alternative_lines block_lines rule_lines encode_entry entry_line listed_rules
example = refl
