-- The listing (SPECIFICATION 16.2): the text of the answer to a sheet.
use Rattle.std.specs.Prelude.{ℕ, zero, suc, List, [], ◌∷◌, ◌++◌, length}
use Rattle.grammar.specs.Numbers.{block_kind}
use Rattle.grammar.specs.Lists.{each}
use Rattle.grammar.specs.Corners.{Corners}
use Rattle.grammar.specs.Tree.{ElementHead, Leaf, epsilon, action, predicate, call, token, terminal, end_of_input, Element, leaf, block}
use Rattle.grammar.specs.Tree.{AlternativeOf, Block, Rule, body_depth, Sheet}
use Rattle.grammar.specs.Encode.{leaf_kind}
use Rattle.grammar.specs.Reading.{Reading, refused, sheet, read}
use Rattle.reference.specs.Substitute.{Limits}
use Rattle.reference.specs.Apply.{Entry}
use Rattle.reference.specs.Run.{Run, ended, stopped, eliminate_mutual_left_recursion, sheet_after, steps_of, entries_of, encode_entry}
use Rattle.listed.specs.Text.{line}

-- The words that lines begin with: ok, refused, r, a, e, t.
abbrev pub ok_word : List ℕ
ok_word = 111 ∷ 107 ∷ []

abbrev pub refused_word : List ℕ
refused_word = 114 ∷ 101 ∷ 102 ∷ 117 ∷ 115 ∷ 101 ∷ 100 ∷ []

abbrev pub rule_word : List ℕ
rule_word = 114 ∷ []

abbrev pub alternative_word : List ℕ
alternative_word = 97 ∷ []

abbrev pub element_word : List ℕ
element_word = 101 ∷ []

abbrev pub entry_word : List ℕ
entry_word = 116 ∷ []

-- The name of a call or a token, else 0.
unfoldable pub leaf_name : Leaf → ℕ
leaf_name epsilon = 0
leaf_name (action a) = 0
leaf_name (predicate p) = 0
leaf_name (call c) = c.name
leaf_name (token n) = n
leaf_name terminal = 0
leaf_name end_of_input = 0

-- One element's own line; the level is how many blocks it is in.
abbrev pub element_line : (level : ℕ) → ElementHead → (kind name : ℕ) → List ℕ
element_line level h kind name = line element_word (level ∷ h.id ∷ kind ∷ h.quantifier ∷ name ∷ [])

abbrev pub alternative_line : (level id : ℕ) → List ℕ
alternative_line level id = line alternative_word (level ∷ id ∷ [])

abbrev pub rule_line : (id name : ℕ) → List ℕ
rule_line id name = line rule_word (id ∷ name ∷ [])

module _ {B : Type 0} (lines : (level : ℕ) → B → List ℕ) where
  unfoldable pub element_lines : (level : ℕ) → Element B → List ℕ
  element_lines level (leaf h l) = element_line level h (leaf_kind l) (leaf_name l)
  element_lines level (block h b) = element_line level h block_kind 0 ++ lines (suc level) b

  unfoldable pub alternative_lines : (level : ℕ) → AlternativeOf B → List ℕ
  alternative_lines level a = alternative_line level a.id ++ each (element_lines level) a.elements

unfoldable pub block_lines : (d level : ℕ) → Block d → List ℕ
block_lines zero level b = absurd b
block_lines (suc d) level as' = each (alternative_lines (block_lines d) level) as'

-- A rule with all that is in it.
unfoldable pub rule_lines : Rule → List ℕ
rule_lines r = rule_line r.id r.name ++ block_lines body_depth 0 r.body

unfoldable pub entry_line : Entry → List ℕ
entry_line e = line entry_word (encode_entry e)

-- The listing of a refusal.
unfoldable pub listed_refusal : (number : ℕ) → List ℕ
listed_refusal n = line refused_word (n ∷ [])

-- The listing of rules and entries, with the numbers of plans and steps.
unfoldable pub listed_rules : (plans steps : ℕ) → List Rule → List Entry → List ℕ
listed_rules plans steps rs es = line ok_word (plans ∷ steps ∷ []) ++ (each rule_lines rs ++ each entry_line es)

unfoldable pub listed_run : Sheet → Run → List ℕ
listed_run s (stopped ss n) = listed_refusal n
listed_run s (ended ss) = listed_rules (length ss) (steps_of ss) (sheet_after s ss).rules (entries_of ss)

module _ (limits : Limits) (corners : Corners) where
  unfoldable pub listed_reading : Reading → List ℕ
  listed_reading (refused n) = listed_refusal n
  listed_reading (sheet s) = listed_run s (eliminate_mutual_left_recursion limits corners s)

  -- The whole text, of a sheet's bytes.
  unfoldable pub listed : List ℕ → List ℕ
  listed bs = listed_reading (read bs)
