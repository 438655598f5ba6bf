-- What refusals 4, 5 and 6 exclude (SPECIFICATION 4.4 to 4.6), as a test of a tree; and when a tree fits a sheet.
use Rattle.std.specs.Prelude.{ℕ, zero, suc, List, Bool, true, ◌&&◌, ◌||◌, length, leb, ltb, eqb}
pub use Rattle.grammar.specs.Numbers.{rule_limit}
use Rattle.grammar.specs.Numbers.{lexer, combined, one_or_more_nongreedy, non_local, most_rule_flags, most_alternative_flag, most_words}
use Rattle.grammar.specs.Numbers.{word_end}
use Rattle.grammar.specs.Lists.{all, rising}
use Rattle.grammar.specs.Form.{Form, newest}
use Rattle.grammar.specs.Tree.{OptionDecl, Reference, Label, unlabelled, labelled, ElementHead, Call, Leaf, epsilon, action, predicate}
use Rattle.grammar.specs.Tree.{call, token, terminal, end_of_input, Element, leaf, block, AlternativeOf, Block, RuleOf, Rule, body_depth}
use Rattle.grammar.specs.Tree.{Sheet}
use Rattle.grammar.specs.Encode.{encode_in}
use Rattle.grammar.specs.Read.{is_name}
use Rattle.grammar.specs.Ids.{is_distinct, is_below}

abbrev pub ok_option : OptionDecl → Bool
ok_option o = is_name o.name

abbrev pub ok_reference : Reference → Bool
ok_reference r = leb r.kind non_local && is_name r.name

unfoldable pub ok_label : Label → Bool
ok_label unlabelled = true
ok_label (labelled i n) = is_name n

unfoldable pub ok_head : ElementHead → Bool
ok_head h = leb h.quantifier one_or_more_nongreedy && (ok_label h.label && all ok_option h.options)

-- The form has a place for a call's precedence, or there is none.
abbrev pub has_place : Form → Call → Bool
has_place f c = f.precedences || eqb c.precedence 0

unfoldable pub ok_leaf_in : Form → Leaf → Bool
ok_leaf_in f epsilon = true
ok_leaf_in f (action a) = all ok_reference a.references
ok_leaf_in f (predicate p) = all ok_reference p.references
ok_leaf_in f (call c) = has_place f c && is_name c.name
ok_leaf_in f (token n) = is_name n
ok_leaf_in f terminal = true
ok_leaf_in f end_of_input = true

module _ (f : Form) {B : Type 0} (ok : B → Bool) where
  unfoldable pub ok_element_in : Element B → Bool
  ok_element_in (leaf h l) = ok_head h && ok_leaf_in f l
  ok_element_in (block h b) = ok_head h && ok b

  unfoldable pub ok_alternative_in : AlternativeOf B → Bool
  ok_alternative_in a = leb a.flag most_alternative_flag && (all ok_option a.options && all ok_element_in a.elements)

unfoldable pub ok_rule : {B : Type 0} → (B → Bool) → RuleOf B → Bool
ok_rule ok r = is_name r.name && (leb r.flags most_rule_flags && ok r.body)

unfoldable pub ok_block_in : Form → (d : ℕ) → Block d → Bool
ok_block_in f zero b = absurd b
ok_block_in f (suc d) as' = all (ok_alternative_in f (ok_block_in f d)) as'

-- Everything that refusal 4 excludes.
unfoldable pub ok_rules_in : Form → List Rule → Bool
ok_rules_in f rs = leb (length rs) rule_limit && all (ok_rule (ok_block_in f body_depth)) rs

abbrev pub is_kind : ℕ → Bool
is_kind k = leb lexer k && leb k combined

unfoldable pub valid_in : Form → Sheet → Bool
valid_in f s =
    is_kind s.kind
    && ((ok_rules_in f s.rules && rising s.preserved) && (is_distinct s.rules && is_below s.counters s.rules))

-- A sheet has so many words at most, each of 32 bits.
unfoldable pub fits_in : Form → Sheet → Bool
fits_in f s = leb (length (encode_in f s)) most_words && all (λ w. ltb w word_end) (encode_in f s)

-- In the newest form.
abbrev pub ok_leaf : Leaf → Bool
ok_leaf = ok_leaf_in newest

abbrev pub ok_element : {B : Type 0} → (B → Bool) → Element B → Bool
ok_element = ok_element_in newest

abbrev pub ok_alternative : {B : Type 0} → (B → Bool) → AlternativeOf B → Bool
ok_alternative = ok_alternative_in newest

abbrev pub ok_block : (d : ℕ) → Block d → Bool
ok_block = ok_block_in newest

abbrev pub ok_rules : List Rule → Bool
ok_rules = ok_rules_in newest

abbrev pub valid : Sheet → Bool
valid = valid_in newest

abbrev pub fits : Sheet → Bool
fits = fits_in newest
