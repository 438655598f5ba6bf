-- Names up to a number (SPECIFICATION 1.18, 2.15, 4.4): the test of a tree with another test of a name.
use Rattle.std.specs.Prelude.{ℕ, zero, suc, ◌≤◌, ◌≡◌, List, Bool, true, ◌&&◌, length, leb}
use Rattle.grammar.specs.Numbers.{rule_limit, most_name, one_or_more_nongreedy, non_local, most_rule_flags, most_alternative_flag}
use Rattle.grammar.specs.Lists.{all, rising}
use Rattle.grammar.specs.Form.{newest}
use Rattle.grammar.specs.Tree.{OptionDecl, Reference, Label, unlabelled, labelled, ElementHead, Leaf, epsilon, action, predicate, call}
use Rattle.grammar.specs.Tree.{token, terminal, end_of_input, Element, leaf, block, AlternativeOf, Block, RuleOf, Rule, body_depth, Sheet}
use Rattle.grammar.specs.Valid.{is_kind, has_place, valid}
use Rattle.grammar.specs.Ids.{is_distinct, is_below}
use Rattle.laws.specs.Demands.Marks.{names_in}

-- `Valid`, with a test of a name in place of `is_name`.
module _ (name : ℕ → Bool) where
  abbrev pub ok_option_by : OptionDecl → Bool
  ok_option_by o = name o.name

  abbrev pub ok_reference_by : Reference → Bool
  ok_reference_by r = leb r.kind non_local && name r.name

  abbrev pub ok_label_by : Label → Bool
  ok_label_by unlabelled = true
  ok_label_by (labelled i n) = name n

  abbrev pub ok_head_by : ElementHead → Bool
  ok_head_by h = leb h.quantifier one_or_more_nongreedy && (ok_label_by h.label && all ok_option_by h.options)

  abbrev pub ok_leaf_by : Leaf → Bool
  ok_leaf_by epsilon = true
  ok_leaf_by (action a) = all ok_reference_by a.references
  ok_leaf_by (predicate p) = all ok_reference_by p.references
  ok_leaf_by (call c) = has_place newest c && name c.name
  ok_leaf_by (token n) = name n
  ok_leaf_by terminal = true
  ok_leaf_by end_of_input = true

  module _ {B : Type 0} (ok : B → Bool) where
    abbrev pub ok_element_by : Element B → Bool
    ok_element_by (leaf h l) = ok_head_by h && ok_leaf_by l
    ok_element_by (block h b) = ok_head_by h && ok b

    abbrev pub ok_alternative_by : AlternativeOf B → Bool
    ok_alternative_by a = leb a.flag most_alternative_flag && (all ok_option_by a.options && all ok_element_by a.elements)

    abbrev pub ok_rule_by : RuleOf B → Bool
    ok_rule_by r = name r.name && (leb r.flags most_rule_flags && ok r.body)

  unfoldable pub ok_block_by : (d : ℕ) → Block d → Bool
  ok_block_by zero b = absurd b
  ok_block_by (suc d) as' = all (ok_alternative_by (ok_block_by d)) as'

  abbrev pub ok_rules_by : List Rule → Bool
  ok_rules_by rs = leb (length rs) rule_limit && all (ok_rule_by (ok_block_by body_depth)) rs

  abbrev pub valid_by : Sheet → Bool
  valid_by s =
      is_kind s.kind
      && ((ok_rules_by s.rules && rising s.preserved) && (is_distinct s.rules && is_below s.counters s.rules))

abbrev pub up_to : ℕ → ℕ → Bool
up_to m n = leb 1 n && leb n m

-- What is valid with names up to a number is what is valid and has no name above it.
pub record NamesFitted : Type 0 where
  pub fitted : (m : ℕ) → m ≤ most_name → (s : Sheet) → valid_by (up_to m) s ≡ (valid s && all (λ n. leb n m) (names_in s))
