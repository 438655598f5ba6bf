-- A sheet with other names, other carried numbers and other precedences, those of each sort by one function; and the names that stand
-- in a sheet (SPECIFICATION 18).
use Rattle.std.specs.Prelude.{ℕ, zero, suc, List, [], ◌∷◌, ◌++◌, map}
use Rattle.grammar.specs.Lists.{each}
use Rattle.grammar.specs.Tree.{OptionDecl, Reference, Label, unlabelled, labelled, ElementHead, Call, Leaf, epsilon, action, predicate}
use Rattle.grammar.specs.Tree.{call, token, terminal, end_of_input, Element, leaf, block, AlternativeOf, Block, RuleOf, Rule, Sheet}
use Rattle.grammar.specs.Tree.{body_depth}
use Rattle.reference.specs.Walks.{label_names}

module _ (f r pr : ℕ → ℕ) where
  abbrev pub on_option : OptionDecl → OptionDecl
  on_option o = record { name = f o.name; value = o.value }

  abbrev pub on_reference : Reference → Reference
  on_reference o = record { kind = o.kind; name = f o.name }

  abbrev pub on_label : Label → Label
  on_label unlabelled = unlabelled
  on_label (labelled i n) = labelled i (f n)

  abbrev pub on_head : ElementHead → ElementHead
  on_head h =
      record {
        id = h.id;
        carried = r h.carried;
        quantifier = h.quantifier;
        label = on_label h.label;
        options = map on_option h.options;
      }

  abbrev pub on_call : Call → Call
  on_call c = record { name = f c.name; arguments = c.arguments; precedence = pr c.precedence }

  unfoldable pub on_leaf : Leaf → Leaf
  on_leaf epsilon = epsilon
  on_leaf (action a) = action (record { id = a.id; references = map on_reference a.references })
  on_leaf (predicate p) = predicate (record { id = p.id; references = map on_reference p.references })
  on_leaf (call c) = call (on_call c)
  on_leaf (token n) = token (f n)
  on_leaf terminal = terminal
  on_leaf end_of_input = end_of_input

  module _ {B : Type 0} (on_b : B → B) where
    unfoldable pub on_element : Element B → Element B
    on_element (leaf h l) = leaf (on_head h) (on_leaf l)
    on_element (block h b) = block (on_head h) (on_b b)

    abbrev pub on_alternative : AlternativeOf B → AlternativeOf B
    on_alternative a =
        record {
          id = a.id;
          carried = r a.carried;
          flag = a.flag;
          options = map on_option a.options;
          elements = map on_element a.elements;
        }

    abbrev pub on_rule : RuleOf B → RuleOf B
    on_rule q = record { id = q.id; name = f q.name; flags = q.flags; body = on_b q.body }

  unfoldable pub on_block : (d : ℕ) → Block d → Block d
  on_block zero b = absurd b
  on_block (suc d) as' = map (on_alternative (on_block d)) as'

  unfoldable pub on_sheet : Sheet → Sheet
  on_sheet s =
      record {
        kind = s.kind;
        rules = map (on_rule (on_block body_depth)) s.rules;
        preserved = s.preserved;
        counters = s.counters;
      }

-- The names in each part of a tree.
abbrev pub option_names : List OptionDecl → List ℕ
option_names = map λ o. o.name

abbrev pub head_names : ElementHead → List ℕ
head_names h = label_names h.label ++ option_names h.options

unfoldable pub names_of_leaf : Leaf → List ℕ
names_of_leaf epsilon = []
names_of_leaf (action a) = map (λ o. o.name) a.references
names_of_leaf (predicate p) = map (λ o. o.name) p.references
names_of_leaf (call c) = c.name ∷ []
names_of_leaf (token n) = n ∷ []
names_of_leaf terminal = []
names_of_leaf end_of_input = []

module _ {B : Type 0} (of_b : B → List ℕ) where
  unfoldable pub element_names : Element B → List ℕ
  element_names (leaf h l) = head_names h ++ names_of_leaf l
  element_names (block h b) = head_names h ++ of_b b

  abbrev pub alternative_names : AlternativeOf B → List ℕ
  alternative_names a = option_names a.options ++ each element_names a.elements

unfoldable pub block_names : (d : ℕ) → Block d → List ℕ
block_names zero b = absurd b
block_names (suc d) as' = each (alternative_names (block_names d)) as'

-- Every name of a sheet, of whatever sort.
unfoldable pub names_in : Sheet → List ℕ
names_in s = each (λ (q : Rule). q.name ∷ block_names body_depth q.body) s.rules
