-- The words of a tree: the records of SPECIFICATION 2.7, written from left to right.
use Rattle.std.specs.Prelude.{ℕ, zero, suc, ◌+◌, ◌*◌, List, [], ◌∷◌, ◌++◌, length}
use Rattle.grammar.specs.Lists.{each, only}
use Rattle.grammar.specs.Form.{Form, newest}
use Rattle.grammar.specs.Numbers.{epsilon_kind, action_kind, predicate_kind, call_kind, token_kind, terminal_kind, end_kind, block_kind}
use Rattle.grammar.specs.Numbers.{kind_end}
use Rattle.grammar.specs.Tree.{OptionDecl, Reference, Label, unlabelled, labelled, ElementHead, Leaf, epsilon, action, predicate}
use Rattle.grammar.specs.Tree.{call, token, terminal, end_of_input, Element, leaf, block, AlternativeOf, Block, RuleOf, Rule, body_depth}
use Rattle.grammar.specs.Tree.{Counters, Sheet}

abbrev pub encode_option : OptionDecl → List ℕ
encode_option o = o.name ∷ o.value ∷ []

abbrev pub encode_reference : Reference → List ℕ
encode_reference r = r.kind ∷ r.name ∷ []

abbrev pub label_id : Label → ℕ
label_id unlabelled = 0
label_id (labelled i n) = i

abbrev pub label_name : Label → ℕ
label_name unlabelled = 0
label_name (labelled i n) = n

-- The fixed words of an element, its kind packed with its quantifier, and its options.
unfoldable pub encode_head : ElementHead → ℕ → List ℕ
encode_head h kind =
    h.id
    ∷ h.carried
    ∷ (kind + kind_end * h.quantifier)
    ∷ label_id h.label
    ∷ label_name h.label
    ∷ length h.options
    ∷ each encode_option h.options

unfoldable pub leaf_kind : Leaf → ℕ
leaf_kind epsilon = epsilon_kind
leaf_kind (action a) = action_kind
leaf_kind (predicate p) = predicate_kind
leaf_kind (call c) = call_kind
leaf_kind (token n) = token_kind
leaf_kind terminal = terminal_kind
leaf_kind end_of_input = end_kind

-- A call has a third word where the form has precedences.
unfoldable pub encode_leaf_in : Form → Leaf → List ℕ
encode_leaf_in f epsilon = []
encode_leaf_in f (action a) = a.id ∷ length a.references ∷ each encode_reference a.references
encode_leaf_in f (predicate p) = p.id ∷ length p.references ∷ each encode_reference p.references
encode_leaf_in f (call c) = c.name ∷ c.arguments ∷ only f.precedences c.precedence
encode_leaf_in f (token n) = n ∷ []
encode_leaf_in f terminal = []
encode_leaf_in f end_of_input = []

module _ (f : Form) {B : Type 0} (enc : B → List ℕ) where
  unfoldable pub encode_element_in : Element B → List ℕ
  encode_element_in (leaf h l) = encode_head h (leaf_kind l) ++ encode_leaf_in f l
  encode_element_in (block h b) = encode_head h block_kind ++ enc b

  unfoldable pub encode_alternative_in : AlternativeOf B → List ℕ
  encode_alternative_in a =
      a.id
      ∷ a.carried
      ∷ a.flag
      ∷ length a.options
      ∷ length a.elements
      ∷ each encode_option a.options ++ each encode_element_in a.elements

unfoldable pub encode_rule : {B : Type 0} → (B → List ℕ) → RuleOf B → List ℕ
encode_rule enc r = r.id ∷ r.name ∷ r.flags ∷ enc r.body

-- The count and the alternatives of a block, or of a rule's body.
unfoldable pub encode_block_in : Form → (d : ℕ) → Block d → List ℕ
encode_block_in f zero b = absurd b
encode_block_in f (suc d) as' = length as' ∷ each (encode_alternative_in f (encode_block_in f d)) as'

abbrev pub encode_rules_in : Form → List Rule → List ℕ
encode_rules_in f = each (encode_rule (encode_block_in f body_depth))

abbrev pub encode_counters : Counters → List ℕ
encode_counters c = c.alternative ∷ c.element ∷ c.label ∷ c.action ∷ c.predicate ∷ []

-- Rules, preserved ids, and the trailer with its two distances back.
unfoldable pub encode_in : Form → Sheet → List ℕ
encode_in f s =
    let body = encode_rules_in f s.rules ++ s.preserved in
    body ++ (s.kind ∷ length body ∷ length s.preserved ∷ encode_counters s.counters)

-- In the newest form.
abbrev pub encode_leaf : Leaf → List ℕ
encode_leaf = encode_leaf_in newest

abbrev pub encode_element : {B : Type 0} → (B → List ℕ) → Element B → List ℕ
encode_element = encode_element_in newest

abbrev pub encode_alternative : {B : Type 0} → (B → List ℕ) → AlternativeOf B → List ℕ
encode_alternative = encode_alternative_in newest

abbrev pub encode_block : (d : ℕ) → Block d → List ℕ
encode_block = encode_block_in newest

abbrev pub encode_rules : List Rule → List ℕ
encode_rules = encode_rules_in newest

abbrev pub encode : Sheet → List ℕ
encode = encode_in newest
