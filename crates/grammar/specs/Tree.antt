-- The tree that a sheet holds (SPECIFICATION 2): every field of the sheet, and nothing else.
-- A tree is indexed by the depth that is left for blocks, so that ordinary lists serve at every level.
use Rattle.std.specs.Prelude.{ℕ, zero, suc, List}

-- An option of an alternative or of an element.
pub record OptionDecl : Type 0 where
  pub name : ℕ
  pub value : ℕ

-- What the supplied action parser finds in a body. Numbers has its kinds, as those of quantifiers, units and flags.
pub record Reference : Type 0 where
  pub kind : ℕ
  pub name : ℕ

-- An element's label; its id may be 0, its name may not.
pub data Label : Type 0 where
  unlabelled : Label
  labelled : (id name : ℕ) → Label

-- What every element has.
pub record ElementHead : Type 0 where
  pub id : ℕ
  pub carried : ℕ
  pub quantifier : ℕ
  pub label : Label
  pub options : List OptionDecl

-- An action, with what its body refers to.
pub record Action : Type 0 where
  pub id : ℕ
  pub references : List Reference

-- A semantic predicate, with what its body refers to.
pub record Predicate : Type 0 where
  pub id : ℕ
  pub references : List Reference

-- A call of a rule by its name. Arguments: 0 none, else the number that stands for them. Precedence: 0 none, else one more than it.
pub record Call : Type 0 where
  pub name : ℕ
  pub arguments : ℕ
  pub precedence : ℕ

-- The kinds of element that hold no alternatives. `terminal` is kind 5, any terminal but a token; `end_of_input` is kind 7.
pub data Leaf : Type 0 where
  epsilon : Leaf
  action : Action → Leaf
  predicate : Predicate → Leaf
  call : Call → Leaf
  token : (name : ℕ) → Leaf
  terminal : Leaf
  end_of_input : Leaf

pub data Element (B : Type 0) : Type 0 where
  leaf : ElementHead → Leaf → Element B
  block : ElementHead → B → Element B

-- An alternative over blocks of type B. Its flag is 1 where it is labelled.
pub record AlternativeOf (B : Type 0) : Type 0 where
  pub id : ℕ
  pub carried : ℕ
  pub flag : ℕ
  pub options : List OptionDecl
  pub elements : List (Element B)

-- A block whose own blocks nest less than d deep; at 0 there is none.
abbrev pub Block : ℕ → Type 0
Block zero = ⊥
Block (suc d) = List (AlternativeOf (Block d))

-- Flags (SPECIFICATION 2.8): 1 for arguments, 2 for what else stops inlining, 3 for both, 0 for neither.
pub record RuleOf (B : Type 0) : Type 0 where
  pub id : ℕ
  pub name : ℕ
  pub flags : ℕ
  pub body : B

-- The next free id of each sort; rules have none.
pub record Counters : Type 0 where
  pub alternative : ℕ
  pub element : ℕ
  pub label : ℕ
  pub action : ℕ
  pub predicate : ℕ

-- How deep blocks may nest in a rule's own alternative.
abbrev pub inner_depth : ℕ
inner_depth = 8

-- The depth of a rule's body.
abbrev pub body_depth : ℕ
body_depth = suc inner_depth

abbrev pub Rule : Type 0
Rule = RuleOf (Block body_depth)

abbrev pub Alternative : Type 0
Alternative = AlternativeOf (Block inner_depth)

-- A whole sheet.
pub record Sheet : Type 0 where
  pub kind : ℕ
  pub rules : List Rule
  pub preserved : List ℕ
  pub counters : Counters

-- The same node with one field changed.
abbrev pub with_action_id : ℕ → Action → Action
with_action_id i a = record { id = i; references = a.references }

abbrev pub with_predicate_id : ℕ → Predicate → Predicate
with_predicate_id i p = record { id = i; references = p.references }

abbrev pub with_head_id : ℕ → ElementHead → ElementHead
with_head_id i h = record { id = i; carried = h.carried; quantifier = h.quantifier; label = h.label; options = h.options }

abbrev pub with_label : Label → ElementHead → ElementHead
with_label l h = record { id = h.id; carried = h.carried; quantifier = h.quantifier; label = l; options = h.options }

abbrev pub with_quantifier : ℕ → ElementHead → ElementHead
with_quantifier q h = record { id = h.id; carried = h.carried; quantifier = q; label = h.label; options = h.options }

abbrev pub with_alternative_id : {B : Type 0} → ℕ → AlternativeOf B → AlternativeOf B
with_alternative_id i a = record { id = i; carried = a.carried; flag = a.flag; options = a.options; elements = a.elements }

abbrev pub with_elements : {B : Type 0} → List (Element B) → AlternativeOf B → AlternativeOf B
with_elements es a = record { id = a.id; carried = a.carried; flag = a.flag; options = a.options; elements = es }

abbrev pub with_rule_body : {B : Type 0} → B → RuleOf B → RuleOf B
with_rule_body b r = record { id = r.id; name = r.name; flags = r.flags; body = b }
