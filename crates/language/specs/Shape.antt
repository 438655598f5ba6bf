-- What is left of a tree when derivation is asked for (SPECIFICATION 13): ids, labels, options,
-- flags and arguments are gone, and so is whether a quantifier is greedy.
use Rattle.std.specs.Prelude.{ℕ, zero, suc, List, [], ◌∷◌, map, Bool, true, false, leb, eqb}
use Rattle.std.proofs.Math.Option.{Option, none, some}
use Rattle.grammar.specs.Lists.{AllOf}
use Rattle.grammar.specs.Numbers.{once, optional_nongreedy, zero_or_more_nongreedy}
use Rattle.grammar.specs.Tree.{Leaf, epsilon, action, predicate, call, token, terminal, end_of_input, ElementHead, Element, leaf, block}
use Rattle.grammar.specs.Tree.{Block, RuleOf}

-- A symbol (SPECIFICATION 13.2): a token or an unknown call, by its name; a kind 5 element, by its carried number;
-- the end mark of kind 7, the same for all.
pub data Symbol : Type 0 where
  token_symbol : (name : ℕ) → Symbol
  unknown_symbol : (name : ℕ) → Symbol
  other_symbol : (carried : ℕ) → Symbol
  end_symbol : Symbol
  deriving IsSet as Symbol-set'

-- The end mark.
unfoldable pub is_mark : Symbol → Bool
is_mark (token_symbol n) = false
is_mark (unknown_symbol n) = false
is_mark (other_symbol c) = false
is_mark end_symbol = true

-- A token string.
abbrev pub Word : Type 0
Word = List Symbol

-- Whether the name of a call is a rule's is decided where the shape is read.
pub data Shape : Type 0 where
  eps : Shape
  fail : Shape
  symbol : Symbol → Shape
  call_of : (name : ℕ) → Shape
  seq : Shape → Shape → Shape
  alt : Shape → Shape → Shape
  opt : Shape → Shape
  star : Shape → Shape
  plus : Shape → Shape
  deriving IsSet as Shape-set'

-- One after the other.
abbrev pub seqs : List Shape → Shape
seqs [] = eps
seqs (s ∷ ss) = seq s (seqs ss)

-- One of several.
abbrev pub alts : List Shape → Shape
alts [] = fail
alts (s ∷ ss) = alt s (alts ss)

-- How often an element is taken, by its quantifier (SPECIFICATION 13.6).
unfoldable pub quantified : ℕ → Shape → Shape
quantified q s =
    elim (eqb q once) [
      | true ↦ s
      | false ↦
          elim (leb q optional_nongreedy) [
            | true ↦ opt s
            | false ↦ elim (leb q zero_or_more_nongreedy) [ true ↦ star s | false ↦ plus s ]
          ]
    ]

-- Of a leaf and its element's carried number.
unfoldable pub erase_leaf : ℕ → Leaf → Shape
erase_leaf c epsilon = eps
erase_leaf c (action a) = eps
erase_leaf c (predicate p) = eps
erase_leaf c (call k) = call_of k.name
erase_leaf c (token n) = symbol (token_symbol n)
erase_leaf c terminal = symbol (other_symbol c)
erase_leaf c end_of_input = symbol end_symbol

module _ {B : Type 0} (erase_b : B → Shape) where
  unfoldable pub erase_element : Element B → Shape
  erase_element (leaf h l) = quantified h.quantifier (erase_leaf h.carried l)
  erase_element (block h b) = quantified h.quantifier (erase_b b)

  abbrev pub erase_elements : List (Element B) → Shape
  erase_elements es = seqs (map erase_element es)

-- Of a block, or of a rule's body.
unfoldable pub erase_block : (d : ℕ) → Block d → Shape
erase_block zero b = absurd b
erase_block (suc d) as' = alts (map (λ a. erase_elements (erase_block d) a.elements) as')

-- A shape that can be looked up.
pub record NamedShape : Type 0 where
  pub name : ℕ
  pub body : Shape

-- A grammar, as far as derivation is concerned: each rule's name with its body.
abbrev pub Shapes : Type 0
Shapes = List NamedShape

-- The bodies of rules, each with a number of the rule's.
abbrev pub bodies_by : (d : ℕ) → (RuleOf (Block d) → ℕ) → List (RuleOf (Block d)) → Shapes
bodies_by d key rs = map (λ r. record { name = key r; body = erase_block d r.body }) rs

abbrev pub erase_rules : (d : ℕ) → List (RuleOf (Block d)) → Shapes
erase_rules d rs = bodies_by d (λ r. r.name) rs

-- The first body with a name; none where no rule has it.
unfoldable pub find : Shapes → ℕ → Option Shape
find [] n = none
find (r ∷ rs) n = elim (eqb r.name n) [ true ↦ some r.body | false ↦ find rs n ]

-- Every name called in a shape has the property P.
abbrev pub EachCall : (ℕ → Type 0) → Shape → Type 0
EachCall P eps = Unit {0}
EachCall P fail = Unit {0}
EachCall P (symbol a) = Unit {0}
EachCall P (call_of n) = P n
EachCall P (seq s t) = EachCall P s × EachCall P t
EachCall P (alt s t) = EachCall P s × EachCall P t
EachCall P (opt s) = EachCall P s
EachCall P (star s) = EachCall P s
EachCall P (plus s) = EachCall P s

-- A property of every leaf of a tree, with its element's head.
module _ (P : ElementHead → Leaf → Type 0) where
  abbrev pub OnElement : {B : Type 0} → (B → Type 0) → Element B → Type 0
  OnElement Q (leaf h l) = P h l
  OnElement Q (block h b) = Q b

  unfoldable pub OnBlock : (d : ℕ) → Block d → Type 0
  OnBlock zero b = Unit {0}
  OnBlock (suc d) as' = AllOf (λ a. AllOf (OnElement (OnBlock d)) a.elements) as'
