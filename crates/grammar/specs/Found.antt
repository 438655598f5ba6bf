-- What a walk over a sheet rests on, and where it is: the tree that stands at a place.
use Rattle.std.specs.Prelude.{ℕ, ◌+◌, ◌*◌, ◌%◌, ◌≤◌, ◌≡◌, List, Bool, length, get_or}
use Rattle.grammar.specs.Numbers.{kind_end}
use Rattle.grammar.specs.Stands.{Spans}
use Rattle.grammar.specs.Tree.{Element, AlternativeOf, Block, RuleOf, Rule, body_depth}
use Rattle.grammar.specs.Form.{Form, newest}
use Rattle.grammar.specs.Encode.{encode_element_in, encode_alternative_in, encode_block_in, encode_rule}
use Rattle.grammar.specs.Lists.{each, all}
use Rattle.grammar.specs.Valid.{ok_element_in, ok_alternative_in, ok_block_in, ok_rule}

module _ (ws : List ℕ) (end : ℕ) {A : Type 0} (enc : A → List ℕ) (ok : A → Bool) where
  -- A good tree stands at a place.
  pub record Found (at : ℕ) : Type 0 where
    pub tree : A
    pub next : ℕ
    pub spans : Spans ws end enc ok at tree next

  -- n good trees stand there, one after the other.
  pub record FoundMany (n at : ℕ) : Type 0 where
    pub trees : List A
    pub next : ℕ
    pub spans : Spans ws end (each enc) (all ok) at trees next
    pub count : length trees ≡ n

module _ (f : Form) (ws : List ℕ) (end d : ℕ) where
  abbrev pub ElementSpansIn : ℕ → Element (Block d) → ℕ → Type 0
  ElementSpansIn = Spans ws end (encode_element_in f (encode_block_in f d)) (ok_element_in f (ok_block_in f d))

  abbrev pub AlternativeSpansIn : ℕ → AlternativeOf (Block d) → ℕ → Type 0
  AlternativeSpansIn = Spans ws end (encode_alternative_in f (encode_block_in f d)) (ok_alternative_in f (ok_block_in f d))

  abbrev pub RuleSpansIn : ℕ → RuleOf (Block d) → ℕ → Type 0
  RuleSpansIn = Spans ws end (encode_rule (encode_block_in f d)) (ok_rule (ok_block_in f d))

  abbrev pub FoundElementIn : ℕ → Type 0
  FoundElementIn = Found ws end (encode_element_in f (encode_block_in f d)) (ok_element_in f (ok_block_in f d))

  abbrev pub FoundElementsIn : ℕ → ℕ → Type 0
  FoundElementsIn = FoundMany ws end (encode_element_in f (encode_block_in f d)) (ok_element_in f (ok_block_in f d))

  abbrev pub FoundAlternativeIn : ℕ → Type 0
  FoundAlternativeIn = Found ws end (encode_alternative_in f (encode_block_in f d)) (ok_alternative_in f (ok_block_in f d))

  abbrev pub FoundAlternativesIn : ℕ → ℕ → Type 0
  FoundAlternativesIn = FoundMany ws end (encode_alternative_in f (encode_block_in f d)) (ok_alternative_in f (ok_block_in f d))

module _ (f : Form) (ws : List ℕ) (end : ℕ) where
  -- Rules that stand from a place up to a place.
  abbrev pub RulesSpanIn : ℕ → List Rule → ℕ → Type 0
  RulesSpanIn = Spans ws end (each (encode_rule (encode_block_in f body_depth))) (all (ok_rule (ok_block_in f body_depth)))

  abbrev pub FoundRuleIn : ℕ → Type 0
  FoundRuleIn = Found ws end (encode_rule (encode_block_in f body_depth)) (ok_rule (ok_block_in f body_depth))

  abbrev pub FoundRulesIn : ℕ → ℕ → Type 0
  FoundRulesIn = FoundMany ws end (encode_rule (encode_block_in f body_depth)) (ok_rule (ok_block_in f body_depth))

-- Where an element's payload begins, and its kind.
pub record HeadAt (ws : List ℕ) (end at kind payload : ℕ) : Type 0 where
  pub kind_is : kind ≡ get_or ws (at + 2) 0 % kind_end
  pub payload_is : payload ≡ at + 6 + 2 * get_or ws (at + 5) 0
  pub past : at + 6 ≤ payload
  pub within : payload ≤ end

-- Where an element that is no block ends.
pub record LeafEndIn (f : Form) (ws : List ℕ) (end d at payload r : ℕ) : Type 0 where
  pub past : payload ≤ r
  pub within : r ≤ end
  pub is : (e : Element (Block d)) (q : ℕ) → ElementSpansIn f ws end d at e q → r ≡ q

-- Where an alternative's elements begin, and how many there are.
pub record AlternativeAt (ws : List ℕ) (end at count first : ℕ) : Type 0 where
  pub count_is : count ≡ get_or ws (at + 4) 0
  pub first_is : first ≡ at + 5 + 2 * get_or ws (at + 3) 0
  pub past : at + 5 ≤ first
  pub within : first ≤ end

-- In the newest form.
module _ (ws : List ℕ) (end d : ℕ) where
  abbrev pub ElementSpans : ℕ → Element (Block d) → ℕ → Type 0
  ElementSpans = ElementSpansIn newest ws end d

  abbrev pub AlternativeSpans : ℕ → AlternativeOf (Block d) → ℕ → Type 0
  AlternativeSpans = AlternativeSpansIn newest ws end d

  abbrev pub RuleSpans : ℕ → RuleOf (Block d) → ℕ → Type 0
  RuleSpans = RuleSpansIn newest ws end d

  abbrev pub FoundElement : ℕ → Type 0
  FoundElement = FoundElementIn newest ws end d

  abbrev pub FoundElements : ℕ → ℕ → Type 0
  FoundElements = FoundElementsIn newest ws end d

  abbrev pub FoundAlternative : ℕ → Type 0
  FoundAlternative = FoundAlternativeIn newest ws end d

  abbrev pub FoundAlternatives : ℕ → ℕ → Type 0
  FoundAlternatives = FoundAlternativesIn newest ws end d

  abbrev pub LeafEnd : ℕ → ℕ → ℕ → Type 0
  LeafEnd = LeafEndIn newest ws end d

module _ (ws : List ℕ) (end : ℕ) where
  abbrev pub RulesSpan : ℕ → List Rule → ℕ → Type 0
  RulesSpan = RulesSpanIn newest ws end

  abbrev pub FoundRule : ℕ → Type 0
  FoundRule = FoundRuleIn newest ws end

  abbrev pub FoundRules : ℕ → ℕ → Type 0
  FoundRules = FoundRulesIn newest ws end
