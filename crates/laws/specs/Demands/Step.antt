-- What is promised of one step of a substitution: which alternative it replaces, and by what (SPECIFICATION 8.1 to 8.9).
use Rattle.std.specs.Prelude.{ℕ, suc, ◌≡◌, true, false, length}
use mathlib.Core.List.{List, [], ◌∷◌, ◌++◌, map, Memᴰ}
use Rattle.std.proofs.Math.Option.{some, none}
use Rattle.grammar.specs.Lists.{AllOf, member}
use Rattle.grammar.specs.Numbers.{once, optional_greedy}
use Rattle.grammar.specs.Tree.{OptionDecl, ElementHead, Call, call, Element, leaf, AlternativeOf, Block, RuleOf, with_quantifier}
use Rattle.reference.specs.Walks.{is_epsilon_only}
use Rattle.reference.specs.Analysis.{Grammar, target}
use Rattle.reference.specs.Substitute.{decided, PlannedAlternative, Planned, Elements, step}
use Rattle.reference.specs.Plan.{as_they_are}

-- A call of a member of the cycle, with nothing in front but actions, predicates and epsilons.
pub record CornerAt {B : Type 0} (g : Grammar) (cycle : List ℕ) (es : List (Element B)) (i t : ℕ) : Type 0 where
  pub front : List (Element B)
  pub head : ElementHead
  pub site : Call
  pub rest : List (Element B)
  pub whole : front ++ (leaf head (call site) ∷ rest) ≡ es
  pub place : length front ≡ i
  pub silent : AllOf (λ e. is_epsilon_only e ≡ true) front
  pub known : target g site.name ≡ some t
  pub in_cycle : member t cycle ≡ true

-- What is left to be done at an alternative (SPECIFICATION 8.2): it has such a call, and that is not the hub's with quantifier 0.
pub record Work {B : Type 0} (g : Grammar) (cycle : List ℕ) (hub : ℕ) (es : List (Element B)) : Type 0 where
  pub index : ℕ
  pub rule : ℕ
  pub corner : CornerAt g cycle es index rule
  pub unsettled : rule ≡ hub → corner.head.quantifier ≡ once → ⊥

-- No option of a list has a name.
abbrev pub Unnamed : ℕ → List OptionDecl → Type 0
Unnamed n os = (o : OptionDecl) → Memᴰ o os → o.name ≡ n → ⊥

-- Options joined by more (SPECIFICATION 8.8): one with a new name comes last; one whose name is there has the value of the
-- first of that name.
pub data JoinedOptions : List OptionDecl → List OptionDecl → List OptionDecl → Type 0 where
  no_more : {os : List OptionDecl} → JoinedOptions os [] os
  new_name : {os more ws : List OptionDecl} {o : OptionDecl} → Unnamed o.name os → JoinedOptions (os ++ (o ∷ [])) more ws
      → JoinedOptions os (o ∷ more) ws
  same_value : {os more ws : List OptionDecl} {o : OptionDecl} (front rest : List OptionDecl) (x : OptionDecl) → front ++ (x ∷ rest) ≡ os
      → Unnamed o.name front → x.name ≡ o.name → x.value ≡ o.value → JoinedOptions os more ws → JoinedOptions os (o ∷ more) ws

module _ (d : ℕ) where
  -- A new alternative in the slot of another.
  abbrev pub new_in : Planned d → List OptionDecl → ℕ → Elements d → Planned d
  new_in p os origin es = record { carried = p.carried; flag = p.flag; options = os; origin = origin; elements = es; verbatim = false }

  -- A satellite's alternatives between two parts of another (SPECIFICATION 8.5): one for each, in order, with the options of both.
  pub data Spliced (p : Planned d) (front rest : Elements d) : List (AlternativeOf (Block d)) → List (Planned d) → Type 0 where
    spliced_none : Spliced p front rest [] []
    spliced_one : {a : AlternativeOf (Block d)} {as' : List (AlternativeOf (Block d))} {qs : List (Planned d)} {os : List OptionDecl}
        → JoinedOptions p.options a.options os → Spliced p front rest as' qs
        → Spliced p front rest (a ∷ as') (new_in p os a.id (front ++ (a.elements ++ rest)) ∷ qs)

  module _ (rs : List (RuleOf (Block (suc d)))) (g : Grammar) (cycle : List ℕ) (hub : ℕ) where
    -- What takes the place of an alternative with work left (SPECIFICATION 8.4 and 8.5): of a call with quantifier 1 the
    -- alternative with the call made plain, then the one without it; of a plain call of a satellite its alternatives.
    pub data MadeFrom (p : Planned d) : List (Planned d) → Type 0 where
      split : {i t : ℕ} (x : CornerAt g cycle p.elements i t) → x.head.quantifier ≡ optional_greedy
          → MadeFrom p
          (new_in p p.options p.origin (x.front ++ (leaf (with_quantifier once x.head) (call x.site) ∷ x.rest))
          ∷ new_in p p.options p.origin (x.front ++ x.rest)
          ∷ [])
      splice : {i t : ℕ} (x : CornerAt g cycle p.elements i t) → x.head.quantifier ≡ once → (t ≡ hub → ⊥)
          → (r : RuleOf (Block (suc d))) → Memᴰ r rs → r.id ≡ t
          → {qs : List (Planned d)} → Spliced p x.front x.rest r.body qs → MadeFrom p qs

    abbrev pub NoWork : List (Planned d) → Type 0
    NoWork ps = (p : Planned d) → Memᴰ p ps → Work g cycle hub p.elements → ⊥

    -- A step replaces the first alternative with work left, in its slot.
    pub record FirstReplaced (ps qs : List (Planned d)) : Type 0 where
      pub front : List (Planned d)
      pub slot : Planned d
      pub rest : List (Planned d)
      pub whole : front ++ (slot ∷ rest) ≡ ps
      pub is_first : NoWork front
      pub made : List (Planned d)
      pub is_made : MadeFrom slot made
      pub result : front ++ (made ++ rest) ≡ qs

    -- There is none where no alternative has work left.
    pub record StepTold (ps : List (Planned d)) : Type 0 where
      pub replaces : (qs : List (Planned d)) → step d rs g cycle hub ps ≡ some (decided qs) → FirstReplaced ps qs
      pub ends : step d rs g cycle hub ps ≡ none → NoWork ps

-- The planned list starts as the hub's alternatives in their order, untouched (SPECIFICATION 8.1).
pub record StartTold {B : Type 0} (as' : List (AlternativeOf B)) : Type 0 where
  pub same : map (λ p. record { id = p.origin; carried = p.carried; flag = p.flag; options = p.options; elements = p.elements })
      (as_they_are as')
      ≡ as'
  pub untouched : (p : PlannedAlternative B) → Memᴰ p (as_they_are as') → p.verbatim ≡ true
