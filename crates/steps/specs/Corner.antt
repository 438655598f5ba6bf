-- The corner of a planned alternative, by the places of rules: `planned_corner` of the definition, by their ids.
use Rattle.std.specs.Prelude.{ℕ, ◌+◌, ◌/◌, ◌<◌, ◌≡◌, List, ◌∷◌, Bool, true, false, ◌&&◌, get_or, eqb, Option, None, Some, IfSome}
use Rattle.std.proofs.Math.Option.{none, some}
use Rattle.grammar.specs.Numbers.{once, optional_greedy, kind_end}
use Rattle.grammar.specs.Tree.{ElementHead, Call, Element, leaf, call, Block}
use Rattle.grammar.specs.Lists.{member}
use Rattle.grammar.specs.Found.{ElementSpans}
use Rattle.reference.specs.Walks.{bare_reference}
use Rattle.reference.specs.Analysis.{Grammar, target}
use Rattle.reference.specs.Substitute.{PlannedCorner, optional, satellite, blocked, settled, further, planned_corner}
use Rattle.reach.specs.Rows.{bit}
use Rattle.analysis.specs.Names.{At, Nowhere}
use Rattle.planned.specs.Layout.{made_if, meaning}
use Rattle.planned.specs.declared.list.Listed.{Listed}
use Rattle.steps.specs.declared.cycle.Cycle.{Cycle}
use Rattle.steps.specs.declared.corner.Place.{Place}
use Rattle.steps.specs.declared.corner.Corner.{Corner}
use Rattle.steps.specs.declared.corner.Corner.TheVariants.{Settled, Blocked, Optional, Satellite}

-- An index of n elements, and a member of the cycle.
pub record MemberIn (c : Cycle) (n : ℕ) (p : Place) : Type 0 where
  pub index : p.index < n
  pub rule : p.target < c.names.n
  pub member : bit c.members p.target ≡ true

-- A corner by places as one by ids.
abbrev pub corner_by : (ids : List ℕ) → Corner → PlannedCorner
corner_by ids Settled = settled
corner_by ids Blocked = blocked
corner_by ids (Optional p) = optional p.index (get_or ids p.target 0)
corner_by ids (Satellite p) = satellite p.index (get_or ids p.target 0)

-- Index and place are in range, and a member is met.
abbrev pub CornerIn : Cycle → ℕ → Corner → Type 0
CornerIn c n Settled = Unit {0}
CornerIn c n Blocked = Unit {0}
CornerIn c n (Optional p) = MemberIn c n p
CornerIn c n (Satellite p) = MemberIn c n p × (p.target ≡ c.hub → ⊥)

-- What a grammar, a cycle and its hub are by ids, they are here by places.
pub record CycleBy (g : Grammar) (cycle ids names : List ℕ) (c : Cycle) : Type 0 where
  pub unknown : (m : ℕ) → Nowhere names c.names.n m → target g m ≡ none
  pub known : (m t : ℕ) → At names c.names.n m t → target g m ≡ some (get_or ids t 0)
  pub members : (t : ℕ) → t < c.names.n → member (get_or ids t 0) cycle ≡ bit c.members t
  pub hub : (t : ℕ) → t < c.names.n → eqb (get_or ids t 0) (get_or ids c.hub 0) ≡ eqb t c.hub

-- A call's words say that it is bare; an element's word and mark say its quantifier.
abbrev pub bare_at : List ℕ → ℕ → ℕ → Bool
bare_at ws at payload = eqb (get_or ws (at + 4) 0) 0 && (eqb (get_or ws (payload + 1) 0) 0 && eqb (get_or ws (at + 5) 0) 0)

abbrev pub quantifier_at : List ℕ → ℕ → Bool → ℕ
quantifier_at ws at made = elim made [ true ↦ once | false ↦ get_or ws (at + 2) 0 / kind_end ]

-- What is met at an element, as the first of those that are looked at.
abbrev pub met_corner_by : (ids : List ℕ) → Corner → PlannedCorner
met_corner_by ids Settled = settled
met_corner_by ids Blocked = blocked
met_corner_by ids (Optional p) = optional 0 (get_or ids p.target 0)
met_corner_by ids (Satellite p) = satellite 0 (get_or ids p.target 0)

-- What is met, or nothing, in front of what comes behind it.
abbrev pub met_corner : (ids : List ℕ) → Option Corner → PlannedCorner → PlannedCorner
met_corner ids None k = further k
met_corner ids (Some r) k = met_corner_by ids r

-- A member at the element's index, where one is met.
abbrev pub MetIn : Cycle → ℕ → Corner → Type 0
MetIn c i Settled = Unit {0}
MetIn c i Blocked = Unit {0}
MetIn c i (Optional p) = (p.index ≡ i) × (p.target < c.names.n) × (bit c.members p.target ≡ true)
MetIn c i (Satellite p) = (p.index ≡ i) × (p.target < c.names.n) × (bit c.members p.target ≡ true) × (p.target ≡ c.hub → ⊥)

-- At a call of a member, by tests: whether it is optional, bare, once, and of the hub.
abbrev pub met_by : (is_optional bare is_once of_hub : Bool) → Place → Corner
met_by true true _ _ p = Optional p
met_by true false _ _ p = Blocked
met_by false bare false hub p = Blocked
met_by false bare true true p = Settled
met_by false true true false p = Satellite p
met_by false false true false p = Blocked

abbrev pub met_member : (bare : Bool) (quantifier : ℕ) → Place → (hub : ℕ) → Corner
met_member bare quantifier p hub = met_by (eqb quantifier optional_greedy) bare (eqb quantifier once) (eqb p.target hub) p

module _ (names : List ℕ) (c : Cycle) where
  -- At a call of a name, whose element has an index.
  pub record CallMet (index name : ℕ) (bare : Bool) (quantifier : ℕ) (r : Corner) : Type 0 where
    pub is : (g : Grammar) (cycle ids : List ℕ) → CycleBy g cycle ids names c → (d : ℕ) (h : ElementHead) (k : Call) → k.name ≡ name
        → h.quantifier ≡ quantifier → bare_reference h k ≡ bare → (es : List (Element (Block d)))
        → planned_corner g cycle (get_or ids c.hub 0) (leaf h (call k) ∷ es)
        ≡ met_corner_by ids r
    pub member : MetIn c index r

  module _ (ws : List ℕ) (end d : ℕ) where
    -- At an element of the list, at an index.
    pub record ItemMet (index at : ℕ) (made : Bool) (r : Option Corner) : Type 0 where
      pub is : (g : Grammar) (cycle ids : List ℕ) → CycleBy g cycle ids names c → (e : Element (Block d)) (q : ℕ)
          → ElementSpans ws end d at e q → (es : List (Element (Block d)))
          → planned_corner g cycle (get_or ids c.hub 0) (made_if made e ∷ es)
          ≡ met_corner ids r (planned_corner g cycle (get_or ids c.hub 0) es)
      pub member : IfSome r (MetIn c index)

    -- The corner of an alternative that is listed.
    pub record CornerAt (bs : List ℕ) (x : Listed) (r : Corner) : Type 0 where
      pub is : (g : Grammar) (cycle ids : List ℕ) → CycleBy g cycle ids names c
          → planned_corner g cycle (get_or ids c.hub 0) (meaning ws end d bs x).elements ≡ corner_by ids r
      pub within : CornerIn c x.ne r
