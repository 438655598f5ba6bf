-- What is told by places of the corners of alternatives, against the definition: for any grammar and cycle that the places
-- agree with (SPECIFICATION 7.1, 7.2).
use Rattle.std.specs.Prelude.{ℕ, ◌≤◌, ◌<◌, ◌≡◌, List, Bool, true, false, ◌&&◌, not, length, get_or}
use Rattle.std.proofs.Math.Option.{none, some}
use Rattle.grammar.specs.Tree.{Element, AlternativeOf, Block, Rule, body_depth}
use Rattle.grammar.specs.Stands.{Spans}
use Rattle.grammar.specs.Encode.{encode_element, encode_alternative, encode_block}
use Rattle.grammar.specs.Valid.{ok_element, ok_alternative, ok_block}
use Rattle.grammar.specs.Lists.{each, all, any, member}
use Rattle.grammar.specs.Found.{RuleSpans}
use Rattle.reference.specs.Analysis.{Grammar, target}
use Rattle.reference.specs.Plan.{corner_enters_cycle}
use Rattle.reach.specs.Rows.{bit}
use Rattle.analysis.specs.Names.{At, Nowhere}
use Rattle.hub.specs.declared.cycle.Cycle.{Cycle}

-- The rule at a place is the one that a name calls, and the bits are about its id.
pub record Callee (g : Grammar) (cycle : List ℕ) (c : Cycle) (m i : ℕ) : Type 0 where
  pub id : ℕ
  pub is : target g m ≡ some id
  pub inside : bit c.members i ≡ member id cycle
  pub empty : bit c.nullable i ≡ member id g.nullable

-- What is known by places is what a grammar says by ids.
pub record Tells (g : Grammar) (cycle : List ℕ) (c : Cycle) : Type 0 where
  pub unknown : (m : ℕ) → Nowhere c.names.list.now c.names.n m → target g m ≡ none
  pub rule : (m i : ℕ) → At c.names.list.now c.names.n m i → Callee g cycle c m i

-- Whether a call of a name in front is settled outside the cycle.
pub record NameSettles (c : Cycle) (m : ℕ) (r : Bool) : Type 0 where
  pub by : (g : Grammar) (cycle : List ℕ) → Tells g cycle c
      → r ≡ elim (target g m) [ none ↦ true | some t ↦ not (member t cycle) && not (member t g.nullable) ]

-- Whether an alternative is, by the definition.
abbrev pub is_settled : Grammar → List ℕ → {B : Type 0} → AlternativeOf B → Bool
is_settled g cycle a = not (corner_enters_cycle g cycle a.elements)

module _ (c : Cycle) (ws : List ℕ) (end : ℕ) where
  -- Whether the elements that stand at a place are.
  pub record Settles (d n at : ℕ) (r : Bool) : Type 0 where
    pub by : (g : Grammar) (cycle : List ℕ) → Tells g cycle c → (es : List (Element (Block d))) (q : ℕ)
        → Spans ws end (each (encode_element (encode_block d))) (all (ok_element (ok_block d))) at es q → length es ≡ n
        → r ≡ not (corner_enters_cycle g cycle es)

  -- Whether one of the alternatives that stand there is.
  pub record AnySettles (d n at : ℕ) (r : Bool) : Type 0 where
    pub by : (g : Grammar) (cycle : List ℕ) → Tells g cycle c → (as' : List (AlternativeOf (Block d))) (q : ℕ)
        → Spans ws end (each (encode_alternative (encode_block d))) (all (ok_alternative (ok_block d))) at as' q → length as' ≡ n
        → r ≡ any (is_settled g cycle) as'

  -- Whether the rule at a place, which is rule i, is a candidate.
  pub record IsCandidate (i at : ℕ) (r : Bool) : Type 0 where
    pub by : (g : Grammar) (cycle : List ℕ) → Tells g cycle c → (t : Rule) (q : ℕ) → RuleSpans ws end body_depth at t q
        → r ≡ (bit c.members i && any (is_settled g cycle) t.body)

  -- The candidates among the first i rules.
  pub record Candidates (places : List ℕ) (i : ℕ) (row : List ℕ) : Type 0 where
    pub each : (k : ℕ) → k < i → IsCandidate k (get_or places k 0) (bit row k)
    pub none : (k : ℕ) → i ≤ k → bit row k ≡ false
