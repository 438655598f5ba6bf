-- What stands in a sheet at the places of a cycle's rules.
use Rattle.std.specs.Prelude.{ℕ, ◌+◌, ◌<◌, ◌≤◌, ◌≡◌, List, true, length, get_or}
use Rattle.grammar.specs.Tree.{Rule, inner_depth, body_depth}
use Rattle.grammar.specs.Parse.{bad}
use Rattle.grammar.specs.Read.{block_at, rule_at}
use Rattle.grammar.specs.Found.{RuleSpans}
use Rattle.reference.specs.Plan.{satellite_is_inlinable}
use Rattle.reach.specs.Rows.{bit}
use Rattle.steps.specs.Step.{RuleNamed}
use Rattle.steps.specs.declared.cycle.Cycle.{Cycle}

-- A rule of a name stands at a place: a parser finds one there.
pub record RuleStands (ws : List ℕ) (end at name : ℕ) : Type 0 where
  pub room : at + 4 ≤ end
  pub found : rule_at ws end (block_at ws end body_depth) at ≡ bad → ⊥
  pub named : RuleNamed ws end inner_depth at name

-- So it is at the place of each of the rules; the hub is one of them, and the other members of the cycle can be inlined.
pub record RulesStand (ws : List ℕ) (end : ℕ) (places : List ℕ) (c : Cycle) : Type 0 where
  pub hub : c.hub < c.names.n
  pub long : c.names.n ≤ length places
  pub stands : (i : ℕ) → i < c.names.n → RuleStands ws end (get_or places i 0) (get_or c.names.list.now i 0)
  pub inlinable : (i : ℕ) → i < c.names.n → bit c.members i ≡ true → (i ≡ c.hub → ⊥) → (t : Rule) (q : ℕ)
      → RuleSpans ws end body_depth (get_or places i 0) t q → satellite_is_inlinable inner_depth t ≡ true
