-- Whether a cycle's satellites can be inlined, against the definition (SPECIFICATION 7.5).
use Rattle.std.specs.Prelude.{ℕ, ◌<◌, ◌≡◌, List, Bool, get_or}
use Rattle.grammar.specs.Tree.{inner_depth}
use Rattle.grammar.specs.Lists.{all}
use Rattle.grammar.specs.Corners.{Corners}
use Rattle.reference.specs.Plan.{satellite_is_inlinable, satellites}
use Rattle.records.specs.declared.rules.Rules.{Rules}
use Rattle.analysis.specs.declared.rounds.Marks.{Marks}
use Rattle.hub.specs.Grounds.{Known, rules_of, IsCycle}

-- All but the hub can, for any cycle that the rows have.
pub record AllInlinable (stops members : List ℕ) (hub : ℕ) (r : Bool) : Type 0 where
  pub is : (ws : List ℕ) (end : ℕ) (rules : Rules) (reading : Corners) (calls corners : List (List ℕ)) (m : Marks)
      (k : Known ws end rules reading calls corners m) → m.stops ≡ stops
      → (cycle : List ℕ) → IsCycle ws end rules k.standing cycle members → hub < rules.n
      → r
      ≡ all (satellite_is_inlinable inner_depth)
      (satellites inner_depth (rules_of ws end rules k.standing) cycle (get_or rules.ids hub 0))
