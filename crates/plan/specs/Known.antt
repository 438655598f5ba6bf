-- What is known when a cycle is decided on: the rules with their facts, the preserved rules, the cycle; then its hub.
use Rattle.std.specs.Prelude.{ℕ, ◌<◌, ◌≡◌, List, true, get_or}
use Rattle.grammar.specs.Tree.{Rule, inner_depth}
use Rattle.grammar.specs.Lists.{all}
use Rattle.grammar.specs.Corners.{Corners}
use Rattle.reference.specs.Analysis.{Grammar}
use Rattle.reference.specs.Plan.{satellite_is_inlinable, satellites}
use Rattle.records.specs.declared.rules.Rules.{Rules}
use Rattle.reach.specs.Rows.{RowOf}
use Rattle.analysis.specs.declared.rounds.Marks.{Marks}
use Rattle.hub.specs.Grounds.{Known, rules_of, grammar_at, IsCycle}

module _ (ws : List ℕ) (end : ℕ) (rules : Rules) (reading : Corners) (calls : List (List ℕ)) (marks : Marks) (kept members : List ℕ) where
  -- A cycle among rules that stand in a sheet, of which all is known by a reading of left corners.
  pub record CycleKnown : Type 0 where
    pub corners : List (List ℕ)
    pub known : Known ws end rules reading calls corners marks
    pub cycle : List ℕ
    pub is_cycle : IsCycle ws end rules known.standing cycle members
    pub preserved : List ℕ
    pub keeps : RowOf rules.ids rules.n preserved kept

-- By ids, as the definition has them.
module _ {ws : List ℕ} {end : ℕ} {rules : Rules} {reading : Corners} {calls : List (List ℕ)} {marks : Marks} {kept members : List ℕ}
    (x : CycleKnown ws end rules reading calls marks kept members) where
  abbrev pub known_rules : List Rule
  known_rules = rules_of ws end rules x.known.standing

  abbrev pub known_grammar : Grammar
  known_grammar = grammar_at ws end rules x.known.standing

-- With a hub, and the other members can be inlined.
pub record HubKnown (ws : List ℕ) (end : ℕ) (rules : Rules) (reading : Corners) (calls : List (List ℕ)) (marks : Marks)
    (kept members : List ℕ) (hub : ℕ) : Type 0 where
  pub known : CycleKnown ws end rules reading calls marks kept members
  pub low : hub < rules.n
  pub inlinable : all (satellite_is_inlinable inner_depth)
      (satellites inner_depth (known_rules known) known.cycle (get_or rules.ids hub 0))
      ≡ true
