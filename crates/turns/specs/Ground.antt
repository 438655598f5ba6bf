-- What a substitution rests on: rules that stand in a sheet, a cycle among them, its hub; the other members can be inlined.
use Rattle.std.specs.Prelude.{ℕ, ◌<◌, ◌≤◌, ◌≡◌, List, true, get_or}
use Rattle.grammar.specs.Numbers.{most_words}
use Rattle.grammar.specs.Tree.{inner_depth, body_depth}
use Rattle.reference.specs.Analysis.{nullable_rules}
use Rattle.reference.specs.Substitute.{Limits}
use Rattle.reference.specs.Plan.{satellite_is_inlinable}
use Rattle.records.specs.declared.rules.Rules.{Rules}
use Rattle.reach.specs.Rows.{bit, RowOf}
use Rattle.analysis.specs.Facts.{Standing, Among}
use Rattle.hub.specs.Grounds.{rules_of, grammar_at, IsCycle}
use Rattle.turns.specs.Turns.{Task}
use Rattle.steps.specs.declared.cycle.Cycle.{Cycle}

pub record Ground (ws : List ℕ) (end : ℕ) (names places : List ℕ) (c : Cycle) : Type 0 where
  pub rules : Rules
  pub standing : Standing ws end rules
  pub named : rules.names ≡ names
  pub placed : rules.places ≡ places
  pub small : end ≤ most_words
  pub count : c.names.n ≡ rules.n
  pub hub : c.hub < rules.n
  pub nullable : List ℕ
  pub empty : RowOf rules.ids rules.n (nullable_rules body_depth (rules_of ws end rules standing)) nullable
  pub cycle : List ℕ
  pub is_cycle : IsCycle ws end rules standing cycle c.members
  pub inlinable : (i : ℕ) (a : Among (rules_of ws end rules standing) i) → bit c.members i ≡ true → (i ≡ c.hub → ⊥)
      → satellite_is_inlinable inner_depth a.rule ≡ true

-- By ids, as the definition has it.
abbrev pub task_of : {ws : List ℕ} {end : ℕ} {names places : List ℕ} {c : Cycle} → Ground ws end names places c → Limits → Task inner_depth
task_of {ws} {end} {c = c} b limits =
    record {
      rules = rules_of ws end b.rules b.standing;
      grammar = grammar_at ws end b.rules b.standing;
      cycle = b.cycle;
      hub = get_or b.rules.ids c.hub 0;
      limits = limits;
    }
