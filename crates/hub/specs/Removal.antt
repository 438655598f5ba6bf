-- The satellites that may go when a plan is applied, against the definition (SPECIFICATION 9.6).
use Rattle.std.specs.Prelude.{ℕ, ◌<◌, ◌≡◌, true, length, get_or}
use mathlib.Core.List.{List, Memᴰ}
use Rattle.grammar.specs.Tree.{Rule, inner_depth}
use Rattle.grammar.specs.Lists.{each, member, rounds}
use Rattle.grammar.specs.Corners.{Corners}
use Rattle.reference.specs.Analysis.{Grammar, ids_of, collect_calls_in_elements}
use Rattle.reference.specs.Substitute.{Planned}
use Rattle.reference.specs.Plan.{removable_round, removable_satellites}
use Rattle.records.specs.declared.rules.Rules.{Rules}
use Rattle.reach.specs.Rows.{RowOf}
use Rattle.analysis.specs.declared.rounds.Marks.{Marks}
use Rattle.hub.specs.Grounds.{Known, rules_of, grammar_at, IsCycle}

-- The rules that a planned list calls.
abbrev pub planned_calls : Grammar → List (Planned inner_depth) → List ℕ
planned_calls g = each λ p. collect_calls_in_elements g inner_depth p.elements

-- Rules with a hub among them and a planned list for it, as rows of calls have them.
pub record Planning (calls : List (List ℕ)) (n : ℕ) (planned : List ℕ) (hub : ℕ) : Type 0 where
  pub ws : List ℕ
  pub end : ℕ
  pub rules : Rules
  pub reading : Corners
  pub corners : List (List ℕ)
  pub marks : Marks
  pub known : Known ws end rules reading calls corners marks
  pub count : n ≡ rules.n
  pub low : hub < rules.n
  pub plan : List (Planned inner_depth)
  pub plans : RowOf rules.ids rules.n (planned_calls (grammar_at ws end rules known.standing) plan) planned

module _ {calls : List (List ℕ)} {n : ℕ} {planned : List ℕ} {hub : ℕ} (x : Planning calls n planned hub) where
  abbrev pub plan_rules : List Rule
  plan_rules = rules_of x.ws x.end x.rules x.known.standing

  abbrev pub plan_grammar : Grammar
  plan_grammar = grammar_at x.ws x.end x.rules x.known.standing

  abbrev pub hub_id : ℕ
  hub_id = get_or x.rules.ids hub 0

  abbrev pub IsRow : List ℕ → List ℕ → Type 0
  IsRow = RowOf x.rules.ids x.rules.n

module _ (calls : List (List ℕ)) (n : ℕ) (planned : List ℕ) (hub : ℕ) where
  -- What the definition's rounds leave of a row of rules.
  pub record Thinned (row r : List ℕ) : Type 0 where
    pub is : (x : Planning calls n planned hub) (xs : List ℕ) → IsRow x xs row
        → ((i : ℕ) → Memᴰ i xs → member i (ids_of (plan_rules x)) ≡ true)
        → IsRow x (rounds (removable_round (plan_grammar x) inner_depth (plan_rules x) (hub_id x) x.plan) (length xs) xs) r

  -- The row of those that may go, for any cycle and any preserved rules that the rows have.
  pub record Removable (members kept r : List ℕ) : Type 0 where
    pub is : (x : Planning calls n planned hub) (cycle preserved : List ℕ)
        → IsCycle x.ws x.end x.rules x.known.standing cycle members → IsRow x preserved kept
        → IsRow x (removable_satellites (plan_grammar x) inner_depth (plan_rules x) (hub_id x) x.plan cycle preserved) r
