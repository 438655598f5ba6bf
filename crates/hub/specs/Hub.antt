-- The hub of a cycle against the definition's (SPECIFICATION 7.2, 7.3).
use Rattle.std.specs.Prelude.{ℕ, ◌<◌, ◌≡◌, List, true, get_or, Option, Some, None}
use Rattle.std.proofs.Math.Option as Math
use Rattle.std.proofs.Math.Option.{none, some}
use Rattle.grammar.specs.Tree.{inner_depth}
use Rattle.grammar.specs.Corners.{Corners}
use Rattle.reference.specs.Plan.{choose_hub}
use Rattle.records.specs.declared.rules.Rules.{Rules}
use Rattle.reach.specs.Rows.{bit, RowOf}
use Rattle.analysis.specs.declared.rounds.Marks.{Marks}
use Rattle.hub.specs.Grounds.{Known, rules_of, grammar_at, IsCycle}

-- A place as the answer for an id: that of a member, or none.
abbrev pub HubIs : List ℕ → ℕ → List ℕ → Option ℕ → Math.Option ℕ → Type 0
HubIs ids n members None o = o ≡ none
HubIs ids n members (Some i) o = (i < n) × (bit members i ≡ true) × (o ≡ some (get_or ids i 0))

-- The hub that is chosen is the definition's, for any cycle and any preserved rules that the rows have.
pub record Chosen (ws : List ℕ) (end : ℕ) (rules : Rules) (nullable : List ℕ) (calls : List (List ℕ)) (members kept : List ℕ) (r : Option ℕ)
    : Type 0 where
  pub is : (reading : Corners) (corners : List (List ℕ)) (m : Marks) (k : Known ws end rules reading calls corners m)
      → m.nullable ≡ nullable
      → (cycle preserved : List ℕ) → IsCycle ws end rules k.standing cycle members → RowOf rules.ids rules.n preserved kept
      → HubIs rules.ids rules.n members r
      (choose_hub (grammar_at ws end rules k.standing) cycle inner_depth (rules_of ws end rules k.standing) preserved)
