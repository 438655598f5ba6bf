-- Demand 3 of a whole run, and why a run ends: 4 to 8.
use Rattle.std.specs.Prelude.{ℕ, suc, ◌≤◌, ◌+◌, ◌≡◌, true, length}
use mathlib.Core.List.{List, [], ◌∷◌, ◌++◌, map, Memᴰ}
use Rattle.grammar.specs.Lists.{member, distinct}
use Rattle.grammar.specs.Tree.{Sheet, Rule, body_depth}
use Rattle.grammar.specs.Corners.{Corners}
use Rattle.grammar.specs.Numbers.{parser}
use Rattle.reference.specs.Analysis.{grammar_of, left_corner_cycles}
use Rattle.reference.specs.Substitute.{Limits}
use Rattle.reference.specs.Run.{Stage, eliminate_in_unit, eliminate_mutual_left_recursion, sheet_after}
use Rattle.laws.specs.Demands.Readings.{ReadingsTold}
use Rattle.laws.specs.Demands.Shape.{Closed, Declined, Elements, JoinedShape, Joins, NoLaterCycle, SameReadings, SameStrings}

-- No cycle of a sheet's rules has a plan: the run ends there (SPECIFICATION 5.2).
abbrev pub EveryCycleDeclined : Limits → Corners → Sheet → Type 0
EveryCycleDeclined limits corners s =
    (cycle : List ℕ) → Memᴰ cycle (left_corner_cycles corners (grammar_of body_depth s.rules) body_depth s.rules)
    → Declined limits corners s cycle

module _ (s : Sheet) where
  -- What stages leave: the last one's rules and counters, in a sheet of the same kind with the same preserved ids.
  pub record SheetLeft : Type 0 where
    pub none : sheet_after s [] ≡ s
    pub last : (front : List Stage) (t : Stage)
        → sheet_after s (front ++ (t ∷ []))
        ≡ record { kind = s.kind; rules = t.after.node; preserved = s.preserved; counters = t.after.counters }

  -- The rules that the first stages of a run leave.
  abbrev pub rules_of : List Stage → List Rule
  rules_of ts = (sheet_after s ts).rules

  -- Demand 3 of a run (SPECIFICATION 1.5 to 1.8), given by its stages, and of the second sort of alternative.
  -- Between any two stages: `front` leads to the first of them, `middle` on to the second.
  pub record Demand3 (limits : Limits) (corners : Corners) (Without : List Rule → List ℕ → Elements → Type 0) (stages : List Stage)
      : Type 0 where
    pub same_strings : SameStrings s.rules (rules_of stages)
    pub same_between : (front middle rest : List Stage) → front ++ (middle ++ rest) ≡ stages
        → SameStrings (rules_of front) (rules_of (front ++ middle))
    pub same_readings : SameReadings s.rules (rules_of stages)
    pub readings_told : ReadingsTold s.rules stages (rules_of stages) same_readings
    pub readings_between : (front middle rest : List Stage) → front ++ (middle ++ rest) ≡ stages
        → SameReadings (rules_of front) (rules_of (front ++ middle))
    pub told_between : (front middle rest : List Stage) (w : front ++ (middle ++ rest) ≡ stages)
        → ReadingsTold (rules_of front) middle (rules_of (front ++ middle)) (readings_between front middle rest w)
    pub closed : Closed s.rules (rules_of stages)
    pub closed_between : (front middle rest : List Stage) → front ++ (middle ++ rest) ≡ stages
        → Closed (rules_of front) (rules_of (front ++ middle))
    pub joins : (front : List Stage) (t : Stage) (rest : List Stage) → front ++ (t ∷ rest) ≡ stages
        → Joins limits corners (sheet_after s front) t
    pub shape : (t : Stage) → Memᴰ t stages → JoinedShape (Without t.after.node t.cycle) t.after.node t.plan.hub
    pub no_later_cycle : (front : List Stage) (t : Stage) (middle rest : List Stage) → front ++ (t ∷ (middle ++ rest)) ≡ stages
        → NoLaterCycle corners t (rules_of (front ++ (t ∷ middle)))
    -- SPECIFICATION 13.14.
    pub stands : (front : List Stage) (t : Stage) (rest : List Stage) → front ++ (t ∷ rest) ≡ stages
        → (q : Rule) → Memᴰ q (rules_of stages) → q.id ≡ t.plan.hub → Memᴰ q t.after.node

  -- 8. Each rule is the hub of at most one plan, and the loop of a parser unit ends because no cycle has a plan
  -- (SPECIFICATION 5.4).
  pub record Bound (limits : Limits) (corners : Corners) (stages : List Stage) : Type 0 where
    pub once : distinct (map (λ t. t.plan.hub) stages) ≡ true
    pub few : length stages ≤ length s.rules
    pub ended : s.kind ≡ parser → EveryCycleDeclined limits corners (sheet_after s stages)

  -- The loop's turns are enough: any more give the same.
  pub record EnoughTurns (limits : Limits) (corners : Corners) : Type 0 where
    pub more : s.kind ≡ parser → (turns : ℕ)
        → eliminate_in_unit limits corners s.kind s.preserved (turns + suc (length s.rules)) s.rules s.counters 0
        ≡ eliminate_mutual_left_recursion limits corners s

  -- Unit kind and preserved list are kept (SPECIFICATION 5.5), and no preserved rule is removed (9.6).
  pub record PreservedStay (stages : List Stage) : Type 0 where
    pub kind : (sheet_after s stages).kind ≡ s.kind
    pub copied : (sheet_after s stages).preserved ≡ s.preserved
    pub stay : (r : Rule) → Memᴰ r s.rules → member r.id s.preserved ≡ true
        → (q : Rule) × Memᴰ q (rules_of stages) × (q.id ≡ r.id)
