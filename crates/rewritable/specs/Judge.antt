-- What is told of the planned list: whether it is directly left-recursive as the definition has it, and the rules that it calls.
use Rattle.std.specs.Prelude.{ℕ, ◌≡◌, List, true, false, not, get_or, Some, None}
use Rattle.std.specs.declared.option.Option.{Option}
use Rattle.grammar.specs.Tree.{Element, Block, inner_depth}
use Rattle.grammar.specs.Lists.{each}
use Rattle.grammar.specs.Corners.{Corners}
use Rattle.reference.specs.Analysis.{Grammar, names_of, collect_calls_in_elements}
use Rattle.reference.specs.Substitute.{Planned}
use Rattle.reference.specs.Plan.{is_primary, is_recursive, is_fit, planned_hub_is_directly_rewritable}
use Rattle.records.specs.declared.rules.Rules.{Rules}
use Rattle.reach.specs.Rows.{RowOf}
use Rattle.analysis.specs.Survey.{View}
use Rattle.analysis.specs.Facts.{Standing}
use Rattle.planned.specs.Layout.{settled}
use Rattle.planned.specs.declared.list.Sizes.{Sizes}
use Rattle.rewritable.specs.Walks.{Agreeing}
use Rattle.rewritable.specs.declared.judge.Verdict.{Verdict}

-- By a grammar, a cycle and a hub.
module _ (c : Corners) (g : Grammar) (ids : List ℕ) (n : ℕ) (cycle : List ℕ) (hub d : ℕ) where
  -- An alternative's elements that are fit, in one of the two ways.
  pub record FitAs (es : List (Element (Block d))) (v : Verdict) : Type 0 where
    pub fit : is_fit c g cycle hub d es ≡ true
    pub primary : not v.recursive ≡ is_primary c g cycle hub d es
    pub recursive : v.recursive ≡ is_recursive g hub d es
    pub calls : RowOf ids n (collect_calls_in_elements g d es) v.calls

  pub record IsJudged (es : List (Element (Block d))) (r : Option Verdict) : Type 0 where
    pub unfit : r ≡ None → is_fit c g cycle hub d es ≡ false
    pub fit : (v : Verdict) → r ≡ Some v → FitAs es v

  -- The whole list.
  pub record AreJudged (ps : List (Planned d)) (r : Option (List ℕ)) : Type 0 where
    pub unfit : r ≡ None → planned_hub_is_directly_rewritable c g cycle hub d ps ≡ false
    pub fit : (row : List ℕ) → r ≡ Some row → planned_hub_is_directly_rewritable c g cycle hub d ps ≡ true
    pub calls : (row : List ℕ) → r ≡ Some row → RowOf ids n (each (λ p. collect_calls_in_elements g d p.elements) ps) row

-- By any grammar that agrees with what is known, and any cycle whose row is given.
module _ (v : View) (members : List ℕ) (hub d : ℕ) where
  pub record VerdictOf (es : List (Element (Block d))) (r : Option Verdict) : Type 0 where
    pub by : (w : Agreeing v) (cycle : List ℕ) → RowOf w.ids v.n cycle members
        → IsJudged v.reading w.grammar w.ids v.n cycle (get_or w.ids hub 0) d es r

  pub record JudgedOf (ps : List (Planned d)) (r : Option (List ℕ)) : Type 0 where
    pub by : (w : Agreeing v) (cycle : List ℕ) → RowOf w.ids v.n cycle members
        → AreJudged v.reading w.grammar w.ids v.n cycle (get_or w.ids hub 0) d ps r

-- By the grammar of the rules that stand in a sheet, whose nullable rules are those known.
pub record JudgedFound (ws : List ℕ) (end : ℕ) (rules : Rules) (nullable : List ℕ) (reading : Corners) (members : List ℕ)
    (hub : ℕ) (bs : List ℕ) (l : Sizes) (r : Option (List ℕ)) : Type 0 where
  pub is : (s : Standing ws end rules) (g : Grammar) (cycle : List ℕ) → g.names ≡ names_of s.rows.found.trees
      → RowOf rules.ids rules.n g.nullable nullable → RowOf rules.ids rules.n cycle members
      → AreJudged reading g rules.ids rules.n cycle (get_or rules.ids hub 0) inner_depth
      (settled ws end inner_depth bs l) r
