-- The facts about a grammar as rows of bits: bit j of row i is about the i-th and the j-th rule of the sheet (SPECIFICATION
-- 6, 7.5). Each bit is membership in what the definition lists.
use Rattle.std.specs.Prelude.{ℕ, ◌≡◌, List, [], ◌∷◌, ◌++◌, true, false, ◌&&◌, not, length, get_or}
use Rattle.std.proofs.Math.Option.{none, some}
use Rattle.grammar.specs.Tree.{Rule, body_depth, inner_depth}
use Rattle.grammar.specs.Found.{RuleSpans}
use Rattle.grammar.specs.Lists.{member, keep, distinct}
use Rattle.grammar.specs.Ids.{rule_ids, rule_names}
use Rattle.grammar.specs.Corners.{Corners}
use Rattle.reference.specs.Analysis.{Grammar, names_of, ids_of, target, collect_calls_into, nullable_round, nullable_rules, block_corners}
use Rattle.reference.specs.Analysis.{block_is_nullable}
use Rattle.reference.specs.Plan.{satellite_is_inlinable}
use Rattle.records.specs.Rules.{FoundRows}
use Rattle.records.specs.declared.rules.Rules.{Rules}
use Rattle.reach.specs.Rows.{bit, RowOf, holds}
use Rattle.analysis.specs.Names.{is_named, any_below}
use Rattle.analysis.specs.Survey.{View}
use Rattle.analysis.specs.declared.survey.Survey.{Survey}
use Rattle.analysis.specs.declared.rounds.Marks.{Marks}
use Rattle.analysis.specs.declared.rounds.Round.{Round}

-- What is known of the rules by their places is what a grammar says of them by their ids.
pub record Agrees (g : Grammar) (ids : List ℕ) (v : View) : Type 0 where
  pub calls : (m j : ℕ) → is_named v.names v.n m j ≡ holds ids v.n (elim (target g m) [ none ↦ [] | some t ↦ t ∷ [] ]) j
  pub known : (m : ℕ) → any_below (is_named v.names v.n m) v.n ≡ elim (target g m) [ none ↦ false | some t ↦ true ]
  pub empty : (m : ℕ)
      → any_below (λ j. is_named v.names v.n m j && bit v.nullable j) v.n
      ≡ elim (target g m) [ none ↦ false | some t ↦ member t g.nullable ]

-- What a survey says of a rule, by a grammar.
pub record SurveyOf (c : Corners) (g : Grammar) (ids : List ℕ) (n : ℕ) (t : Rule) (r : Survey) : Type 0 where
  pub calls : RowOf ids n (collect_calls_into g body_depth t.body) r.calls
  pub corners : RowOf ids n (block_corners c g body_depth t.body) r.corners
  pub stops : r.stops ≡ not (satellite_is_inlinable inner_depth t)
  pub nullable : r.nullable ≡ block_is_nullable g body_depth t.body

-- A survey of the rule that stands at a place, by any grammar that agrees with what is known.
pub record Surveyed (v : View) (ws : List ℕ) (end at : ℕ) (r : Survey) : Type 0 where
  pub by : (g : Grammar) (ids : List ℕ) → Agrees g ids v → (t : Rule) (q : ℕ) → RuleSpans ws end body_depth at t q
      → SurveyOf v.reading g ids v.n t r

-- Rules that stand in a sheet, told apart by ids and by names.
pub record Standing (ws : List ℕ) (end : ℕ) (rules : Rules) : Type 0 where
  pub rows : FoundRows ws end rules
  pub ids : distinct (rule_ids rows.found.trees) ≡ true
  pub names : distinct (rule_names rows.found.trees) ≡ true

-- The i-th of several rules.
pub record Among (rs : List Rule) (i : ℕ) : Type 0 where
  pub front : List Rule
  pub rule : Rule
  pub rest : List Rule
  pub parts : front ++ (rule ∷ rest) ≡ rs
  pub count : length front ≡ i

module _ (c : Corners) (rs : List Rule) (ids : List ℕ) where
  -- The grammar, with the nullable rules in a list.
  abbrev pub grammar_by : List ℕ → Grammar
  grammar_by xs = record { names = names_of rs; nullable = xs }

  -- Rows of calls and of left corners, one for each rule, by the nullable rules in a list.
  pub record RowsBy (xs : List ℕ) (calls corners : List (List ℕ)) : Type 0 where
    pub call_rows : (i : ℕ) (a : Among rs i)
        → RowOf ids (length rs) (collect_calls_into (grammar_by xs) body_depth a.rule.body) (get_or calls i [])
    pub corner_rows : (i : ℕ) (a : Among rs i)
        → RowOf ids (length rs) (block_corners c (grammar_by xs) body_depth a.rule.body) (get_or corners i [])

  -- Those that cannot be inlined.
  unfoldable pub stopping : List ℕ
  stopping = ids_of (keep (λ t. not (satellite_is_inlinable inner_depth t)) rs)

  -- A round by the nullable rules in a list.
  pub record RoundBy (xs : List ℕ) (calls corners : List (List ℕ)) (r : Round) : Type 0 where
    pub rows : RowsBy xs calls corners
    pub stops : RowOf ids (length rs) stopping r.marks.stops
    pub nullable : RowOf ids (length rs) (nullable_round body_depth rs xs) r.marks.nullable
    pub count : r.count ≡ length (nullable_round body_depth rs xs)

  -- The facts of the grammar.
  pub record FactsOf (calls corners : List (List ℕ)) (m : Marks) : Type 0 where
    pub rows : RowsBy (nullable_rules body_depth rs) calls corners
    pub stops : RowOf ids (length rs) stopping m.stops
    pub nullable : RowOf ids (length rs) (nullable_rules body_depth rs) m.nullable

-- The facts of the rules that stand in a sheet.
pub record FactsFound (ws : List ℕ) (end : ℕ) (rules : Rules) (reading : Corners) (calls corners : List (List ℕ)) (m : Marks) : Type 0 where
  pub is : (s : Standing ws end rules) → FactsOf reading s.rows.found.trees rules.ids calls corners m
