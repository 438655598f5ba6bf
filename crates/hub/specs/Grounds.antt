-- What the decision for a cycle is made on: rules that stand in a sheet, their facts, the preserved rules, the cycle.
use Rattle.std.specs.Prelude.{ℕ, ◌≤◌, ◌≡◌, List, [], true}
use Rattle.grammar.specs.Numbers.{most_words}
use Rattle.grammar.specs.Tree.{Rule, body_depth}
use Rattle.grammar.specs.Lists.{member}
use Rattle.grammar.specs.Corners.{Corners}
use Rattle.graph.specs.Order.{Rising}
use Rattle.reference.specs.Analysis.{Grammar, grammar_of, ids_of}
use Rattle.records.specs.declared.rules.Rules.{Rules}
use Rattle.reach.specs.Rows.{RowOf}
use Rattle.analysis.specs.Facts.{Standing, Among, FactsOf}
use Rattle.analysis.specs.declared.rounds.Marks.{Marks}

module _ (ws : List ℕ) (end : ℕ) (rules : Rules) where
  -- Rules that stand in a sheet no longer than one may be, with their facts by a reading of left corners.
  pub record Known (reading : Corners) (calls corners : List (List ℕ)) (m : Marks) : Type 0 where
    pub standing : Standing ws end rules
    pub small : end ≤ most_words
    pub facts : FactsOf reading standing.rows.found.trees rules.ids calls corners m

  module _ (s : Standing ws end rules) where
    abbrev pub rules_of : List Rule
    rules_of = s.rows.found.trees

    abbrev pub grammar_at : Grammar
    grammar_at = grammar_of body_depth rules_of

    -- A cycle as a row: rising ids, each of a rule that has an alternative.
    pub record IsCycle (cycle members : List ℕ) : Type 0 where
      pub row : RowOf rules.ids rules.n cycle members
      pub rises : Rising cycle
      pub rule : (i : ℕ) → member i cycle ≡ true → member i (ids_of rules_of) ≡ true
      pub bodied : (i : ℕ) (a : Among rules_of i) → member a.rule.id cycle ≡ true → a.rule.body ≡ [] → ⊥
