-- The rules of a sheet that stay, by a row of those that go.
use Rattle.std.specs.Prelude.{ℕ, suc, ◌+◌, ◌-◌, ◌≤◌, ◌≡◌, List, [], ◌∷◌, not, length, get_or, take, drop}
use Rattle.grammar.specs.Tree.{Rule, body_depth}
use Rattle.grammar.specs.Lists.{push}
use Rattle.grammar.specs.Encode.{encode_rules}
use Rattle.grammar.specs.Found.{RuleSpans}
use Rattle.records.specs.declared.rules.Rules.{Rules}
use Rattle.reach.specs.Rows.{bit}
use Rattle.analysis.specs.Facts.{Standing, Among}
use Rattle.drafts.specs.declared.draft.Draft.{Draft}
use Rattle.drafts.specs.Draft.{compose_end, Added}

-- Of rules, the first of which is the i-th, those that are not in the row.
unfoldable pub kept : List ℕ → ℕ → List Rule → List Rule
kept row i [] = []
kept row i (r ∷ rs) = push (not (bit row i)) r (kept row (suc i) rs)

-- Those from one place among all up to another.
abbrev pub part : ℕ → ℕ → List Rule → List Rule
part from until rs = take (until - from) (drop from rs)

abbrev pub kept_of : List ℕ → ℕ → ℕ → List Rule → List Rule
kept_of row from until rs = kept row from (part from until rs)

-- The rule at a place among them stands from its place up to r.
pub record RuleEnds (end : ℕ) (rules : Rules) (i r : ℕ) : Type 0 where
  pub is : (ws : List ℕ) (s : Standing ws end rules) (a : Among s.rows.found.trees i)
      → RuleSpans ws end body_depth (get_or rules.places i 0) a.rule r

-- So it is of all rules, so many, that have these places.
pub record PlaceEnds (end : ℕ) (places : List ℕ) (n i r : ℕ) : Type 0 where
  pub is : (rules : Rules) → places ≡ rules.places → n ≡ rules.n → RuleEnds end rules i r

module _ (ws : List ℕ) (end : ℕ) (rules : Rules) where
  -- There is room for those from one place up to another that are not in the row, and they were added.
  pub record RulesFit (row : List ℕ) (from until : ℕ) (a : Draft) : Type 0 where
    pub fits : (s : Standing ws end rules) → a.pen.to + length (encode_rules (kept_of row from until s.rows.found.trees)) ≤ compose_end

  pub record RulesAdded (row : List ℕ) (from until : ℕ) (before after : List ℕ) (a b : Draft) : Type 0 where
    pub is : (s : Standing ws end rules) → Added (kept_of row from until s.rows.found.trees) before after a b
    pub few : b.rules.n ≤ until
