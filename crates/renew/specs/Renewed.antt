-- What is known of the rules after a plan was applied, by what was known before it (SPECIFICATION 6, 11).
use Rattle.std.specs.Prelude.{ℕ, ◌<◌, ◌≤◌, ◌≡◌, Bool, false, ◌&&◌, get_or, set}
use mathlib.Core.List.{List, map, Memᴰ}
use Rattle.grammar.specs.Numbers.{most_words}
use Rattle.grammar.specs.Tree.{Rule, Block, body_depth, inner_depth}
use Rattle.grammar.specs.Lists.{member}
use Rattle.grammar.specs.Corners.{Corners}
use Rattle.reference.specs.Analysis.{ids_of, grammar_of, nullable_rules, collect_calls_into, block_corners}
use Rattle.reference.specs.Apply.{with_body}
use Rattle.records.specs.declared.rules.Rules.{Rules}
use Rattle.reach.specs.Rows.{bit, RowOf}
use Rattle.analysis.specs.Facts.{Standing, Surveyed}
use Rattle.analysis.specs.declared.rounds.Marks.{Marks}
use Rattle.analysis.specs.declared.survey.Survey.{Survey}
use Rattle.hub.specs.Grounds.{rules_of}
use Rattle.plan.specs.Search.{RulesKnown}
use Rattle.renew.specs.Fewer.{staying}
use Rattle.renew.specs.declared.renew.Renewed.{Renewed}

-- A row with a bit as it is to be.
pub record BitPut (row : List ℕ) (j : ℕ) (on : Bool) (r : List ℕ) : Type 0 where
  pub here : bit r j ≡ on
  pub other : (k : ℕ) → (k ≡ j → ⊥) → bit r k ≡ bit row k

-- The rule at a place surveyed anew, and what is kept of it.
pub record HubSurveyed (ws : List ℕ) (end : ℕ) (rules : Rules) (hub : ℕ) (reading : Corners) (nullable : List ℕ) (cs ks : List (List ℕ))
    (st : List ℕ) (cs' ks' : List (List ℕ)) (st' : List ℕ) : Type 0 where
  pub survey : Survey
  pub surveyed : Surveyed (record { names = rules.names; n = rules.n; nullable = nullable; reading = reading }) ws end
      (get_or rules.places hub 0) survey
  pub calls : cs' ≡ set cs hub survey.calls
  pub corners : ks' ≡ set ks hub survey.corners
  pub stops : BitPut st hub survey.stops st'

-- Rules rs before a plan and ks after it: the hub has another body, those in a list are gone, and what is found out of the rules that
-- stay is the same in both grammars.
pub record Stays (rs : List Rule) (hub : ℕ) (gone : List ℕ) (ks : List Rule) : Type 0 where
  pub body : Block body_depth
  pub rules : ks ≡ staying gone (map (with_body inner_depth hub body) rs)
  pub hub_stays : member hub gone ≡ false
  pub nullable : (i : ℕ) → member i (nullable_rules body_depth ks) ≡ (member i (ids_of ks) && member i (nullable_rules body_depth rs))
  pub calls : (r : Rule) → Memᴰ r ks
      → collect_calls_into (grammar_of body_depth ks) body_depth r.body ≡ collect_calls_into (grammar_of body_depth rs) body_depth r.body
  pub corners : (c : Corners) (r : Rule) → Memᴰ r ks
      → block_corners c (grammar_of body_depth ks) body_depth r.body ≡ block_corners c (grammar_of body_depth rs) body_depth r.body

module _ (ws : List ℕ) (end : ℕ) (rules : Rules) (n hub : ℕ) (row : List ℕ) (reading : Corners)
    (calls corners : List (List ℕ)) (marks : Marks)
    (kept : List ℕ) where
  -- Rules that stand in a sheet after a plan, and what was known before it: n rules, the hub's place, and the row of those that are gone.
  pub record Renewable : Type 0 where
    pub words₀ : List ℕ
    pub end₀ : ℕ
    pub rules₀ : Rules
    pub known : RulesKnown words₀ end₀ rules₀ reading calls corners marks kept
    pub gone : List ℕ
    pub gone_row : RowOf rules₀.ids rules₀.n gone row
    pub count : n ≡ rules₀.n
    pub inside : hub < n
    pub standing : Standing ws end rules
    pub small : end ≤ most_words
    pub stays : Stays (rules_of words₀ end₀ rules₀ known.known.standing) (get_or rules₀.ids hub 0) gone (rules_of ws end rules standing)

  -- It is known of the rules that stay, with the same preserved ones; and the hub's place among them.
  pub record RenewedAs (x : Renewable) (calls' corners' : List (List ℕ)) (r : Renewed) : Type 0 where
    pub known : RulesKnown ws end rules reading calls' corners' r.ground.marks r.ground.kept
    pub standing : known.known.standing ≡ x.standing
    pub preserved : known.preserved ≡ x.known.preserved
    pub inside : r.hub < rules.n
    pub same : get_or rules.ids r.hub 0 ≡ get_or x.rules₀.ids hub 0

  pub record RenewedOf (calls' corners' : List (List ℕ)) (r : Renewed) : Type 0 where
    pub is : (x : Renewable) → RenewedAs x calls' corners' r
