-- One round: every rule surveyed, and what is kept of each.
use Rattle.std.specs.Prelude.{ℕ, zero, suc, ◌+◌, ◌<◌, ◌≤◌, ◌≡◌, List, [], Bool, true, false, length, get_or, replicate}
use Rattle.grammar.specs.Numbers.{rule_limit}
use Rattle.grammar.specs.Corners.{Corners}
use Rattle.records.specs.declared.rules.Rules.{Rules}
use Rattle.reach.specs.Rows.{bit, AddIf}
use Rattle.analysis.specs.Survey.{View}
use Rattle.analysis.specs.Facts.{Surveyed}
use Rattle.analysis.specs.declared.survey.Survey.{Survey}
use Rattle.analysis.specs.declared.rounds.Round.{Round}

-- As many rows as there may be rules, zeros all over.
abbrev pub no_rows : List (List ℕ)
no_rows = replicate rule_limit (replicate 2 0)

abbrev pub one_if : Bool → ℕ
one_if true = 1
one_if false = 0

-- How many numbers below n pass a test.
unfoldable pub count_below : (ℕ → Bool) → ℕ → ℕ
count_below test zero = 0
count_below test (suc n) = count_below test n + one_if (test n)

-- One rule more is marked, if it is to be.
pub record Marked (before : Round) (i : ℕ) (nu st : Bool) (r : Round) : Type 0 where
  pub nullable : AddIf before.marks.nullable i nu r.marks.nullable
  pub stops : AddIf before.marks.stops i st r.marks.stops
  pub count : r.count ≡ before.count + one_if nu

-- What is kept of the survey of the rule at a place, which is rule k.
pub record Recorded (v : View) (ws : List ℕ) (end at k : ℕ) (cs ks : List (List ℕ)) (nu st : List ℕ) : Type 0 where
  pub survey : Survey
  pub surveyed : Surveyed v ws end at survey
  pub calls : get_or cs k [] ≡ survey.calls
  pub corners : get_or ks k [] ≡ survey.corners
  pub nullable : bit nu k ≡ survey.nullable
  pub stops : bit st k ≡ survey.stops

-- The rules below i are surveyed; rows from i on are as they were.
pub record Recording (v : View) (ws : List ℕ) (end : ℕ) (places : List ℕ) (cs₀ ks₀ : List (List ℕ)) (i : ℕ) (cs ks : List (List ℕ))
    (r : Round) : Type 0 where
  pub each : (k : ℕ) → k < i → Recorded v ws end (get_or places k 0) k cs ks r.marks.nullable r.marks.stops
  pub nullable_none : (k : ℕ) → i ≤ k → bit r.marks.nullable k ≡ false
  pub stops_none : (k : ℕ) → i ≤ k → bit r.marks.stops k ≡ false
  pub counted : r.count ≡ count_below (bit r.marks.nullable) i
  pub low : r.count ≤ i
  pub calls_behind : (k : ℕ) → i ≤ k → get_or cs k [] ≡ get_or cs₀ k []
  pub corners_behind : (k : ℕ) → i ≤ k → get_or ks k [] ≡ get_or ks₀ k []
  pub calls_long : length cs ≡ rule_limit
  pub corners_long : length ks ≡ rule_limit

-- A round by the rules that are nullable as far as is known.
abbrev pub RoundFound : (ws : List ℕ) (end : ℕ) (rules : Rules) (reading : Corners) (nullable : List ℕ) (cs₀ ks₀ cs ks : List (List ℕ))
    (r : Round) → Type 0
RoundFound ws end rules reading nullable cs₀ ks₀ cs ks r =
    Recording (record { names = rules.names; n = rules.n; nullable = nullable; reading = reading }) ws end rules.places cs₀ ks₀
    rules.n cs ks r
