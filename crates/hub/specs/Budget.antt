-- The budget of a cycle against the definition's (SPECIFICATION 8.10).
use Rattle.std.specs.Prelude.{ℕ, zero, suc, ◌+◌, ◌*◌, ◌≤◌, ◌≡◌, List, map, Bool, true, false, length, get_or}
use Rattle.grammar.specs.Numbers.{most_words}
use Rattle.grammar.specs.Tree.{Rule, inner_depth}
use Rattle.reference.specs.Substitute.{Limits, substitution_budget}
use Rattle.records.specs.declared.rules.Rules.{Rules}
use Rattle.reach.specs.Rows.{bit}
use Rattle.analysis.specs.Facts.{Standing}
use Rattle.hub.specs.Grounds.{rules_of, IsCycle}

-- A number where a test holds, and the sum of such below n.
abbrev pub amount : Bool → ℕ → ℕ
amount true n = n
amount false n = 0

unfoldable pub sum_below : (ℕ → ℕ) → ℕ → ℕ
sum_below f zero = 0
sum_below f (suc n) = sum_below f n + f n

-- How many alternatives each rule has.
abbrev pub counts : List Rule → List ℕ
counts rs = map (λ r. length r.body) rs

module _ (ws : List ℕ) (end : ℕ) where
  -- How many alternatives the members among the first i rules have, by the rules' places.
  pub record Summed (places members : List ℕ) (i r : ℕ) : Type 0 where
    pub is : (rules : Rules) (s : Standing ws end rules) → rules.places ≡ places → i ≤ rules.n
        → r ≡ sum_below (λ k. amount (bit members k) (get_or (counts (rules_of ws end rules s)) k 0)) i
    pub low : r ≤ i * most_words

  -- The budget, for any cycle that the row has.
  pub record IsBudget (rules : Rules) (members : List ℕ) (floor r : ℕ) : Type 0 where
    pub is : (s : Standing ws end rules) (limits : Limits) → limits.budget_floor ≡ floor
        → (cycle : List ℕ) → IsCycle ws end rules s cycle members
        → r ≡ substitution_budget inner_depth limits (rules_of ws end rules s) cycle
