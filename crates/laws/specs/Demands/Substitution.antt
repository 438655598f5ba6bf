-- What is promised of the steps of a substitution: its limits, and the slots that it fills: 8 and 9.
use Rattle.std.specs.Prelude.{ℕ, suc, ◌≤◌, ◌<◌, ◌≡◌, false, length}
use mathlib.Core.List.{List, map, Memᴰ}
use Rattle.std.proofs.Math.Option.{some}
use Rattle.grammar.specs.Lists.{total}
use Rattle.grammar.specs.Tree.{Block, RuleOf, Alternative}
use Rattle.reference.specs.Analysis.{Grammar}
use Rattle.reference.specs.Substitute.{Limits, PlannedAlternative, Planned, decided, split_optional, splice_alternative, step}
use Rattle.reference.specs.Run.{inner_depth}

-- A planned list within the limits: its alternatives, their outermost elements and their options.
pub record Within {B : Type 0} (limits : Limits) (ps : List (PlannedAlternative B)) : Type 0 where
  pub alternatives : length ps ≤ limits.alternatives
  pub elements : total (map (λ p. length p.elements) ps) ≤ limits.elements
  pub options : total (map (λ p. length p.options) ps) ≤ limits.options

-- One beyond them.
pub data Beyond {B : Type 0} (limits : Limits) (ps : List (PlannedAlternative B)) : Type 0 where
  many_alternatives : limits.alternatives < length ps → Beyond limits ps
  many_elements : limits.elements < total (map (λ p. length p.elements) ps) → Beyond limits ps
  many_options : limits.options < total (map (λ p. length p.options) ps) → Beyond limits ps

-- Steps of a substitution, one after the other, each to a list within the limits.
module _ (limits : Limits) (d : ℕ) (rs : List (RuleOf (Block (suc d)))) (g : Grammar) (cycle : List ℕ) (hub : ℕ) where
  pub data Steps : ℕ → List (Planned d) → List (Planned d) → Type 0 where
    no_steps_left : {ps : List (Planned d)} → Steps 0 ps ps
    one_more : {n : ℕ} {ps qs ks : List (Planned d)} → step d rs g cycle hub ps ≡ some (decided qs) → Within limits qs → Steps n qs ks
        → Steps (suc n) ps ks

-- What a step makes (SPECIFICATION 8.9): a split alternative keeps its origin, a spliced one has the satellite's alternative
-- as origin; both fill the slot of the one that they replace.
pub record InSlot (p q : Planned inner_depth) : Type 0 where
  pub carried : q.carried ≡ p.carried
  pub flag : q.flag ≡ p.flag
  pub is_new : q.verbatim ≡ false

pub record SlotsKept (p : Planned inner_depth) (i : ℕ) : Type 0 where
  pub split : (q : Planned inner_depth) → Memᴰ q (split_optional p i) → InSlot p q × (q.origin ≡ p.origin)
  pub spliced : (a : Alternative) (q : Planned inner_depth) → splice_alternative inner_depth p i a ≡ decided q
      → InSlot p q × (q.origin ≡ a.id)
