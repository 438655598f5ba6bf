-- What is promised of plans applied: copies differ from what they copy in ids alone, ids are handed out one after the other, and
-- the rules that are not joined stay as they were.
use Rattle.std.specs.Prelude.{ℕ, zero, suc, ◌+◌, ◌≡◌, true, false, length}
use mathlib.Core.List.{List, [], ◌∷◌, ◌++◌, map, Memᴰ, Sublistᴰ}
use Rattle.grammar.specs.Lists.{member}
use Rattle.grammar.specs.Numbers.{alternative_sort, element_sort, label_sort, action_sort, predicate_sort}
use Rattle.grammar.specs.Tree.{Alternative, Rule, body_depth, Counters, Sheet, with_rule_body}
use Rattle.grammar.specs.Ids.{block_ids}
use Rattle.language.specs.Laws.Copies.{change_block, drop_ids}
use Rattle.reference.specs.Substitute.{Planned}
use Rattle.reference.specs.Run.{inner_depth, Stage, sheet_after, entries_of}
use Rattle.laws.specs.Demands.Shape.{Removed, Calls}
use Rattle.laws.specs.Demands.Trail.{numbers_at, in_place}

-- With every id 0, nested ones too, the rule joined has the planned alternatives as its body (SPECIFICATION 11.1 to 11.3).
pub record CopiesAlike (t : Stage) : Type 0 where
  pub alike : (q : Rule) → Memᴰ q t.after.node → q.id ≡ t.plan.hub
      → change_block drop_ids body_depth q.body
      ≡ change_block drop_ids body_depth (map (λ p. in_place p.origin p.elements p) t.plan.alternatives)

-- What can be removed is removed (SPECIFICATION 9.6): no set of satellites is left that are not preserved and that no rule outside
-- the set calls.
pub record RemovesMost (preserved : List ℕ) (t : Stage) : Type 0 where
  pub none_left : (set : List ℕ)
      → ((i : ℕ) → member i set ≡ true → (member i t.cycle ≡ true) × (i ≡ t.plan.hub → ⊥) × (member i preserved ≡ false))
      → ((q : Rule) → Memᴰ q t.after.node → member q.id set ≡ false → (r : Rule) → Memᴰ r t.after.node
      → member r.id set ≡ true → Calls inner_depth q.body r.name → ⊥)
      → (r : Rule) → Memᴰ r t.after.node → member r.id set ≡ false

-- The sorts of ids with a counter, numbered as in the trail.
pub data Sort : Type 0 where
  of_alternative of_element of_label of_action of_predicate : Sort

abbrev pub number : Sort → ℕ
number of_alternative = alternative_sort
number of_element = element_sort
number of_label = label_sort
number of_action = action_sort
number of_predicate = predicate_sort

abbrev pub counter_at : Sort → Counters → ℕ
counter_at of_alternative c = c.alternative
counter_at of_element c = c.element
counter_at of_label c = c.label
counter_at of_action c = c.action
counter_at of_predicate c = c.predicate

-- So many numbers, one after the other.
unfoldable pub up_from : ℕ → ℕ → List ℕ
up_from a zero = []
up_from a (suc n) = a ∷ up_from (suc a) n

-- The ids of each sort were handed out one after the other, from some counters, which then stood at others.
pub record Handed (c c' : Counters) (ids : ℕ → List ℕ) : Type 0 where
  pub in_order : (s : Sort) → ids (number s) ≡ up_from (counter_at s c) (length (ids (number s)))
  pub ends : (s : Sort) → counter_at s c' ≡ counter_at s c + length (ids (number s))

-- The alternatives that are not untouched, out of those that a planned list has become.
unfoldable pub new_ones : List (Planned inner_depth) → List Alternative → List Alternative
new_ones [] as' = []
new_ones (p ∷ ps) [] = []
new_ones (p ∷ ps) (a ∷ as') = elim p.verbatim [ true ↦ new_ones ps as' | false ↦ a ∷ new_ones ps as' ]

module _ (s : Sheet) (stages : List Stage) where
  -- SPECIFICATION 11.4 and 11.5. Of each plan: the ids in the new alternatives, as they stand there. Of the run: those that
  -- the trail records.
  pub record FreshIds : Type 0 where
    pub of_plan : (front : List Stage) (t : Stage) (rest : List Stage) → front ++ (t ∷ rest) ≡ stages
        → (q : Rule) → Memᴰ q t.after.node → q.id ≡ t.plan.hub
        → Handed (sheet_after s front).counters t.after.counters (λ k. block_ids k body_depth (new_ones t.plan.alternatives q.body))
    pub of_run : Handed s.counters (sheet_after s stages).counters (λ k. numbers_at (λ e. e.id) k (entries_of stages))

  -- A rule neither joined nor removed comes back word for word (SPECIFICATION 5.5). The rules of the result, bodies aside,
  -- are rules handed in, in their order. A rule removed was a satellite.
  pub record RulesStay : Type 0 where
    pub untouched : (r q : Rule) → Memᴰ r s.rules → Memᴰ q (sheet_after s stages).rules → q.id ≡ r.id
        → member r.id (map (λ t. t.plan.hub) stages) ≡ false → Memᴰ r (sheet_after s stages).rules
    pub in_order : Sublistᴰ (map (with_rule_body []) (sheet_after s stages).rules) (map (with_rule_body []) s.rules)
    pub removed : (r : Rule) → Memᴰ r s.rules → Removed r (sheet_after s stages).rules
        → (t : Stage) × Memᴰ t stages × (member r.id t.cycle ≡ true) × (r.id ≡ t.plan.hub → ⊥)
