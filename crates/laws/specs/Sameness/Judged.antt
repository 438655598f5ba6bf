-- Refusals 5 and 6 are the same under other names, told apart as before, and other carried numbers.
use Rattle.std.specs.Prelude.{ℕ, ◌≡◌}
use Rattle.std.proofs.Math.Path.{refl, ap₂}
use Rattle.std.proofs.Common.{sym, ap, ◌∙◌}
use mathlib.Core.List.{List, [], ◌∷◌, map, map-map}
use Rattle.std.proofs.Math.Bool.{not, ◌&&◌}
use Rattle.grammar.specs.Lists.{distinct, below}
use Rattle.grammar.specs.Numbers.{alternative_sort, element_sort, label_sort, action_sort, predicate_sort}
use Rattle.grammar.specs.Ids.{block_ids, body_ids, rule_names, is_distinct, is_below}
use Rattle.grammar.specs.Tree.{Rule, Counters, body_depth}
use Rattle.laws.specs.Lists.Mapped.{each_same}
use Rattle.laws.specs.Demands.Marks.{on_rule, on_block}
use Rattle.laws.specs.Sameness.Marked.{on_rules, ids_on}
use Rattle.laws.specs.Sameness.Walks.{member_names}
use Rattle.laws.specs.Sameness.Ids.{block_ids_lem}

module _ (f r pr : ℕ → ℕ) (one : (a b : ℕ) → f a ≡ f b → a ≡ b) where
  abbrev on_all : List Rule → List Rule
  on_all = on_rules f r pr one body_depth

  -- Names told apart as before are as distinct, and ids are as they were.
  distinct_names : (xs : List ℕ) → distinct (map f xs) ≡ distinct xs
  unfolding distinct
  distinct_names [] = refl
  distinct_names (x ∷ xs) = ap₂ (λ a b. not a && b) (member_names f r pr one x xs) (distinct_names xs)

  names_all : (rs : List Rule) → rule_names (on_all rs) ≡ map f (rule_names rs)
  names_all rs = map-map (λ q. q.name) (on_rule f r pr (on_block f r pr body_depth)) rs ∙ sym (map-map f (λ q. q.name) rs)

  body_ids_lem : (sort : ℕ) (rs : List Rule) → body_ids sort (on_all rs) ≡ body_ids sort rs
  body_ids_lem sort rs =
      each_same (on_rule f r pr (on_block f r pr body_depth)) (λ q. block_ids sort body_depth q.body)
      (λ q. block_ids sort body_depth q.body)
      (λ q. block_ids_lem f r pr sort body_depth q.body) rs

  -- No number is shared where none was, and none is past its counter where none was.
  pub distinct_on : (rs : List Rule) → is_distinct (on_all rs) ≡ is_distinct rs
  unfolding is_distinct
  distinct_on rs =
      ap₂ ◌&&◌ (ap distinct (ids_on f r pr one body_depth rs))
      (ap₂ ◌&&◌ (ap distinct (names_all rs) ∙ distinct_names (rule_names rs))
      (ap₂ ◌&&◌ (ap distinct (body_ids_lem alternative_sort rs))
      (ap₂ ◌&&◌ (ap distinct (body_ids_lem element_sort rs))
      (ap₂ ◌&&◌ (ap distinct (body_ids_lem label_sort rs))
      (ap₂ ◌&&◌ (ap distinct (body_ids_lem action_sort rs)) (ap distinct (body_ids_lem predicate_sort rs)))))))

  pub below_on : (c : Counters) (rs : List Rule) → is_below c (on_all rs) ≡ is_below c rs
  unfolding is_below
  below_on c rs =
      ap₂ ◌&&◌ (ap (below c.alternative) (body_ids_lem alternative_sort rs))
      (ap₂ ◌&&◌ (ap (below c.element) (body_ids_lem element_sort rs))
      (ap₂ ◌&&◌ (ap (below c.label) (body_ids_lem label_sort rs))
      (ap₂ ◌&&◌ (ap (below c.action) (body_ids_lem action_sort rs)) (ap (below c.predicate) (body_ids_lem predicate_sort rs)))))
