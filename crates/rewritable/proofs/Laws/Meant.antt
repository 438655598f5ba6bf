-- What a walk over elements has seen is what the definition says of them, by any grammar that agrees with what is known.
use Prim.Native.Nat.{ℕ}
use mathlib.Core.Path.{◌≡◌}
use mathlib.Core.List.{List}
use mathlib.Core.Bool.{◌&&◌, ◌||◌}
use Rattle.grammar.specs.Numbers.{action_sort, predicate_sort}
use Rattle.grammar.specs.Tree.{Element, Block}
use Rattle.grammar.specs.Lists.{all}
use Rattle.grammar.specs.Ids.{block_ids}
use Rattle.grammar.specs.Fold.{folded, element_fold, block_fold}
use Rattle.reference.specs.Walks.{elements_give}
use Rattle.reference.specs.Analysis.{Grammar, collect_calls_in_elements, collect_calls_into, element_nullable, block_is_nullable, left_corners}
use Rattle.reference.specs.Plan.{satellite_has_embedded_semantics}
use Rattle.analysis.specs.Survey.{View, Seen, surveying}
use Rattle.analysis.specs.Facts.{Agrees}
use Rattle.analysis.proofs.Laws.Meant.{elements_add, elements_null, block_means}
use Rattle.reach.specs.Rows.{holds}

-- What is seen from s to r: calls, and left corners where they are sought at s.
pub record Adds (ids : List ℕ) (n : ℕ) (s r : Seen) (cs ks : List ℕ) : Type 0 where
  pub calls : (j : ℕ) → r.calls j ≡ (s.calls j || holds ids n cs j)
  pub corners : (j : ℕ) → r.corners j ≡ (s.corners j || (s.seeks && holds ids n ks j))

-- Elements of an alternative.
module _ {g : Grammar} {ids : List ℕ} {v : View} (w : Agrees g ids v) (d : ℕ) (s : Seen) (es : List (Element (Block d))) where
  abbrev past : Seen
  past = folded (element_fold (surveying v) (block_fold (surveying v) d)) s es

  pub past_adds : Adds ids v.n s past (collect_calls_in_elements g d es) (left_corners v.reading g d es)
  unfolding collect_calls_in_elements elements_give collect_calls_into left_corners satellite_has_embedded_semantics
  past_adds =
      let x = elements_add w (block_ids action_sort d) (block_ids predicate_sort d) (block_means w d) s es in
      record { calls = x.calls; corners = x.corners }

  pub past_null : past.null ≡ (s.null && all (element_nullable g (block_is_nullable g d)) es)
  unfolding satellite_has_embedded_semantics
  past_null = elements_null w (block_ids action_sort d) (block_ids predicate_sort d) (block_means w d) s es
