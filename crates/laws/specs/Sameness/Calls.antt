-- The calls in a tree are of the same rules under other names, told apart as before, and other carried numbers.
use Prim.Native.Nat.{ℕ, zero, suc}
use Rattle.std.specs.Prelude.{◌≡◌, List, map, Bool}
use Rattle.std.proofs.Common.{ap, ◌∙◌}
use Rattle.grammar.specs.Lists.{each, nothing, keep}
use Rattle.grammar.specs.Tree.{Element, leaf, block, Block, RuleOf}
use Rattle.reference.specs.Walks.{element_gives, block_gives, elements_give}
use Rattle.reference.specs.Analysis.{Grammar, calls, collect_calls_in_elements, collect_calls_into}
use Rattle.laws.specs.Lists.Mapped.{keep_same, each_same}
use Rattle.laws.specs.Demands.Marks.{on_element, on_alternative, on_rule, on_block}
use Rattle.laws.specs.Sameness.Marked.{on_grammar, on_rules, calls_on}
use Rattle.laws.specs.Sameness.Walks.{on}

module _ (f r pr : ℕ → ℕ) (one : (a b : ℕ) → f a ≡ f b → a ≡ b) (g : Grammar) where
  abbrev g' : Grammar
  g' = on_grammar f r pr one g

  -- What a walk for calls gives, by either grammar.
  abbrev gives : Grammar → (d : ℕ) → Element (Block d) → List ℕ
  gives g d = element_gives nothing (calls g) (block_gives nothing (calls g) d)

  element_calls : {B : Type 0} (on_b : B → B) (give give' : B → List ℕ) → ((b : B) → give' (on_b b) ≡ give b) → (e : Element B)
      → element_gives nothing (calls g') give' (on_element f r pr on_b e) ≡ element_gives nothing (calls g) give e
  unfolding element_gives on_element
  element_calls on_b give give' h (leaf x l) = calls_on f r pr one g l
  element_calls on_b give give' h (block x b) = h b

  block_calls : (d : ℕ) (b : Block d) → block_gives nothing (calls g') d (on_block f r pr d b) ≡ block_gives nothing (calls g) d b
  unfolding block_gives on_block
  block_calls zero b = absurd b
  block_calls (suc d) as' =
      each_same (on_alternative f r pr (on_block f r pr d)) _ (λ a. each (gives g d) a.elements)
      (λ a. each_same (on f r pr one d) _ (gives g d)
      (element_calls (on_block f r pr d) (block_gives nothing (calls g) d) (block_gives nothing (calls g') d)
      (block_calls d)) a.elements) as'

  -- In elements, and in a body.
  pub calls_elements : (d : ℕ) (es : List (Element (Block d)))
      → collect_calls_in_elements (on_grammar f r pr one g) d (map (on f r pr one d) es) ≡ collect_calls_in_elements g d es
  unfolding collect_calls_in_elements elements_give
  calls_elements d es =
      each_same (on f r pr one d) _ (gives g d)
      (element_calls (on_block f r pr d) (block_gives nothing (calls g) d) (block_gives nothing (calls g') d) (block_calls d)) es

  pub calls_into : (d : ℕ) (b : Block d) → collect_calls_into (on_grammar f r pr one g) d (on_block f r pr d b) ≡ collect_calls_into g d b
  unfolding collect_calls_into
  calls_into d b = block_calls d b

  -- The calls in those rules that pass a test which asks for neither.
  pub calls_kept_lem : (d : ℕ) (test : RuleOf (Block d) → Bool)
      → ((q : RuleOf (Block d)) → test (on_rule f r pr (on_block f r pr d) q) ≡ test q)
      → (rs : List (RuleOf (Block d)))
      → each (λ q. collect_calls_into (on_grammar f r pr one g) d q.body) (keep test (on_rules f r pr one d rs))
      ≡ each (λ q. collect_calls_into g d q.body) (keep test rs)
  calls_kept_lem d test e rs =
      ap (each (λ q. collect_calls_into g' d q.body)) (keep_same (on_rule f r pr (on_block f r pr d)) test test e rs)
      ∙ each_same (on_rule f r pr (on_block f r pr d)) (λ q. collect_calls_into g' d q.body) (λ q. collect_calls_into g d q.body)
      (λ q. calls_into d q.body) (keep test rs)
