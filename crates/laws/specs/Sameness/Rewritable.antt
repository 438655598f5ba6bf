-- A planned list can be rewritten where it could, under other names, told apart as before, and other carried numbers.
use Prim.Native.Nat.{ℕ}
use Rattle.std.specs.Prelude.{◌≡◌, Bool, drop}
use Rattle.std.proofs.Math.Path.{refl, ap₂}
use Rattle.std.proofs.Common.{ap, ◌∙◌}
use mathlib.Core.List.{List, [], ◌∷◌, map}
use Rattle.std.proofs.Math.Option
use Rattle.std.proofs.Math.Option.{Option, none, some}
use Rattle.std.proofs.Math.Bool.{true, false, ◌&&◌, ◌||◌, not}
use Rattle.std.proofs.Math.Dec.{eqb}
use Rattle.grammar.specs.Laws.Parse.{either}
use Rattle.grammar.specs.Lists.{all, meet}
use Rattle.grammar.specs.Corners.{Corners}
use Rattle.grammar.specs.Tree.{Call, epsilon, action, predicate, call, token, terminal, end_of_input, Element, leaf, block, Block}
use Rattle.reference.specs.Walks.{sort_of, is_epsilon_only, is_one}
use Rattle.reference.specs.Analysis.{Grammar, target, element_nullable, block_is_nullable, block_corners, left_corners}
use Rattle.reference.specs.Substitute.{Elements, Planned}
use Rattle.reference.specs.Plan.{hub_call, is_hub_call, gives_hub_arguments, starts_with_hub_call, is_recursive, is_primary, is_fit}
use Rattle.reference.specs.Plan.{planned_hub_is_directly_rewritable}
use Rattle.laws.specs.Lists.Mapped.{drop_on, all_same, any_same}
use Rattle.laws.specs.Demands.Marks.{on_call, on_leaf, on_element, on_block}
use Rattle.laws.specs.Sameness.Marked.{on_grammar, target_on, elements_on, block_on, corners_on, block_corners_on}
use Rattle.laws.specs.Sameness.Walks.{on}
use Rattle.laws.specs.Sameness.Steps.{on_planned}

module _ (f r pr : ℕ → ℕ) (one : (a b : ℕ) → f a ≡ f b → a ≡ b) (d : ℕ) (g : Grammar) (hub : ℕ) where
  abbrev g' : Grammar
  g' = on_grammar f r pr one g

  abbrev on_elements : Elements d → Elements d
  on_elements = map (on f r pr one d)

  -- A call of the hub, and whether it has arguments.
  hub_call_on : (e : Element (Block d)) → hub_call g' hub (on f r pr one d e) ≡ Option.map (on_call f r pr) (hub_call g hub e)
  unfolding hub_call on_element on_leaf sort_of
  hub_call_on (leaf h epsilon) = refl
  hub_call_on (leaf h (action a)) = refl
  hub_call_on (leaf h (predicate p)) = refl
  hub_call_on (leaf h (call c)) = rw (target_on f r pr one g c.name, hub_call) (go (target g c.name))
    where
      -- The call, where it is the hub's.
      hubs : Call → Option ℕ → Option Call
      hubs c x = elim x [ none ↦ none | some t ↦ elim (is_one h && eqb t hub) [ true ↦ some c | false ↦ none ] ]

      go : (x : Option ℕ) → hubs (on_call f r pr c) x ≡ Option.map (on_call f r pr) (hubs c x)
      go none = refl
      go (some t) = either (is_one h && eqb t hub) (λ y. rw (y, hubs) refl) (λ n. rw (n, hubs) refl)
  hub_call_on (leaf h (token n)) = refl
  hub_call_on (leaf h terminal) = refl
  hub_call_on (leaf h end_of_input) = refl
  hub_call_on (block h b) = refl

  -- A question to the call that is found, which does not ask for its name.
  asked_on : (ask : Call → Bool) → ((c : Call) → ask (on_call f r pr c) ≡ ask c) → (x : Option Call)
      → ◌≡◌ {A = Bool} (elim (Option.map (on_call f r pr) x) as (λ y. Bool) [ none ↦ false | some c ↦ ask c ])
      (elim x as (λ y. Bool) [ none ↦ false | some c ↦ ask c ])
  asked_on ask e none = refl
  asked_on ask e (some c) = e c

  is_hub_call_on : (e : Element (Block d)) → is_hub_call g' hub (on f r pr one d e) ≡ is_hub_call g hub e
  unfolding is_hub_call
  is_hub_call_on e = rw (hub_call_on e, is_hub_call) (asked_on (λ c. true) (λ c. refl) (hub_call g hub e))

  arguments_on : (e : Element (Block d)) → gives_hub_arguments g' hub (on f r pr one d e) ≡ gives_hub_arguments g hub e
  unfolding gives_hub_arguments
  arguments_on e = rw (hub_call_on e, gives_hub_arguments) (asked_on (λ c. not (eqb c.arguments 0)) (λ c. refl) (hub_call g hub e))

  starts_on : (es : Elements d) → starts_with_hub_call g' hub (on_elements es) ≡ starts_with_hub_call g hub es
  unfolding starts_with_hub_call
  starts_on [] = refl
  starts_on (e ∷ es) = is_hub_call_on e

  -- Either sort of alternative.
  tail_on : (es : Elements d)
      → all (element_nullable g' (block_is_nullable g' d)) (drop 1 (on_elements es))
      ≡ all (element_nullable g (block_is_nullable g d)) (drop 1 es)
  tail_on es =
      ap (all (element_nullable g' (block_is_nullable g' d))) (drop_on (on f r pr one d) 1 es)
      ∙ elements_on f r pr one g (on_block f r pr d) (block_is_nullable g d) (block_is_nullable g' d) (block_on f r pr one g d) (drop 1 es)

  recursive_on : (es : Elements d) → is_recursive g' hub d (on_elements es) ≡ is_recursive g hub d es
  unfolding is_recursive
  recursive_on es = ap₂ (λ a b. a && not b) (starts_on es) (tail_on es)

  silent_on : (e : Element (Block d)) → is_epsilon_only (on f r pr one d e) ≡ is_epsilon_only e
  unfolding is_epsilon_only on_element on_leaf sort_of
  silent_on (leaf h epsilon) = refl
  silent_on (leaf h (action a)) = refl
  silent_on (leaf h (predicate p)) = refl
  silent_on (leaf h (call c)) = refl
  silent_on (leaf h (token n)) = refl
  silent_on (leaf h terminal) = refl
  silent_on (leaf h end_of_input) = refl
  silent_on (block h b) = refl

  module _ (c : Corners) (cycle : List ℕ) where
    left_on : (es : Elements d) → left_corners c g' d (on_elements es) ≡ left_corners c g d es
    unfolding left_corners
    left_on es =
        corners_on f r pr one g c (on_block f r pr d) (block_corners c g d) (block_corners c g' d)
        (block_is_nullable g d) (block_is_nullable g' d)
        (block_corners_on f r pr one g c d) (block_on f r pr one g d) es

    primary_on : (es : Elements d) → is_primary c g' cycle hub d (on_elements es) ≡ is_primary c g cycle hub d es
    unfolding is_primary
    primary_on es = ap₂ (λ a l. not (a || meet l cycle)) (starts_on es) (left_on es)

    fit_on : (es : Elements d) → is_fit c g' cycle hub d (on_elements es) ≡ is_fit c g cycle hub d es
    unfolding is_fit
    fit_on es =
        ap₂ ◌&&◌
        (ap₂ (λ a b. not (a || b))
        (any_same (on f r pr one d) (gives_hub_arguments g' hub) (gives_hub_arguments g hub) arguments_on es)
        (all_same (on f r pr one d) is_epsilon_only is_epsilon_only silent_on es))
        (ap₂ ◌||◌ (primary_on es) (recursive_on es))

    -- The whole list.
    pub rewritable_on : (ps : List (Planned d))
        → planned_hub_is_directly_rewritable c (on_grammar f r pr one g) cycle hub d (map (on_planned f r pr one d) ps)
        ≡ planned_hub_is_directly_rewritable c g cycle hub d ps
    unfolding planned_hub_is_directly_rewritable
    rewritable_on ps =
        ap₂ ◌&&◌
        (all_same (on_planned f r pr one d) _ (λ p. is_fit c g cycle hub d p.elements) (λ p. fit_on p.elements) ps)
        (ap₂ ◌&&◌
        (any_same (on_planned f r pr one d) _ (λ p. is_primary c g cycle hub d p.elements) (λ p. primary_on p.elements) ps)
        (any_same (on_planned f r pr one d) _ (λ p. is_recursive g hub d p.elements) (λ p. recursive_on p.elements) ps))
