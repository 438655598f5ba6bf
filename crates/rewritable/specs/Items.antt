-- The tests of planned_hub_is_directly_rewritable on elements, by the hub's name in place of its id.
use Rattle.std.specs.Prelude.{ℕ, ◌≡◌, List, [], ◌∷◌, Bool, true, false, ◌&&◌, ◌||◌, not, eqb}
use Rattle.std.proofs.Math.Option.{Option, none, some}
use Rattle.grammar.specs.Tree.{Call, Element, leaf, block, Block}
use Rattle.grammar.specs.Lists.{all, any}
use Rattle.grammar.specs.Found.{ElementSpans}
use Rattle.reference.specs.Walks.{silent, consuming, calling, sort_of, is_epsilon_only, is_one}
use Rattle.planned.specs.Layout.{made_if}

module _ {B : Type 0} (m : ℕ) where
  -- The call of a name that an element is, with quantifier 0.
  unfoldable pub call_of : Element B → Option Call
  call_of (leaf h l) =
      elim (sort_of l) [
        | silent ↦ none
        | consuming ↦ none
        | calling c ↦ elim (is_one h && eqb c.name m) [ true ↦ some c | false ↦ none ]
      ]
  call_of (block h b) = none

  unfoldable pub is_call_of : Element B → Bool
  is_call_of e = elim (call_of e) [ none ↦ false | some c ↦ true ]

  unfoldable pub gives_arguments : Element B → Bool
  gives_arguments e = elim (call_of e) [ none ↦ false | some c ↦ not (eqb c.arguments 0) ]

  unfoldable pub starts_with_call : List (Element B) → Bool
  starts_with_call [] = false
  starts_with_call (e ∷ es) = is_call_of e

  -- No arguments for the hub, and something significant.
  unfoldable pub may_be_rewritten : List (Element B) → Bool
  may_be_rewritten es = not (any gives_arguments es || all is_epsilon_only es)

-- A test of the element that stands at a place, made plain or not.
pub record ItemTested (ws : List ℕ) (end d at : ℕ) (made : Bool) (test : Element (Block d) → Bool) (r : Bool) : Type 0 where
  pub is : (e : Element (Block d)) (q : ℕ) → ElementSpans ws end d at e q → r ≡ test (made_if made e)
