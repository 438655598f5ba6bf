-- What is promised of planned_hub_is_directly_rewritable (SPECIFICATION 9.1 to 9.5): a planned list passes exactly if it has the
-- shape of 1.7, read in the grammar before the plan, and two things more.
use Rattle.std.specs.Prelude.{ℕ, ◌≡◌, ◌⊎◌}
use mathlib.Core.List.{List, Memᴰ}
use Rattle.grammar.specs.Tree.{ElementHead, Action, Predicate, Call, epsilon, action, predicate, call, Element, leaf, Block, Rule}
use Rattle.grammar.specs.Corners.{Corners}
use Rattle.reference.specs.Substitute.{Planned}
use Rattle.reference.specs.Run.{inner_depth}
use Rattle.laws.specs.Demands.Shape.{Continues, NoCorner}

-- An element of kind 0, 1 or 2.
pub data Silent {B : Type 0} : Element B → Type 0 where
  is_epsilon : {h : ElementHead} → Silent (leaf h epsilon)
  is_action : {h : ElementHead} {a : Action} → Silent (leaf h (action a))
  is_predicate : {h : ElementHead} {p : Predicate} → Silent (leaf h (predicate p))

pub record Rewritable (c : Corners) (rules : List Rule) (cycle : List ℕ) (hub : Rule) (ps : List (Planned inner_depth)) : Type 0 where
  -- Beyond 1.7 (SPECIFICATION 9.2): no outermost call of the hub with quantifier 0 has arguments, and some element is not silent.
  pub no_arguments : (p : Planned inner_depth) → Memᴰ p ps → (h : ElementHead) (k : Call) → Memᴰ (leaf h (call k)) p.elements
      → k.name ≡ hub.name → h.quantifier ≡ 0 → k.arguments ≡ 0
  pub significant : (p : Planned inner_depth) → Memᴰ p ps
      → (e : Element (Block inner_depth)) × Memᴰ e p.elements × (Silent e → ⊥)
  -- 1.7, of the planned list.
  pub every : (p : Planned inner_depth) → Memᴰ p ps
      → Continues rules hub.name p.elements ⊎ NoCorner c rules cycle p.elements
  pub one_continues : (p : Planned inner_depth) × Memᴰ p ps × Continues rules hub.name p.elements
  pub one_without : (p : Planned inner_depth) × Memᴰ p ps × NoCorner c rules cycle p.elements
