-- A rule among the calls that a walk collects is called by a name, and what holds of every call holds of that.
use Prim.Native.Nat.{ℕ, zero, suc}
use Rattle.std.specs.Prelude.{◌≡◌}
use Rattle.std.proofs.Math.Path.{refl, ap}
use Rattle.std.proofs.Common.{sym, ◌∙◌}
use Rattle.std.proofs.Math.Logic.{⊎_elim}
use mathlib.Core.List.Memᴰ
use mathlib.Core.List.{List, [], ◌∷◌, Memᴰ}
use Rattle.std.proofs.Math.Option.{Option, none, some}
use Rattle.grammar.specs.Lists.{each, nothing}
use Rattle.grammar.specs.Tree.{Leaf, epsilon, action, predicate, call, token, terminal, end_of_input, Element, leaf, block, Block}
use Rattle.language.specs.Shape.{erase_leaf, erase_element, erase_block, EachCall}
use Rattle.reference.specs.Walks.{sort_of, element_gives, block_gives, elements_give}
use Rattle.reference.specs.Analysis.{Grammar, target, calls, collect_calls_in_elements}
use Rattle.laws.specs.Planning.Turns.{Items}
use Rattle.laws.specs.Planning.Substituted.{shape_of, body_of}
use Rattle.laws.specs.Planning.Calls.{unquantified}

module _ (g : Grammar) (P : ℕ → Type 0) (t : ℕ) where
  abbrev pub Named : Type 0
  Named = (n : ℕ) × (target g n ≡ some t) × P n

  leaf_named : (k : ℕ) (l : Leaf) → EachCall P (erase_leaf k l) → Memᴰ t (calls g l) → Named
  unfolding erase_leaf calls sort_of
  leaf_named k epsilon p m = absurd (Memᴰ.not-nil m)
  leaf_named k (action a) p m = absurd (Memᴰ.not-nil m)
  leaf_named k (predicate a) p m = absurd (Memᴰ.not-nil m)
  leaf_named k (call c) p m = go (target g c.name) refl m
    where
      go : (o : Option ℕ) → target g c.name ≡ o → Memᴰ t (elim o as (λ x. List ℕ) [ none ↦ [] | some t ↦ t ∷ [] ]) → Named
      go none e n = absurd (Memᴰ.not-nil n)
      go (some u) e n = (c.name, e ∙ ap some (sym (Memᴰ.eq_of_singleton n)), p)
  leaf_named k (token n) p m = absurd (Memᴰ.not-nil m)
  leaf_named k terminal p m = absurd (Memᴰ.not-nil m)
  leaf_named k end_of_input p m = absurd (Memᴰ.not-nil m)

  module _ (d : ℕ) (inner : (b : Block d) → EachCall P (erase_block d b) → Memᴰ t (block_gives nothing (calls g) d b) → Named) where
    element_named : (e : Element (Block d)) → EachCall P (erase_element (erase_block d) e)
        → Memᴰ t (element_gives nothing (calls g) (block_gives nothing (calls g) d) e) → Named
    unfolding erase_element element_gives
    element_named (leaf h l) p m = leaf_named h.carried l (unquantified P h.quantifier (erase_leaf h.carried l) p) m
    element_named (block h b) p m = inner b (unquantified P h.quantifier (erase_block d b) p) m

    elements_named : (es : Items d) → EachCall P (shape_of d es)
        → Memᴰ t (each (element_gives nothing (calls g) (block_gives nothing (calls g) d)) es) → Named
    elements_named [] p m = absurd (Memᴰ.not-nil m)
    elements_named (e ∷ es) p m =
        ⊎_elim (element_named e p.0) (elements_named es p.1)
        (Memᴰ.append_cases (element_gives nothing (calls g) (block_gives nothing (calls g) d) e) m)

  pub block_named : (d : ℕ) (b : Block d) → EachCall P (erase_block d b) → Memᴰ t (block_gives nothing (calls g) d b) → Named
  unfolding block_gives erase_block
  block_named zero b p m = absurd b
  block_named (suc d) [] p m = absurd (Memᴰ.not-nil m)
  block_named (suc d) (a ∷ as') p m =
      ⊎_elim (elements_named d (block_named d) a.elements p.0) (block_named (suc d) as' p.1)
      (Memᴰ.append_cases (each (element_gives nothing (calls g) (block_gives nothing (calls g) d)) a.elements) m)

  -- Of the alternatives of a planned list.
  pub items_named : (d : ℕ) (ps : List (Items d)) → EachCall P (body_of d ps) → Memᴰ t (each (collect_calls_in_elements g d) ps) → Named
  unfolding collect_calls_in_elements elements_give
  items_named d [] p m = absurd (Memᴰ.not-nil m)
  items_named d (es ∷ ps) p m =
      ⊎_elim (elements_named d (block_named d) es p.0) (items_named d ps p.1)
      (Memᴰ.append_cases (collect_calls_in_elements g d es) m)
