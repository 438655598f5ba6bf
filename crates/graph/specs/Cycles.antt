-- Cycles that the definition lists, and components as what is joined by ways in both directions.
use Rattle.std.specs.Prelude.{ℕ, ◌≡◌, ◌⊎◌}
use Rattle.std.proofs.Math.Path.{refl, subst}
use Rattle.std.proofs.Common.{sym, ap, ◌∙◌, inl, inr, arith, eqb-true}
use Rattle.std.proofs.Math.Logic.{⊎_elim}
use mathlib.Core.List.Memᴰ
use mathlib.Core.List.{List, [], ◌∷◌, map, Memᴰ}
use Rattle.std.proofs.Math.Bool.{true}
use Rattle.std.proofs.lemmas.Bool.{false≢true}
use Rattle.grammar.specs.Tree.{Block, RuleOf}
use Rattle.grammar.specs.Lists.{distinct}
use Rattle.grammar.specs.Corners.{Corners}
use Rattle.reference.specs.Analysis.{Grammar, ids_of, row_of, Row, row_ids, reach, component, is_cycle, cycles_from}
use Rattle.graph.specs.Members.{in_push, push_tail}
use Rattle.graph.specs.Order.{Rising}
use Rattle.graph.specs.Reach.{Way, way_way, edge_way, way_edge, in_component, component_in, component_rising, reach_ids}

module _ (rows : List Row) where
  pub in_cycles : {cycle : List ℕ} (is : List ℕ) → Memᴰ cycle (cycles_from rows is)
      → (i : ℕ) × Memᴰ i is × (cycle ≡ component rows i) × (is_cycle i (component rows i) ≡ true)
  unfolding cycles_from
  in_cycles [] m = absurd (Memᴰ.not-nil m)
  in_cycles (i ∷ is) m =
      ⊎_elim (λ r. (i, Memᴰ.head refl, r.0, r.1))
      (λ n. let r = in_cycles is n in (r.0, Memᴰ.tail r.1, r.2, r.3))
      (in_push (is_cycle i (component rows i)) m)

  pub cycles_in : {i : ℕ} {is : List ℕ} → Memᴰ i is → is_cycle i (component rows i) ≡ true
      → Memᴰ (component rows i) (cycles_from rows is)
  unfolding cycles_from
  cycles_in {i} (Memᴰ.head {x = x} e) t =
      let u : is_cycle x (component rows x) ≡ true = subst (λ k. is_cycle k (component rows k) ≡ true) e t in
      rw u (Memᴰ.head (ap (component rows) e))
  cycles_in (Memᴰ.tail {x = x} m) t = push_tail (component rows x) (is_cycle x (component rows x)) (cycles_in m t)

-- Of a list that passes: its first, and another behind it.
pub record Several (i : ℕ) (c : List ℕ) : Type 0 where
  pub other : ℕ
  pub rest : List ℕ
  pub whole : c ≡ i ∷ other ∷ rest

pub several_of : (i : ℕ) (c : List ℕ) → is_cycle i c ≡ true → Several i c
unfolding is_cycle
several_of i [] t = absurd (false≢true t)
several_of i (x ∷ []) t = absurd (false≢true t)
several_of i (x ∷ y ∷ ys) t = record { other = y; rest = ys; whole = ap (λ k. k ∷ y ∷ ys) (sym (eqb-true i x t)) }

module _ (rows : List Row) where
  pub component_ways : {i j : ℕ} → Memᴰ j (component (reach rows) i) → (j ≡ i) ⊎ (Way rows i j × Way rows j i)
  component_ways m = ⊎_elim inl (λ p. inr (edge_way rows p.0, edge_way rows p.1)) (in_component (reach rows) m).1

  pub ways_component : {i j : ℕ} → Memᴰ j (row_ids rows) → Memᴰ i (row_ids rows) → Way rows i j → Way rows j i
      → Memᴰ j (component (reach rows) i)
  ways_component {i} {j} k l a b =
      component_in (reach rows) (subst (Memᴰ j) (sym (reach_ids rows)) k) (inr (way_edge rows a k, way_edge rows b l))

  module _ (ids : distinct (row_ids rows) ≡ true) where
    pub component_rises : (i : ℕ) → Rising (component (reach rows) i)
    component_rises i = component_rising (reach rows) (ap distinct (reach_ids rows) ∙ ids) i

    -- A member of a component with another reaches itself.
    component_self : {i : ℕ} → Several i (component (reach rows) i) → Way rows i i
    component_self {i} s =
        let up : Rising (i ∷ s.other ∷ s.rest) = subst Rising s.whole (component_rises i) in
        let low = up.0 s.other (Memᴰ.head refl) in
        ⊎_elim (λ e. absurd (omega arith)) (λ w. way_way w.0 w.1)
        (component_ways (subst (Memᴰ s.other) (sym s.whole) (Memᴰ.tail (Memᴰ.head refl))))

    -- From the least rule of a component to each member, and back.
    pub component_both : {i j : ℕ} → Several i (component (reach rows) i) → Memᴰ j (component (reach rows) i)
        → Way rows i j × Way rows j i
    component_both {i} {j} s m =
        ⊎_elim (λ e. let w = component_self s in (subst (Way rows i) (sym e) w, subst (λ x. Way rows x i) (sym e) w)) (λ w. w)
        (component_ways m)

-- The rows of rules have the rules' ids.
pub row_ids_lem : (c : Corners) (g : Grammar) (d : ℕ) (rs : List (RuleOf (Block d))) → row_ids (map (row_of c g d) rs) ≡ ids_of rs
row_ids_lem c g d [] = refl
row_ids_lem c g d (r ∷ rs) = ap (λ l. r.id ∷ l) (row_ids_lem c g d rs)
