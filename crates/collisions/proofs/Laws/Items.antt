-- A walk over elements of a planned alternative, one item after the other.
use Prim.Native.Nat.{ℕ, suc, ◌+◌, ◌-◌, ◌<◌, ◌≤◌}
use mathlib.Core.Path.{◌≡◌, refl, sym, ap, ◌∙◌}
use mathlib.Core.List.{List}
use mathlib.Core.Bool.{Bool, true, false}
use native.Mathlib.Omega.{arith}
use lib.ListN.{length}
use lib.Seq.{take_all}
use Rattle.grammar.specs.Tree.{Label, Leaf, Element, leaf, block, Block}
use Rattle.grammar.specs.Fold.{Steps, folded, element_fold, block_fold, ElementWalked}
use Rattle.reference.specs.Substitute.{plain}
use Rattle.planned.specs.Layout.{made_if}
use Rattle.planned.specs.List.{ItemAt}
use Rattle.planned.specs.Laws.Items.{item_found}
use Rattle.collisions.specs.Walks.{noting, between, ItemsWalked}

-- Such walks do not look at quantifiers.
module _ {S : Type 0} (of_label : S → Label → S) (of_leaf : S → Leaf → S) where
  abbrev walk : Steps S
  walk = noting of_label of_leaf

  made_walked : {B : Type 0} (f : S → B → S) (s : S) (made : Bool) (e : Element B) → element_fold walk f s (made_if made e) ≡ element_fold walk f s e
  unfolding element_fold noting plain
  made_walked f s false e = refl
  made_walked f s true (leaf h l) = refl
  made_walked f s true (block h b) = refl

-- A loop over items, with those from i on left: a walk of those would be a walk of all.
pub record Itemizing {S : Type 0} (steps : Steps S) (d : ℕ) (es : List (Element (Block d))) (from to : ℕ) (s₀ : S) (i : ℕ) (s : S) : Type 0 where
  pub rest : (r : S) → ItemsWalked steps d es i to s r → ItemsWalked steps d es from to s₀ r
  pub few : i ≤ to

pub itemizing_all : {S : Type 0} {steps : Steps S} {d : ℕ} {es : List (Element (Block d))} {from to : ℕ} (s : S) → from ≤ to → Itemizing steps d es from to s from s
itemizing_all s l = record { rest = λ r w. w; few = l }

pub itemizing_done : {S : Type 0} {steps : Steps S} {d : ℕ} {es : List (Element (Block d))} {from to : ℕ} {s₀ : S} {i : ℕ} {s : S}
    → Itemizing steps d es from to s₀ i s → to ≤ i → ItemsWalked steps d es from to s₀ s
unfolding between
itemizing_done {es = es} {to = to} {i = i} {s} g l =
    let z : to - i ≡ 0 = omega arith in
    g.rest s (record { is = rw z refl })

module _ {S : Type 0} (of_label : S → Label → S) (of_leaf : S → Leaf → S) {d : ℕ} where
  item_more : {ws : List ℕ} {end : ℕ} {es : List (Element (Block d))} {to : ℕ} {i at p : ℕ} {made : Bool} {s t r : S} → i < to
      → ItemAt ws end d es i at made → ElementWalked (noting of_label of_leaf) ws end d at s p t
      → ItemsWalked (noting of_label of_leaf) d es (i + 1) to t r → ItemsWalked (noting of_label of_leaf) d es i to s r
  unfolding between
  item_more {es = es} {to} {i} {made = made} {s} {t} {r} l a w c =
      let f = a.found in
      let n : to - i ≡ suc (to - (i + 1)) = omega arith in
      record {
        is =
            c.is
            ∙ ap (λ u. folded (element_fold (walk of_label of_leaf) (block_fold (walk of_label of_leaf) d)) u (between es (i + 1) to))
            (w.value f.tree f.next f.spans ∙ sym (made_walked of_label of_leaf (block_fold (walk of_label of_leaf) d) s made f.tree))
            ∙ sym (rw (n, a.here f.tree f.next f.spans) refl);
      }

  pub itemizing_at : {ws : List ℕ} {end : ℕ} {es : List (Element (Block d))} {from to : ℕ} {s₀ : S} {i : ℕ} {s t : S} {at p : ℕ} {made : Bool}
      → Itemizing (noting of_label of_leaf) d es from to s₀ i s → i < to → ItemAt ws end d es i at made
      → ElementWalked (noting of_label of_leaf) ws end d at s p t
      → Itemizing (noting of_label of_leaf) d es from to s₀ (i + 1) t
  itemizing_at g l a w = record { rest = λ r c. g.rest r (item_more l a w c); few = omega arith }

pub ruleset itemizing = (item_found, itemizing_all, itemizing_done, itemizing_at)

-- All items.
pub between_all : {A : Type 0} (as' : List A) {n : ℕ} → length as' ≡ n → between as' 0 n ≡ as'
unfolding between
between_all as' {n} e = take_all (n - 0) as' (omega arith)
