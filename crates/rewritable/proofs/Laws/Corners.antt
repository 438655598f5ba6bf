-- Left corners are ids of rules that have a place, so that rows of bits tell whether one is in the cycle.
use Prim.Native.Nat.{ℕ, zero, suc, ◌<◌}
use mathlib.Core.Path.{◌≡◌, refl, sym, ap, ap₂, ◌∙◌, subst}
use mathlib.Core.Logic.{⊎_elim}
use mathlib.Core.List.Memᴰ
use mathlib.Core.List.{List, [], ◌∷◌, ◌++◌, Memᴰ}
use mathlib.Core.Option.{Option, none, some}
use mathlib.Core.Bool.{Bool, true, false, ◌&&◌, ◌||◌, not, or-false, or-true, true≢false, false≢true}
use lib.ListN.{get_or}
use lib.Dec.{eqb, ltb}
use borrow.Author.Tests.{eqb-true, ltb-true, lt-ltb}
use Rattle.std.specs.Cmp.{first_so, second_so}
use Rattle.grammar.specs.Tree.{Leaf, epsilon, action, predicate, call, token, terminal, end_of_input, Element, leaf, block, Block}
use Rattle.grammar.specs.Lists.{each, any, member, meet}
use Rattle.grammar.specs.Corners.{Corners}
use Rattle.grammar.specs.Laws.Lists.{in_member, member_in}
use Rattle.grammar.specs.Laws.Parse.{either}
use Rattle.reference.specs.Walks.{sort_of}
use Rattle.reference.specs.Analysis.{Grammar, target, calls, element_nullable, block_is_nullable, is_stop, collect_left_corner_calls}
use Rattle.reference.specs.Analysis.{block_corners, left_corners}
use Rattle.reach.specs.Rows.{bit, holds, RowOf, Meet, Empty}
use Rattle.analysis.specs.Names.{is_named, any_below}
use Rattle.analysis.specs.Survey.{View}
use Rattle.analysis.specs.Facts.{Agrees}

any_some : (f : ℕ → Bool) (n : ℕ) → any_below f n ≡ true → (j : ℕ) × (f j ≡ true)
unfolding any_below
any_some f zero t = absurd (false≢true t)
any_some f (suc n) t = either (f n) (λ u. (n, u)) (λ u. any_some f n (rw u at t))

-- Two lists that meet have a member in common.
meet_in : (xs ys : List ℕ) → meet xs ys ≡ true → (x : ℕ) × Memᴰ x xs × (member x ys ≡ true)
unfolding meet any
meet_in [] ys t = absurd (false≢true t)
meet_in (x ∷ xs) ys t =
    either (member x ys) (λ u. (x, Memᴰ.head refl, u))
    (λ u. let (y, m, v) = meet_in xs ys (rw u at t) in (y, Memᴰ.tail m, v))

in_meet : {x : ℕ} {xs : List ℕ} (ys : List ℕ) → Memᴰ x xs → member x ys ≡ true → meet xs ys ≡ true
unfolding meet any
in_meet ys (Memᴰ.head {xs = xs} e) t = ap (λ b. b || meet xs ys) (subst (λ z. member z ys ≡ true) e t)
in_meet ys (Memᴰ.tail {x = x} m) t = ap (λ b. member x ys || b) (in_meet ys m t) ∙ or-true (member x ys)

-- Every number in a list is the id of a rule that has a place.
record Placed (ids : List ℕ) (n x : ℕ) : Type 0 where
  place : ℕ
  low : place < n
  is : get_or ids place 0 ≡ x

record AllPlaced (ids : List ℕ) (n : ℕ) (xs : List ℕ) : Type 0 where
  one : (x : ℕ) → Memᴰ x xs → Placed ids n x

module _ {ids : List ℕ} {n : ℕ} where
  placed_none : AllPlaced ids n []
  placed_none = record { one = λ x m. absurd (Memᴰ.not-nil m) }

  placed_append : {xs ys : List ℕ} → AllPlaced ids n xs → AllPlaced ids n ys → AllPlaced ids n (xs ++ ys)
  placed_append {xs} a b = record { one = λ x m. ⊎_elim (a.one x) (b.one x) (Memᴰ.append_cases xs m) }

  placed_if : (b : Bool) {xs : List ℕ} → AllPlaced ids n xs → AllPlaced ids n (elim b [ true ↦ xs | false ↦ [] ])
  placed_if true a = a
  placed_if false a = placed_none

  placed_each : {A : Type 0} (f : A → List ℕ) → ((a : A) → AllPlaced ids n (f a)) → (as' : List A) → AllPlaced ids n (each f as')
  placed_each f h [] = placed_none
  placed_each f h (a ∷ as') = placed_append (h a) (placed_each f h as')

module _ {g : Grammar} {ids : List ℕ} {v : View} (w : Agrees g ids v) where
  placed_target : (m : ℕ) (t : Option ℕ) → target g m ≡ t → AllPlaced ids v.n (elim t [ none ↦ [] | some t ↦ t ∷ [] ])
  unfolding holds member
  placed_target m none e = placed_none
  placed_target m (some t) e =
      record { one = λ x l. ⊎_elim (λ u. there (rw u)) (λ u. absurd (Memᴰ.not-nil u)) (Memᴰ.cases_cons l) }
    where
      there : {x : ℕ} → x ≡ t → Placed ids v.n x
      there {x} u =
          let (j, a) = any_some (is_named v.names v.n m) v.n (w.known m ∙ ap (λ o. elim o [ none ↦ false | some t ↦ true ]) e) in
          let b = sym (w.calls m j ∙ ap (λ o. holds ids v.n (elim o [ none ↦ [] | some t ↦ t ∷ [] ]) j) e) ∙ a in
          record {
            place = j;
            low = ltb-true j v.n (first_so (ltb j v.n) _ b);
            is = eqb-true (get_or ids j 0) t (sym (or-false (eqb (get_or ids j 0) t)) ∙ second_so (ltb j v.n) _ b) ∙ sym u;
          }

  placed_leaf : (l : Leaf) → AllPlaced ids v.n (calls g l)
  unfolding calls sort_of
  placed_leaf epsilon = placed_none
  placed_leaf (action a) = placed_none
  placed_leaf (predicate a) = placed_none
  placed_leaf (call c) = placed_target c.name (target g c.name) refl
  placed_leaf (token a) = placed_none
  placed_leaf terminal = placed_none
  placed_leaf end_of_input = placed_none

  module _ (c : Corners) where
    placed_elements : {B : Type 0} (ks : B → List ℕ) (nu : B → Bool) → ((b : B) → AllPlaced ids v.n (ks b)) → (es : List (Element B))
        → AllPlaced ids v.n (collect_left_corner_calls c g ks nu es)
    unfolding collect_left_corner_calls
    placed_elements ks nu h [] = placed_none
    placed_elements ks nu h (leaf e l ∷ es) =
        placed_append (placed_leaf l) (placed_if (not (is_stop c g l) && element_nullable g nu (leaf e l)) (placed_elements ks nu h es))
    placed_elements ks nu h (block e b ∷ es) =
        placed_append (h b) (placed_if (element_nullable g nu (block e b)) (placed_elements ks nu h es))

    placed_block : (d : ℕ) (b : Block d) → AllPlaced ids v.n (block_corners c g d b)
    unfolding block_corners
    placed_block zero b = absurd b
    placed_block (suc d) b =
        placed_each (λ a. collect_left_corner_calls c g (block_corners c g d) (block_is_nullable g d) a.elements)
        (λ a. placed_elements (block_corners c g d) (block_is_nullable g d) (placed_block d) a.elements) b

    placed_corners : (d : ℕ) (es : List (Element (Block d))) → AllPlaced ids v.n (left_corners c g d es)
    unfolding left_corners
    placed_corners d = placed_elements (block_corners c g d) (block_is_nullable g d) (placed_block d)

-- Rows of two lists, the first of ids that have a place, have nothing in common where the lists have nothing in common.
module _ {ids : List ℕ} {n : ℕ} {xs ys a b both : List ℕ} (p : AllPlaced ids n xs) (f : RowOf ids n xs a) (g : RowOf ids n ys b)
    (m : Meet a b both) where
  in_both : (j : ℕ) → bit both j ≡ (holds ids n xs j && holds ids n ys j)
  in_both j = m.at j ∙ ap₂ ◌&&◌ (f.at j) (g.at j)

  rows_meet : {r : Bool} → Empty both r → r ≡ not (meet xs ys)
  unfolding holds
  rows_meet {r} e = either r (λ t. t ∙ sym (ap not (apart t))) (λ u. u ∙ sym (ap not (common u)))
    where
      apart : r ≡ true → meet xs ys ≡ false
      apart t = either (meet xs ys) (λ u. absurd (found u)) (λ u. u)
        where
          found : meet xs ys ≡ true → ⊥
          found u =
              let (x, i, k) = meet_in xs ys u in
              let q = p.one x i in
              let h : (zs : List ℕ) → member x zs ≡ true → holds ids n zs q.place ≡ true =
              λ zs z. rw (lt-ltb q.place n q.low, q.is) z in
              true≢false (sym (in_both q.place ∙ ap₂ ◌&&◌ (h xs (in_member i)) (h ys k)) ∙ e.none t q.place)

      common : r ≡ false → meet xs ys ≡ true
      common u =
          let (j, l, t) = e.some u in
          let k = sym (in_both j) ∙ t in
          let x = second_so (ltb j n) _ (first_so (holds ids n xs j) (holds ids n ys j) k) in
          let y = second_so (ltb j n) _ (second_so (holds ids n xs j) (holds ids n ys j) k) in
          in_meet ys (member_in xs x) y

-- So it is for the left corners of elements and the cycle.
pub corners_apart : {g : Grammar} {ids : List ℕ} {v : View} → Agrees g ids v → (c : Corners) (d : ℕ) (es : List (Element (Block d)))
    {cycle a b both : List ℕ} {r : Bool} → RowOf ids v.n (left_corners c g d es) a → RowOf ids v.n cycle b → Meet a b both
    → Empty both r → r ≡ not (meet (left_corners c g d es) cycle)
corners_apart w c d es f g m e = rows_meet (placed_corners w c d es) f g m e
