-- The definition's graph and the rows of bits have the same paths.
use Prim.Native.Nat.{ℕ, zero, suc, ◌<◌}
use mathlib.Core.Path.{◌≡◌, refl, sym, ap, ◌∙◌, subst}
use mathlib.Core.Logic.{◌⊎◌, inl, inr, ⊎_elim}
use mathlib.Core.List.Memᴰ
use mathlib.Core.List.{List, [], ◌∷◌, map, Memᴰ}
use mathlib.Core.Bool.{true, not, true≢false}
use native.Mathlib.Omega.{arith}
use lib.ListN.{length, get_or}
use lib.Dec.{eqb}
use borrow.Author.Tests.{eqb-true, eqb-false, not-true}
use Rattle.std.proofs.lemmas.Bool.{and_from}
use Rattle.std.specs.Cmp.{first_so, second_so}
use Rattle.grammar.specs.Laws.Lists.{in_member, member_in, in_map}
use Rattle.grammar.specs.Lists.{member, distinct}
use Rattle.grammar.specs.Laws.Parse.{either}
use Rattle.reference.specs.Analysis.{Row, row_ids}
use Rattle.graph.specs.Members.{one_with}
use Rattle.graph.specs.Reach.{Edge, Way, way_start}
use Rattle.reach.specs.Rows.{edge}
use Rattle.reach.specs.Reach.{Path, last, more, other}
use Rattle.reach.specs.Listed.{row_at, Numbered, Edges}

-- An item by its place, and the place of an item.
pub at_in : {A : Type 0} (d : A) (xs : List A) (i : ℕ) → i < length xs → Memᴰ (get_or xs i d) xs
at_in d [] i l = absurd (omega arith)
at_in d (x ∷ xs) zero l = Memᴰ.head refl
at_in d (x ∷ xs) (suc i) l = Memᴰ.tail (at_in d xs i (omega arith))

pub in_at : {A : Type 0} (d : A) {x : A} {xs : List A} → Memᴰ x xs → (i : ℕ) × (i < length xs) × (get_or xs i d ≡ x)
in_at d (Memᴰ.head e) = (0, (omega arith), sym e)
in_at d (Memᴰ.tail m) = let (i, l, e) = in_at d m in (suc i, (omega arith), e)

-- Where numbers are not shared, a number has one place.
not_behind : {A : Type 0} (key : A → ℕ) (d x : A) (xs : List A) → distinct (map key (x ∷ xs)) ≡ true → (j : ℕ) → j < length xs
    → key x ≡ key (get_or xs j d) → ⊥
unfolding distinct
not_behind key d x xs t j l e =
    let f = not-true (member (key x) (map key xs)) (first_so (not (member (key x) (map key xs))) _ t) in
    true≢false (sym (in_member (subst (λ n. Memᴰ n (map key xs)) (sym e) (in_map key (at_in d xs j l)))) ∙ f)

pub one_place : {A : Type 0} (key : A → ℕ) (d : A) (xs : List A) → distinct (map key xs) ≡ true → (i j : ℕ) → i < length xs → j < length xs
    → key (get_or xs i d) ≡ key (get_or xs j d) → i ≡ j
unfolding distinct
one_place key d [] t i j l m e = absurd (omega arith)
one_place key d (x ∷ xs) t zero zero l m e = refl
one_place key d (x ∷ xs) t zero (suc j) l m e = absurd (not_behind key d x xs t j (omega arith) e)
one_place key d (x ∷ xs) t (suc i) zero l m e = absurd (not_behind key d x xs t i (omega arith) (sym e))
one_place key d (x ∷ xs) t (suc i) (suc j) l m e =
    ap suc (one_place key d xs (second_so (not (member (key x) (map key xs))) _ t) i j (omega arith) (omega arith) e)

-- Paths between different rules, and paths with a rule's own edges.
pub other_path : (corners : List (List ℕ)) {n i j : ℕ} → Path (other corners) n i j → Path (edge corners) n i j
unfolding other
other_path corners (last {i = i} {j = j} e) = last (first_so (edge corners i j) _ e)
other_path corners (more {i = i} {k = k} e l p) = more (first_so (edge corners i k) _ e) l (other_path corners p)

pub other_differs : (corners : List (List ℕ)) {i j : ℕ} → other corners i j ≡ true → i ≡ j → ⊥
unfolding other
other_differs corners {i} {j} e d = eqb-false j i (not-true (eqb j i) (second_so (edge corners i j) _ e)) (sym d)

pub path_other : (corners : List (List ℕ)) {n i j : ℕ} → Path (edge corners) n i j → (i ≡ j) ⊎ Path (other corners) n i j
unfolding other
path_other corners {n} (last {i = i} {j = j} e) = either (eqb j i) (λ t. inl (sym (eqb-true j i t)))
    (λ f. inr (last (and_from (edge corners i j) _ e (ap not f))))
path_other corners {n} (more {i = i} {k = k} {j = j} e l p) =
    either (eqb k i)
    (λ t. subst (λ x. (x ≡ j) ⊎ Path (other corners) n x j) (eqb-true k i t) (path_other corners p))
    (λ f.
    let d = and_from (edge corners i k) _ e (ap not f) in
    ⊎_elim (λ q. inr (last (subst (λ x. other corners i x ≡ true) q d))) (λ q. inr (more d l q)) (path_other corners p))

module _ {rows : List Row} {n : ℕ} (h : Numbered rows n) where
  inside : {i : ℕ} → i < n → i < length rows
  inside {i} l = subst (λ x. i < x) h.count l

  pub row_in : {i : ℕ} → i < n → Memᴰ (row_at rows i) rows
  row_in {i} l = at_in (record { id = 0; to = [] }) rows i (inside l)

  pub id_in : {i : ℕ} → i < n → Memᴰ (row_at rows i).id (row_ids rows)
  id_in l = in_map (λ r. r.id) (row_in l)

  pub in_id : {x : ℕ} → Memᴰ x (row_ids rows) → (i : ℕ) × (i < n) × ((row_at rows i).id ≡ x)
  in_id m =
      let (r, k, e) = Memᴰ.of_map (λ r. r.id) rows m in
      let (i, l, d) = in_at (record { id = 0; to = [] }) k in
      (i, subst (λ x. i < x) (sym h.count) l, ap (λ r. r.id) d ∙ e)

  pub one_id : {i j : ℕ} → i < n → j < n → (row_at rows i).id ≡ (row_at rows j).id → i ≡ j
  one_id {i} {j} l m e = one_place (λ r. r.id) (record { id = 0; to = [] }) rows h.apart i j (inside l) (inside m) e

module _ {rows : List Row} {n : ℕ} {corners : List (List ℕ)} (h : Edges rows n corners) where
  abbrev id : ℕ → ℕ
  id i = (row_at rows i).id

  bit_edge : {i j : ℕ} → i < n → j < n → edge corners i j ≡ true → Edge rows (id i) (id j)
  bit_edge {i} {j} l m t =
      record { row = row_at rows i; there = row_in h.numbered l; from = refl; leads = member_in _ (sym (h.bits i j l m) ∙ t) }

  edge_bit : {i j : ℕ} → i < n → j < n → Edge rows (id i) (id j) → edge corners i j ≡ true
  edge_bit {i} {j} l m e =
      let same = one_with (λ r. r.id) rows h.numbered.apart e.there (row_in h.numbered l) e.from in
      h.bits i j l m ∙ in_member (subst (λ r. Memᴰ (id j) r.to) same e.leads)

  pub path_way : {i j : ℕ} → i < n → j < n → Path (edge corners) n i j → Way rows (id i) (id j)
  path_way l m (last e) = Way.last (bit_edge l m e)
  path_way l m (more e k p) = Way.more (bit_edge l k e) (path_way k m p)

  pub way_path : {i j x y : ℕ} → i < n → j < n → id i ≡ x → id j ≡ y → Way rows x y → Path (edge corners) n i j
  way_path {i} {j} l m a b (Way.last e) = last (edge_bit l m (subst (λ z. Edge rows z (id j)) (sym a) (subst (Edge rows _) (sym b) e)))
  way_path {i} {j} l m a b (Way.more {j = z} e w) =
      let (k, q, d) = in_id h.numbered (way_start w) in
      more (edge_bit l q (subst (λ v. Edge rows v (id k)) (sym a) (subst (Edge rows _) (sym d) e))) q (way_path {i = k} q m d b w)
