-- The tests before a step find what they say: each walk gives the names that stand somewhere in the elements, and no others.
use Prim.Native.Nat.{ℕ, zero, suc, ◌≤◌}
use Rattle.std.specs.Prelude.{◌≡◌, ◌↔◌, ◌⊎◌, true, length}
use Rattle.std.proofs.Math.Path.{refl, ap₂}
use Rattle.std.proofs.Common.{sym, ap, ◌∙◌, subst}
use Rattle.std.proofs.Math.Logic.{inl, inr, ⊎_elim}
use mathlib.Core.List.Memᴰ
use mathlib.Core.List.{List, ◌∷◌, ◌++◌, map, Memᴰ}
use Rattle.std.proofs.Math.Bool.{Bool}
use Rattle.std.proofs.Math.Dec.{leb}
use borrow.Author.Tests.{leb-true, le-leb}
use Rattle.std.proofs.lemmas.Bool.{or_left, or_right}
use Rattle.grammar.specs.Lists.{each, nothing, any, member, meet, keep}
use Rattle.grammar.specs.Laws.Lists.{member_in, in_member, in_map}
use Rattle.grammar.specs.Laws.Parse.{either}
use Rattle.grammar.specs.Tree.{Reference, Label, unlabelled, labelled, ElementHead, Leaf, epsilon, action, predicate, call, token, terminal}
use Rattle.grammar.specs.Tree.{end_of_input, Element, leaf, block, Block}
use Rattle.grammar.specs.Numbers.{qualified}
use Rattle.graph.specs.Members.{each_in, in_each, in_keep, keep_in}
use Rattle.reference.specs.Walks.{element_gives, block_gives, elements_give, label_names, leaf_names, references}
use Rattle.reference.specs.Substitute.{without, collect_labels, action_reference_names, bindable_names, labels_collide}
use Rattle.reference.specs.Substitute.{implicit_bindings_collide, remaining_actions_reference}
use Rattle.laws.specs.Demands.Collisions.{HeadIn, of_leaf, of_block, head_deeper, LeafIn, outermost, leaf_deeper, Items, Labels, Binds}
use Rattle.laws.specs.Demands.Collisions.{by_label, by_call, by_token, HasReference, in_action, in_predicate, RefersTo, Reads, SameLabel}
use Rattle.laws.specs.Demands.Collisions.{SameBinding}
use Rattle.laws.specs.Lists.Lookup.{any_in}
use Rattle.laws.specs.Planning.Corner.{take_front, drop_behind}

-- A number that a walk gives comes from a label or a leaf, and what they give the walk gives.
module _ (of_label : Label → List ℕ) (of_leafs : Leaf → List ℕ) (n : ℕ) where
  abbrev Given : (d : ℕ) → Items d → Type 0
  Given d es =
      ((h : ElementHead) × HeadIn h d es × Memᴰ n (of_label h.label)) ⊎ ((l : Leaf) × LeafIn l d es × Memᴰ n (of_leafs l))

  given_deeper : {d : ℕ} {es : Items (suc d)} {h : ElementHead} {b : Block (suc d)} → Memᴰ (block h b) es
      → Memᴰ n (block_gives of_label of_leafs (suc d) b)
      → ((fs : Items d) → Memᴰ n (elements_give of_label of_leafs d fs) → Given d fs)
      → Given (suc d) es
  unfolding block_gives elements_give
  given_deeper {d} {b = b} i m ih =
      let (a, j, k) = each_in (λ a. each (element_gives of_label of_leafs (block_gives of_label of_leafs d)) a.elements) b m in
      ⊎_elim (λ x. inl (x.0, head_deeper i j x.1, x.2)) (λ x. inr (x.0, leaf_deeper i j x.1, x.2)) (ih a.elements k)

  walk_given : (d : ℕ) (es : Items d) → Memᴰ n (elements_give of_label of_leafs d es) → Given d es
  unfolding elements_give element_gives
  walk_given zero es m =
      let (e, i, k) = each_in (element_gives of_label of_leafs (block_gives of_label of_leafs zero)) es m in
      go e i k
    where
      go : (e : Element (Block zero)) → Memᴰ e es → Memᴰ n (element_gives of_label of_leafs (block_gives of_label of_leafs zero) e)
          → Given zero es
      go (leaf h l) i k =
          ⊎_elim (λ m. inl (h, of_leaf i, m)) (λ m. inr (l, outermost i, m)) (Memᴰ.append_cases (of_label h.label) k)
      go (block h b) i k = absurd b
  walk_given (suc d) es m =
      let (e, i, k) = each_in (element_gives of_label of_leafs (block_gives of_label of_leafs (suc d))) es m in
      go e i k (walk_given d)
    where
      go : (e : Element (Block (suc d))) → Memᴰ e es
          → Memᴰ n (element_gives of_label of_leafs (block_gives of_label of_leafs (suc d)) e)
          → ((fs : Items d) → Memᴰ n (elements_give of_label of_leafs d fs) → Given d fs)
          → Given (suc d) es
      go (leaf h l) i k ih =
          ⊎_elim (λ m. inl (h, of_leaf i, m)) (λ m. inr (l, outermost i, m)) (Memᴰ.append_cases (of_label h.label) k)
      go (block h b) i k ih =
          ⊎_elim (λ m. inl (h, of_block i, m)) (λ m. given_deeper i m ih) (Memᴰ.append_cases (of_label h.label) k)

  head_walked : {h : ElementHead} → Memᴰ n (of_label h.label) → {d : ℕ} {es : Items d} → HeadIn h d es
      → Memᴰ n (elements_give of_label of_leafs d es)
  unfolding elements_give element_gives block_gives
  head_walked {h} m (of_leaf {d = d} {l = l} i) =
      in_each (element_gives of_label of_leafs (block_gives of_label of_leafs d)) i (Memᴰ.append_left (of_leafs l) m)
  head_walked {h} m (of_block {d = d} {b = b} i) =
      in_each (element_gives of_label of_leafs (block_gives of_label of_leafs d)) i (Memᴰ.append_left (block_gives of_label of_leafs d b) m)
  head_walked {h} m (head_deeper {d = d} {k = k} i j x) =
      in_each (element_gives of_label of_leafs (block_gives of_label of_leafs (suc d))) i
      (Memᴰ.append_right (of_label k.label)
      (in_each (λ a. each (element_gives of_label of_leafs (block_gives of_label of_leafs d)) a.elements) j (head_walked m x)))

  leaf_walked : {l : Leaf} → Memᴰ n (of_leafs l) → {d : ℕ} {es : Items d} → LeafIn l d es
      → Memᴰ n (elements_give of_label of_leafs d es)
  unfolding elements_give element_gives block_gives
  leaf_walked m (outermost {d = d} {h = h} i) =
      in_each (element_gives of_label of_leafs (block_gives of_label of_leafs d)) i (Memᴰ.append_right (of_label h.label) m)
  leaf_walked m (leaf_deeper {d = d} {k = k} i j x) =
      in_each (element_gives of_label of_leafs (block_gives of_label of_leafs (suc d))) i
      (Memᴰ.append_right (of_label k.label)
      (in_each (λ a. each (element_gives of_label of_leafs (block_gives of_label of_leafs d)) a.elements) j (leaf_walked m x)))

-- One that passes is there.
pub in_any : {A : Type 0} (test : A → Bool) {a : A} {as' : List A} → Memᴰ a as' → test a ≡ true → any test as' ≡ true
unfolding any
in_any test (Memᴰ.head e) t = rw (ap test (sym e) ∙ t, any)
in_any test (Memᴰ.tail {x = x} m) t = or_right (test x) _ (in_any test m t)

-- Two lists meet exactly if a number is in both.
meet_both : (xs ys : List ℕ) → (meet xs ys ≡ true) ↔ ((n : ℕ) × Memᴰ n xs × Memᴰ n ys)
unfolding meet
meet_both xs ys = (
  λ t. let (n, i, k) = any_in (λ x. member x ys) xs t in (n, i, member_in ys k),
  λ b. in_any (λ x. member x ys) b.1 (in_member b.2),
)

label_named : {n : ℕ} (l : Label) → Memᴰ n (label_names l) → (i : ℕ) × (l ≡ labelled i n)
label_named unlabelled m = absurd (Memᴰ.not-nil m)
label_named (labelled i k) m = (i, ap (labelled i) (sym (Memᴰ.eq_of_singleton m)))

named_label : {n : ℕ} (l : Label) {i : ℕ} → l ≡ labelled i n → Memᴰ n (label_names l)
named_label {n} l e = subst (λ x. Memᴰ n (label_names x)) (sym e) (Memᴰ.head refl)

module _ (d : ℕ) (n : ℕ) (es : Items d) where
  labels_walked : Memᴰ n (collect_labels d es) ↔ Labels d n es
  unfolding collect_labels
  labels_walked = (
    λ m.
        ⊎_elim
        (λ x. let (i, e) = label_named x.0.label x.2 in record { head = x.0; there = x.1; id = i; is_label = e })
        (λ x. absurd (Memᴰ.not-nil x.2))
        (walk_given label_names nothing n d es m),
    λ x. head_walked label_names nothing n (named_label x.head.label x.is_label) x.there,
  )

  leaf_binds : (l : Leaf) → LeafIn l d es → Memᴰ n (leaf_names l) → Binds d n es
  unfolding leaf_names
  leaf_binds epsilon i m = absurd (Memᴰ.not-nil m)
  leaf_binds (action a) i m = absurd (Memᴰ.not-nil m)
  leaf_binds (predicate p) i m = absurd (Memᴰ.not-nil m)
  leaf_binds (call c) i m = by_call i (sym (Memᴰ.eq_of_singleton m))
  leaf_binds (token k) i m = by_token (subst (λ k. LeafIn (token k) d es) (sym (Memᴰ.eq_of_singleton m)) i)
  leaf_binds terminal i m = absurd (Memᴰ.not-nil m)
  leaf_binds end_of_input i m = absurd (Memᴰ.not-nil m)

  bindings_walked : Memᴰ n (bindable_names d es) ↔ Binds d n es
  unfolding bindable_names leaf_names
  bindings_walked = (
    λ m.
        ⊎_elim
        (λ x.
        let (i, e) = label_named x.0.label x.2 in
        by_label (record { head = x.0; there = x.1; id = i; is_label = e }))
        (λ x. leaf_binds x.0 x.1 x.2)
        (walk_given label_names leaf_names n d es m),
    bound,
  )
    where
      bound : Binds d n es → Memᴰ n (elements_give label_names leaf_names d es)
      bound (by_label x) = head_walked label_names leaf_names n (named_label x.head.label x.is_label) x.there
      bound (by_call i e) = leaf_walked label_names leaf_names n (Memᴰ.head (sym e)) i
      bound (by_token i) = leaf_walked label_names leaf_names n (Memᴰ.head refl) i

  -- References of a sort, which is handed in with those that are kept of a list.
  module _ (kept : List Reference → List Reference) (Sort : Reference → Type 0)
      (same : (r : Reference) (rs : List Reference) → Memᴰ r (kept rs) ↔ (Memᴰ r rs × Sort r)) where
    abbrev names : Leaf → List ℕ
    names l = map (λ r. r.name) (kept (references l))

    abbrev Found : Type 0
    Found = (r : Reference) × HasReference d r es × (r.name ≡ n) × Sort r

    found_in : (l : Leaf) → ((r : Reference) → Memᴰ r (references l) → HasReference d r es) → Memᴰ n (names l) → Found
    found_in l has m =
        let (r, i, e) = Memᴰ.of_map (λ r. r.name) (kept (references l)) m in
        let (there, t) = (same r (references l)).0 i in
        (r, has r there, e, t)

    leaf_refers : (l : Leaf) → LeafIn l d es → Memᴰ n (names l) → Found
    unfolding references
    leaf_refers epsilon i m = found_in epsilon (λ r k. absurd (Memᴰ.not-nil k)) m
    leaf_refers (action a) i m = found_in (action a) (λ r k. in_action i k) m
    leaf_refers (predicate p) i m = found_in (predicate p) (λ r k. in_predicate i k) m
    leaf_refers (call c) i m = found_in (call c) (λ r k. absurd (Memᴰ.not-nil k)) m
    leaf_refers (token k) i m = found_in (token k) (λ r k. absurd (Memᴰ.not-nil k)) m
    leaf_refers terminal i m = found_in terminal (λ r k. absurd (Memᴰ.not-nil k)) m
    leaf_refers end_of_input i m = found_in end_of_input (λ r k. absurd (Memᴰ.not-nil k)) m

    found_name : (l : Leaf) {r : Reference} → Memᴰ r (references l) → r.name ≡ n → Sort r → Memᴰ n (names l)
    found_name l {r} k e t = subst (λ n. Memᴰ n (names l)) e (in_map (λ r. r.name) ((same r (references l)).1 (k, t)))

    references_walked : Memᴰ n (elements_give nothing names d es) ↔ Found
    unfolding references
    references_walked = (
      λ m.
          ⊎_elim (λ x. absurd (Memᴰ.not-nil x.2)) (λ x. leaf_refers x.0 x.1 x.2) (walk_given nothing names n d es m),
      λ x. has x.0 x.1 x.2 x.3,
    )
      where
        has : (r : Reference) → HasReference d r es → r.name ≡ n → Sort r → Memᴰ n (elements_give nothing names d es)
        has r (in_action {a = a} i k) e t = leaf_walked nothing names n {l = action a} (found_name (action a) k e t) i
        has r (in_predicate {p = p} i k) e t = leaf_walked nothing names n {l = predicate p} (found_name (predicate p) k e t) i

  refers_walked : Memᴰ n (elements_give nothing (λ l. map (λ r. r.name) (references l)) d es) ↔ RefersTo d n es
  refers_walked =
      let (to, from) = references_walked (λ rs. rs) (λ _. Unit {0}) (λ r rs. (λ m. (m, tt), λ x. x.0)) in (
        λ m. let (r, k, e, t) = to m in record { reference = r; there = k; is_name = e },
        λ x. from (x.reference, x.there, x.is_name, tt),
      )

  reads_walked : Memᴰ n (action_reference_names d es) ↔ Reads d n es
  unfolding action_reference_names
  reads_walked =
      let test : Reference → Bool = λ r. leb r.kind qualified in
      let (to, from) =
      references_walked (keep test) (λ r. r.kind ≤ 1) (λ r rs. (
        λ m. let (k, t) = in_keep test rs m in (k, leb-true r.kind 1 t),
        λ x. keep_in test x.0 (le-leb r.kind 1 x.1),
      )) in (
        λ m. let (r, k, e, t) = to m in record { reference = r; there = k; is_name = e; is_local = t },
        λ x. from (x.reference, x.there, x.is_name, x.is_local),
      )

module _ (d : ℕ) where
  pub labels_told : (around spliced : Items d) → (labels_collide d around spliced ≡ true) ↔ SameLabel d around spliced
  unfolding labels_collide
  labels_told around spliced =
      let (to, from) = meet_both (collect_labels d around) (collect_labels d spliced) in (
        λ t. let (n, i, k) = to t in (n, (labels_walked d n around).0 i, (labels_walked d n spliced).0 k),
        λ x. from (x.0, (labels_walked d x.0 around).1 x.1, (labels_walked d x.0 spliced).1 x.2),
      )

  -- What one reads and the other binds.
  one_binds : (es fs : Items d)
      → (meet (action_reference_names d es) (bindable_names d fs) ≡ true) ↔ ((n : ℕ) × Reads d n es × Binds d n fs)
  one_binds es fs =
      let (to, from) = meet_both (action_reference_names d es) (bindable_names d fs) in (
        λ t. let (n, i, k) = to t in (n, (reads_walked d n es).0 i, (bindings_walked d n fs).0 k),
        λ x. from (x.0, (reads_walked d x.0 es).1 x.1, (bindings_walked d x.0 fs).1 x.2),
      )

  pub bindings_told : (around spliced : Items d) → (implicit_bindings_collide d around spliced ≡ true) ↔ SameBinding d around spliced
  unfolding implicit_bindings_collide
  bindings_told around spliced = (
    λ t.
        either one
        (λ u. let (n, r, b) = (one_binds around spliced).0 u in (n, inl (r, b)))
        (λ f. let (n, r, b) = (one_binds spliced around).0 (rw f at t) in (n, inr (r, b))),
    λ x.
        ⊎_elim
        (λ y. or_left _ two ((one_binds around spliced).1 (x.0, y.0, y.1)))
        (λ y. or_right one _ ((one_binds spliced around).1 (x.0, y.0, y.1)))
        x.1,
  )
    where
      one : Bool
      one = meet (action_reference_names d around) (bindable_names d spliced)

      two : Bool
      two = meet (action_reference_names d spliced) (bindable_names d around)

  pub dangling_told : (front rest : Items d) (e : Element (Block d)) (n : ℕ)
      → (remaining_actions_reference d (front ++ (e ∷ rest)) (length front) n ≡ true) ↔ RefersTo d n (front ++ rest)
  unfolding remaining_actions_reference
  dangling_told front rest e n =
      let es = front ++ (e ∷ rest) in
      let w : without (length front) es ≡ front ++ rest =
      ap₂ ◌++◌ (take_front front e rest refl refl) (drop_behind front e rest refl refl) in
      let (to, from) = refers_walked d n (front ++ rest) in (
        λ t.
            to (subst (λ l. Memᴰ n (elements_give nothing (λ l. map (λ r. r.name) (references l)) d l)) w
            (member_in (elements_give nothing (λ l. map (λ r. r.name) (references l)) d (without (length front) es)) t)),
        λ x.
            in_member (subst (λ l. Memᴰ n (elements_give nothing (λ l. map (λ r. r.name) (references l)) d l)) (sym w) (from x)),
      )
