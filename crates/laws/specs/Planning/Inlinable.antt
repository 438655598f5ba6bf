-- A satellite passes the test exactly if it can be inlined.
use Rattle.std.specs.Prelude.{ℕ, zero, suc, ◌≡◌, refl, ◌↔◌, Bool, true, false, ◌&&◌, not, eqb}
use Rattle.std.proofs.Common.{ap, ap₂, arith, eqb-true, eq-eqb}
use Rattle.std.proofs.lemmas.Bool.{and_from}
use Rattle.std.specs.Cmp.{first_so, second_so}
use mathlib.Core.List.{List, [], ◌∷◌, ◌++◌, Memᴰ}
use Rattle.grammar.specs.Lists.{all, each, is_empty, AllOf}
use Rattle.grammar.specs.Numbers.{action_sort, predicate_sort}
use Rattle.grammar.specs.Tree.{Label, unlabelled, labelled, Leaf, epsilon, action, predicate, call, token, terminal, end_of_input, Element}
use Rattle.grammar.specs.Tree.{leaf, block, AlternativeOf, Block, RuleOf}
use Rattle.grammar.specs.Ids.{label_ids, head_ids, leaf_ids, element_ids, alternative_ids, block_ids}
use Rattle.grammar.specs.Laws.Lists.{empty_none, append_none}
use Rattle.language.specs.Shape.{OnElement, OnBlock}
use Rattle.reference.specs.Plan.{satellite_has_embedded_semantics, satellite_is_inlinable}
use Rattle.laws.specs.Demands.Inlinable.{NoCode, Inlinable}
use Rattle.laws.specs.Lists.Lookup.{all_in}

-- No ids of actions and of predicates.
abbrev None : List ℕ → List ℕ → Type 0
None xs ys = (xs ≡ []) × (ys ≡ [])

label_none : (l : Label) → None (label_ids action_sort l) (label_ids predicate_sort l)
unfolding label_ids
label_none unlabelled = (refl, refl)
label_none (labelled i n) = (refl, refl)

leaf_none : (l : Leaf) → NoCode l ↔ None (leaf_ids action_sort l) (leaf_ids predicate_sort l)
unfolding leaf_ids
leaf_none epsilon = (λ _. (refl, refl), λ _. tt)
leaf_none (action a) = (λ e. absurd e, λ n. let e = n.0 in let z : ◌≡◌ {A = ℕ} 0 1 = cc in omega arith)
leaf_none (predicate p) = (λ e. absurd e, λ n. let e = n.1 in let z : ◌≡◌ {A = ℕ} 0 1 = cc in omega arith)
leaf_none (call c) = (λ _. (refl, refl), λ _. tt)
leaf_none (token n) = (λ _. (refl, refl), λ _. tt)
leaf_none terminal = (λ _. (refl, refl), λ _. tt)
leaf_none end_of_input = (λ _. (refl, refl), λ _. tt)

abbrev code : {B : Type 0} → (B → Type 0) → Element B → Type 0
code = OnElement (λ h l. NoCode l)

module _ (d : ℕ)
    (inner : (b : Block d) → OnBlock (λ h l. NoCode l) d b ↔ None (block_ids action_sort d b) (block_ids predicate_sort d b)) where
  abbrev ids : ℕ → Element (Block d) → List ℕ
  ids k = element_ids k (block_ids k d)

  element_none : (e : Element (Block d)) → code (OnBlock (λ h l. NoCode l) d) e ↔ None (ids action_sort e) (ids predicate_sort e)
  unfolding element_ids head_ids
  element_none (leaf h l) = let n = label_none h.label in rw (n.0, n.1) (leaf_none l)
  element_none (block h b) = let n = label_none h.label in rw (n.0, n.1) (inner b)

  elements_none : (es : List (Element (Block d)))
      → AllOf (code (OnBlock (λ h l. NoCode l) d)) es ↔ None (each (ids action_sort) es) (each (ids predicate_sort) es)
  elements_none [] = (λ _. (refl, refl), λ _. tt)
  elements_none (e ∷ es) =
      let (f, g) = element_none e in
      let (h, k) = elements_none es in (
        λ p. let x = f p.0 in let y = h p.1 in (ap₂ ◌++◌ x.0 y.0, ap₂ ◌++◌ x.1 y.1),
        λ n. let x =
            append_none (ids action_sort e) (each (ids action_sort) es) n.0 in let y = append_none (ids predicate_sort e)
            (each (ids predicate_sort) es) n.1 in (g (x.0, y.0), k (x.1, y.1)),
      )

block_none : (d : ℕ) (b : Block d) → OnBlock (λ h l. NoCode l) d b ↔ None (block_ids action_sort d b) (block_ids predicate_sort d b)
unfolding OnBlock block_ids alternative_ids
block_none zero b = absurd b
block_none (suc d) [] = (λ _. (refl, refl), λ _. tt)
block_none (suc d) (a ∷ as') =
    let (f, g) = elements_none d (block_none d) a.elements in
    let (h, k) = block_none (suc d) as' in (
      λ p. let x = f p.0 in let y = h p.1 in (ap₂ ◌++◌ x.0 y.0, ap₂ ◌++◌ x.1 y.1),
      λ n. let x =
          append_none (each (element_ids action_sort (block_ids action_sort d)) a.elements) (block_ids action_sort (suc d) as') n.0 in
          let y = append_none (each (element_ids predicate_sort (block_ids predicate_sort d)) a.elements)
          (block_ids predicate_sort (suc d) as') n.1 in (g (x.0, y.0), k (x.1, y.1)),
    )

flags_all : {B : Type 0} (as' : List (AlternativeOf B)) → ((a : AlternativeOf B) → Memᴰ a as' → a.flag ≡ 0)
    → all (λ a. eqb a.flag 0) as' ≡ true
unfolding all
flags_all [] h = refl
flags_all (a ∷ as') h =
    and_from (eqb a.flag 0) _ (eq-eqb a.flag 0 (h a (Memᴰ.head refl))) (flags_all as' λ b m. h b (Memᴰ.tail m))

pub inlinable_told_lem : (d : ℕ) (r : RuleOf (Block (suc d))) → (satellite_is_inlinable d r ≡ true) ↔ Inlinable d r
unfolding satellite_is_inlinable satellite_has_embedded_semantics
inlinable_told_lem d r = (passes, can)
  where
    codes : List ℕ
    codes = block_ids action_sort (suc d) r.body ++ block_ids predicate_sort (suc d) r.body

    twice : (b : Bool) → not (not b) ≡ true → b ≡ true
    twice true e = refl
    twice false e = e

    passes : (eqb r.flags 0 && (all (λ a. eqb a.flag 0) r.body && not (not (is_empty codes)))) ≡ true → Inlinable d r
    passes t =
        let u = second_so (eqb r.flags 0) _ t in
        let n =
        append_none (block_ids action_sort (suc d) r.body) (block_ids predicate_sort (suc d) r.body)
        (empty_none codes (twice (is_empty codes) (second_so (all (λ a. eqb a.flag 0) r.body) _ u))) in
        record {
          flags = eqb-true r.flags 0 (first_so (eqb r.flags 0) _ t);
          unlabelled = λ a m. eqb-true a.flag 0 (all_in (λ a. eqb a.flag 0) (first_so (all (λ a. eqb a.flag 0) r.body) _ u) m);
          no_code = (block_none (suc d) r.body).1 n;
        }

    can : Inlinable d r → (eqb r.flags 0 && (all (λ a. eqb a.flag 0) r.body && not (not (is_empty codes)))) ≡ true
    can i =
        let n = (block_none (suc d) r.body).0 i.no_code in
        and_from (eqb r.flags 0) _ (eq-eqb r.flags 0 i.flags)
        (and_from (all (λ a. eqb a.flag 0) r.body) _ (flags_all r.body i.unlabelled)
        (ap (λ l. not (not (is_empty l))) (ap₂ ◌++◌ n.0 n.1)))
