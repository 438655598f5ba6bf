-- A copy takes the ids that a walk over it counts, and records an entry for each.
use Prim.Native.Nat.{ℕ, zero, suc, ◌+◌}
use mathlib.Core.Path.{◌≡◌, refl, sym, subst}
use mathlib.Core.List.{List, [], ◌∷◌}
use mathlib.Core.Bool.{Bool}
use native.Mathlib.Omega.{arith}
use lib.ListN.{length, length-append}
use Rattle.grammar.specs.Numbers.{alternative_sort, block_kind}
use Rattle.grammar.specs.Tree.{Label, unlabelled, labelled, ElementHead, Leaf, epsilon, action, predicate, call, token, terminal}
use Rattle.grammar.specs.Tree.{end_of_input, Element, leaf, block, AlternativeOf, Block, Counters}
use Rattle.grammar.specs.Encode.{leaf_kind}
use Rattle.grammar.specs.Fold.{folded, element_fold, alternative_fold, block_fold}
use Rattle.reference.specs.Apply.{Fresh, unchanged, ◌followed_by◌, fresh_each, past, renumber_label, renumber_head, renumber_leaf}
use Rattle.reference.specs.Apply.{renumber_element, renumber_elements, renumber_alternative, renumber_block}
use Rattle.sizes.specs.Tally.{is_labelled, ids_in, no_ids, behind, with_own, with_alternative, counting}
use Rattle.sizes.specs.declared.tally.Tally.{Tally}

pub same_counters : (a b : Counters) → a.alternative ≡ b.alternative → a.element ≡ b.element → a.label ≡ b.label
    → a.action ≡ b.action → a.predicate ≡ b.predicate → a ≡ b
same_counters a b p q r s t i = record { alternative = p i; element = q i; label = r i; action = s i; predicate = t i }

-- With the counters behind t, what is made takes the ids up to u.
pub record Takes {A : Type 0} (f : Fresh A) (c : Counters) (t u : Tally) : Type 0 where
  pub counters : f.counters ≡ behind c u
  pub entries : ids_in t + length f.entries ≡ ids_in u

module _ {A B : Type 0} {c : Counters} {t u v : Tally} where
  takes_then : {f : Fresh A} (k : A → Counters → Fresh B) → Takes f c t u → ((a : A) → Takes (k a (behind c u)) c u v)
      → Takes (f followed_by k) c t v
  takes_then {f} k h g =
      let r = subst (λ x. Takes (k f.node x) c u v) (sym h.counters) (g f.node) in
      record {
        counters = r.counters;
        entries = let l = length-append f.entries (k f.node f.counters).entries in
            let x = h.entries in let y = r.entries in omega arith;
      }

takes_none : {A : Type 0} (a : A) (c : Counters) (t : Tally) → Takes (unchanged a (behind c t)) c t t
takes_none a c t = record { counters = refl; entries = omega arith }

module _ {A B : Type 0} (f : A → Counters → Fresh B) (step : Tally → A → Tally) (c : Counters)
    (h : (a : A) (t : Tally) → Takes (f a (behind c t)) c t (step t a)) where
  takes_each : (as' : List A) (t : Tally) → Takes (fresh_each f as' (behind c t)) c t (folded step t as')
  unfolding fresh_each
  takes_each [] t = takes_none [] c t
  takes_each (a ∷ as') t =
      takes_then (λ b c₁. fresh_each f as' c₁ followed_by λ bs c₂. unchanged (b ∷ bs) c₂) (h a t) λ b.
      takes_then (λ bs c₂. unchanged (b ∷ bs) c₂) (takes_each as' (step t a)) λ bs.
      takes_none (b ∷ bs) c (folded step (step t a) as')

takes_head : (h : ElementHead) (c : Counters) (t : Tally) → Takes (renumber_head h (behind c t)) c t (with_own t (is_labelled h.label) block_kind)
unfolding renumber_head renumber_label behind with_own
takes_head h c t = go h.label refl
  where
    go : (l : Label) → h.label ≡ l → Takes (renumber_head h (behind c t)) c t (with_own t (is_labelled h.label) block_kind)
    go unlabelled e = rw e
        (record {
          counters = same_counters _ _ refl (omega arith) (omega arith) (omega arith) (omega arith);
          entries = omega arith;
        })
    go (labelled i n) e = rw e
        (record {
          counters = same_counters _ _ refl (omega arith) (omega arith) (omega arith) (omega arith);
          entries = omega arith;
        })

takes_leaf : (l : Leaf) (label : Bool) (c : Counters) (t : Tally)
    → Takes (renumber_leaf l (behind c (with_own t label block_kind))) c (with_own t label block_kind) (with_own t label (leaf_kind l))
unfolding renumber_leaf behind with_own leaf_kind
takes_leaf epsilon label c t = takes_none epsilon c (with_own t label block_kind)
takes_leaf (action a) label c t =
    record { counters = same_counters _ _ refl refl refl (omega arith) refl; entries = omega arith }
takes_leaf (predicate p) label c t =
    record { counters = same_counters _ _ refl refl refl refl (omega arith); entries = omega arith }
takes_leaf (call k) label c t = takes_none (call k) c (with_own t label block_kind)
takes_leaf (token n) label c t = takes_none (token n) c (with_own t label block_kind)
takes_leaf terminal label c t = takes_none terminal c (with_own t label block_kind)
takes_leaf end_of_input label c t = takes_none end_of_input c (with_own t label block_kind)

module _ {B : Type 0} (renumber : B → Counters → Fresh B) (step : Tally → B → Tally) (c : Counters)
    (inner : (b : B) (t : Tally) → Takes (renumber b (behind c t)) c t (step t b)) where
  takes_element : (e : Element B) (t : Tally) → Takes (renumber_element renumber e (behind c t)) c t (element_fold counting step t e)
  unfolding renumber_element element_fold
  takes_element (leaf h l) t =
      takes_then (λ h' c₁. renumber_leaf l c₁ followed_by λ l' c₂. unchanged (leaf h' l') c₂) (takes_head h c t) λ h'.
      takes_then (λ l' c₂. unchanged (leaf h' l') c₂) (takes_leaf l (is_labelled h.label) c t) λ l'.
      takes_none (leaf h' l') c (with_own t (is_labelled h.label) (leaf_kind l))
  takes_element (block h b) t =
      takes_then (λ h' c₁. renumber b c₁ followed_by λ b' c₂. unchanged (block h' b') c₂) (takes_head h c t) λ h'.
      takes_then (λ b' c₂. unchanged (block h' b') c₂) (inner b (with_own t (is_labelled h.label) block_kind)) λ b'.
      takes_none (block h' b') c (step (with_own t (is_labelled h.label) block_kind) b)

  takes_alternative : (a : AlternativeOf B) (t : Tally)
      → Takes (renumber_alternative renumber a (behind c t)) c t (alternative_fold counting step t a)
  unfolding renumber_alternative renumber_elements alternative_fold behind with_alternative
  takes_alternative a t =
      let moved : past alternative_sort (behind c t) ≡ behind c (with_alternative t) =
      same_counters _ _ (omega arith) refl refl refl refl in
      let inside = takes_each (renumber_element renumber) (element_fold counting step) c takes_element a.elements (with_alternative t) in
      let r =
      subst (λ x. Takes (renumber_elements renumber a.elements x) c (with_alternative t)
      (folded (element_fold counting step) (with_alternative t) a.elements))
      (sym moved) inside in
      record {
        counters = r.counters;
        entries =
            let l = length-append (renumber_elements renumber a.elements (past alternative_sort (behind c t))).entries [] in
            let e = r.entries in
            omega arith;
      }

takes_block : (c : Counters) (d : ℕ) (b : Block d) (t : Tally)
    → Takes (renumber_block d b (behind c t)) c t (block_fold counting d t b)
unfolding renumber_block block_fold
takes_block c zero b t = absurd b
takes_block c (suc d) b t =
    takes_each (renumber_alternative (renumber_block d)) (alternative_fold counting (block_fold counting d)) c
    (takes_alternative (renumber_block d) (block_fold counting d) c (takes_block c d)) b t

-- One element, whatever the counters are.
pub takes_copy : (d : ℕ) (e : Element (Block d)) (c : Counters)
    → Takes (renumber_element (renumber_block d) e c) c no_ids (element_fold counting (block_fold counting d) no_ids e)
unfolding behind
takes_copy d e c =
    let none : behind c no_ids ≡ c = same_counters _ _ (omega arith) (omega arith) (omega arith) (omega arith) (omega arith) in
    subst (λ x. Takes (renumber_element (renumber_block d) e x) c no_ids (element_fold counting (block_fold counting d) no_ids e)) none
    (takes_element (renumber_block d) (block_fold counting d) c (takes_block c d) e no_ids)
