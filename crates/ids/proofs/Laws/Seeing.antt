-- A walk that sees ids: its steps by the words of an element or alternative, and what it comes to.
use Prim.Native.Nat.{ℕ, zero, suc, ◌+◌, ◌%◌, ◌<◌, ◌≤◌}
use mathlib.Core.Path.{◌≡◌, refl, sym, ap, ◌∙◌}
use mathlib.Core.List.{List, [], ◌∷◌, ◌++◌, append_assoc, append-nil}
use mathlib.Core.Bool.{true, ◌&&◌, not, and-true, and-false}
use native.Mathlib.Omega.{arith}
use lib.ListN.{get_or, take}
use lib.Dec.{eqb, leb}
use borrow.Author.Tests.{ne_eqb, leb-true}
use Rattle.std.specs.Cmp.{first_so, second_so}
use Rattle.grammar.specs.Stands.{Stands}
use Rattle.grammar.specs.Numbers.{alternative_sort, element_sort, label_sort, action_sort, predicate_sort}
use Rattle.grammar.specs.Numbers.{most_name, one_or_more_nongreedy, action_kind, predicate_kind, block_kind, kind_end}
use Rattle.grammar.specs.Tree.{Label, unlabelled, labelled, ElementHead, Leaf, epsilon, action, predicate, call, token, terminal}
use Rattle.grammar.specs.Tree.{end_of_input, Element, leaf, block, AlternativeOf, Block, Rule, body_depth}
use Rattle.grammar.specs.Encode.{label_id, label_name, encode_leaf, leaf_kind, encode_leaf_in}
use Rattle.grammar.specs.Lists.{each, only}
use Rattle.grammar.specs.Valid.{ok_head, ok_label}
use Rattle.grammar.specs.Words.{words}
use Rattle.grammar.specs.Ids.{label_ids, head_ids, leaf_ids, element_ids, alternative_ids, block_ids, body_ids}
use Rattle.grammar.specs.Fold.{folded, element_fold, alternative_fold, block_fold, rule_fold, rules_fold}
use Rattle.grammar.specs.Fold.{RulesWalked}
use Rattle.grammar.specs.Laws.Stands.{stands_head}
use Rattle.grammar.specs.Laws.Complete.{leaf_kind_lem}
use Rattle.grammar.specs.Laws.Opened.{HeadWords}
use Rattle.words.specs.Visit.{LeafPassed, BlockEntered, AlternativeEntered}
use Rattle.ids.specs.Ids.{own_ids, alternative_id, seeing, behind, CollectedSort}

-- the own ids of an element's words are those of its tree
label_ids_lem : (sort i n : ℕ) (l : Label) → i ≡ label_id l → n ≡ label_name l → ok_label l ≡ true
    → only (eqb sort label_sort && not (eqb n 0)) i ≡ label_ids sort l
unfolding label_ids ok_label
label_ids_lem sort i n unlabelled e f k = simp (f, and-false)
label_ids_lem sort i n (labelled j m) e f k =
    let h = leb-true 1 m (first_so (leb 1 m) (leb m most_name) k) in
    simp (f, e, ne_eqb m 0 (λ z. omega arith), and-true)

leaf_ids_lem : {ws : List ℕ} {end p q : ℕ} (sort : ℕ) (l : Leaf) → Stands ws end (encode_leaf l) p q
    → only (eqb sort action_sort && eqb (leaf_kind l) action_kind) (get_or ws p 0)
    ++ only (eqb sort predicate_sort && eqb (leaf_kind l) predicate_kind) (get_or ws p 0)
    ≡ leaf_ids sort l
unfolding leaf_ids leaf_kind encode_leaf_in
leaf_ids_lem sort epsilon s = simp and-false
leaf_ids_lem sort (action a) s = simp (and-false, and-true, stands_head s, append-nil)
leaf_ids_lem sort (predicate p) s = simp (and-false, and-true, stands_head s)
leaf_ids_lem sort (call c) s = simp and-false
leaf_ids_lem sort (token n) s = simp and-false
leaf_ids_lem sort terminal s = simp and-false
leaf_ids_lem sort end_of_input s = simp and-false

module _ {ws : List ℕ} {end at : ℕ} (sort : ℕ) {h : ElementHead} {kind p : ℕ} (w : HeadWords ws end at h kind p) where
  head_ids_lem : only (eqb sort element_sort) (get_or ws at 0)
      ++ only (eqb sort label_sort && not (eqb (get_or ws (at + 4) 0) 0)) (get_or ws (at + 3) 0)
      ≡ head_ids sort h
  unfolding head_ids ok_head
  head_ids_lem =
      rw w.id
      (ap (λ l. only (eqb sort element_sort) h.id ++ l)
      (label_ids_lem sort _ _ h.label w.label_is w.named
      (first_so (ok_label h.label) _ (second_so (leb h.quantifier one_or_more_nongreedy) _ w.fine))))

  own_are : (rest : List ℕ) → kind < kind_end
      → only (eqb sort action_sort && eqb kind action_kind) (get_or ws p 0)
      ++ only (eqb sort predicate_sort && eqb kind predicate_kind) (get_or ws p 0)
      ≡ rest
      → own_ids ws at p sort ≡ head_ids sort h ++ rest
  unfolding own_ids
  own_are rest k e =
      let z : get_or ws (at + 2) 0 % kind_end ≡ kind = let y = w.packed in omega arith in
      rw (z, e) (sym (append_assoc (only (eqb sort element_sort) (get_or ws at 0)) _ rest) ∙ ap (λ l. l ++ rest) head_ids_lem)

  leaf_own : {q : ℕ} (l : Leaf) → kind ≡ leaf_kind l → Stands ws end (encode_leaf l) p q
      → own_ids ws at p sort ≡ head_ids sort h ++ leaf_ids sort l
  leaf_own l e u = own_are (leaf_ids sort l) (let y = leaf_kind_lem l in omega arith) (rw e (leaf_ids_lem sort l u))

  block_own : kind ≡ block_kind → own_ids ws at p sort ≡ head_ids sort h
  block_own e = own_are [] (omega arith) (rw e (simp and-false)) ∙ append-nil (head_ids sort h)

-- the steps of a walk that sees ids
module _ {S : Type 0} (see : S → (ℕ → List ℕ) → S) {ws : List ℕ} {end at : ℕ} {s r : S} where
  module _ {p : ℕ} (f : r ≡ see s (own_ids ws at p)) where
    pub seeing_leaf : LeafPassed (seeing see) ws end at p s r
    unfolding seeing
    seeing_leaf = record { is = λ h l q w u. f ∙ ap (see s) λ i sort. leaf_own sort w l refl u.stands i }

    pub seeing_block : BlockEntered (seeing see) ws end at p s r
    unfolding seeing
    seeing_block = record { is = λ h y. f ∙ ap (see s) λ i sort. block_own sort y refl i }

  pub seeing_alternative : {d : ℕ} → r ≡ see s (alternative_id ws at) → AlternativeEntered (seeing see) ws end at d s r
  unfolding seeing alternative_id
  seeing_alternative f =
      record { is = λ a z w. f ∙ ap (see s) λ i sort. only (eqb sort alternative_sort) (w.id i) }

pub ruleset seeings = (seeing_leaf, seeing_block, seeing_alternative)

-- what the fold comes to: all ids at once
module _ {S : Type 0} (see : S → (ℕ → List ℕ) → S) (none : (s : S) → see s (λ sort. []) ≡ s)
    (more : (s : S) (f g : ℕ → List ℕ) → see (see s f) g ≡ see s (λ sort. f sort ++ g sort)) where
  folded_each : {A : Type 0} (step : S → A → S) (ids : ℕ → A → List ℕ) → ((s : S) (a : A) → step s a ≡ see s (λ sort. ids sort a))
      → (s : S) (as' : List A) → folded step s as' ≡ see s (λ sort. each (ids sort) as')
  folded_each step ids h s [] = sym (none s)
  folded_each step ids h s (a ∷ as') =
      folded_each step ids h (step s a) as'
      ∙ ap (λ t. see t (λ sort. each (ids sort) as')) (h s a)
      ∙ more s (λ sort. ids sort a) (λ sort. each (ids sort) as')

  module _ {B : Type 0} (f : S → B → S) (g : ℕ → B → List ℕ) (h : (s : S) (b : B) → f s b ≡ see s (λ sort. g sort b)) where
    element_ids_lem : (s : S) (e : Element B) → element_fold (seeing see) f s e ≡ see s (λ sort. element_ids sort (g sort) e)
    unfolding element_fold element_ids seeing
    element_ids_lem s (leaf i l) = refl
    element_ids_lem s (block i b) = h (see s (λ sort. head_ids sort i)) b ∙ more s (λ sort. head_ids sort i) (λ sort. g sort b)

    alternative_ids_lem : (s : S) (a : AlternativeOf B) → alternative_fold (seeing see) f s a ≡ see s (λ sort. alternative_ids sort (g sort) a)
    unfolding alternative_fold alternative_ids seeing
    alternative_ids_lem s a =
        folded_each (element_fold (seeing see) f) (λ sort. element_ids sort (g sort)) element_ids_lem
        (see s (λ sort. only (eqb sort alternative_sort) a.id)) a.elements
        ∙ more s (λ sort. only (eqb sort alternative_sort) a.id) (λ sort. each (element_ids sort (g sort)) a.elements)

  block_ids_lem : (d : ℕ) (s : S) (b : Block d) → block_fold (seeing see) d s b ≡ see s (λ sort. block_ids sort d b)
  unfolding block_fold block_ids
  block_ids_lem zero s b = absurd b
  block_ids_lem (suc d) s b =
      folded_each (alternative_fold (seeing see) (block_fold (seeing see) d)) (λ sort. alternative_ids sort (block_ids sort d))
      (alternative_ids_lem (block_fold (seeing see) d) (λ sort. block_ids sort d) (block_ids_lem d)) s b

  pub rules_ids : (s : S) (rs : List Rule) → rules_fold (seeing see) s rs ≡ see s (λ sort. body_ids sort rs)
  unfolding rule_fold
  rules_ids s rs =
      folded_each (rule_fold (seeing see) body_depth) (λ sort r. block_ids sort body_depth r.body)
      (λ s r. block_ids_lem body_depth s r.body) s rs

-- the ids of one sort collected, in the buffer as the collector leaves it
pub collected_sort : {ws : List ℕ} {end n : ℕ} (sort : ℕ) (before : List ℕ) {after left : List ℕ} → left ≡ after → {p r : ℕ} → r ≤ p
    → RulesWalked (seeing (behind sort)) ws end n 0 (take 0 before) p (take r (words after))
    → CollectedSort ws end n sort (words left) r
collected_sort sort before same {r = r} few c =
    record {
      wrote =
          λ rs q s e. ap (λ bs. take r (words bs)) same
          ∙ (c.value rs q s e ∙ rules_ids (behind sort) append-nil (λ s f g. append_assoc s (f sort) (g sort)) [] rs);
      few = let w = c.within in omega arith;
    }
