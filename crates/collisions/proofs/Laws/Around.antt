-- All elements of a planned alternative but one, marked.
use Prim.Native.Nat.{ℕ, suc, ◌+◌, ◌-◌, ◌<◌, ◌≤◌}
use mathlib.Core.Path.{◌≡◌, refl, sym, ap, ◌∙◌}
use mathlib.Core.List.{List, [], ◌∷◌, ◌++◌}
use mathlib.Core.Bool.{Bool, false, ◌||◌, or-false}
use native.Mathlib.Omega.{arith}
use native.Mathlib.Numerals.{add-one}
use lib.ListN.{length, take, drop, length-drop}
use lib.Seq.{take_all}
use Rattle.grammar.specs.Numbers.{most_words}
use Rattle.grammar.specs.Tree.{Element, Block}
use Rattle.grammar.specs.Lists.{nothing, member}
use Rattle.grammar.specs.Fold.{folded, element_fold, block_fold, ElementWalked}
use Rattle.grammar.specs.Laws.Lists.{member_append}
use Rattle.reference.specs.Walks.{elements_give, label_names}
use Rattle.reference.specs.Substitute.{without, remaining_actions_reference, collect_labels, action_reference_names}
use Rattle.planned.specs.Layout.{meaning}
use Rattle.planned.specs.List.{Located, ListedIn, ItemAt}
use Rattle.planned.specs.Reading.{ItemIs}
use Rattle.planned.specs.Laws.Parts.{elements_count}
use Rattle.planned.specs.Laws.Same.{same_trans, same_located, same_meaning, same_listed}
use Rattle.planned.specs.declared.list.Listed.{Listed}
use Rattle.collisions.specs.Names.{labels_bit, references_bit, Ordered, Kept, Cleared}
use Rattle.collisions.specs.Walks.{reference_names, binding_names, between, ItemsWalked}
use Rattle.collisions.specs.Mark.{Marks, marks_of, mark_label, mark_leaf, marking, MarkedAround}
use Rattle.collisions.proofs.Laws.Walks.{elements_tell}
use Rattle.collisions.proofs.Laws.Items.{Itemizing, itemizing_at}

-- An item that is read while marks are put.
module _ {ws : List ℕ} {end : ℕ} (d : ℕ) {bs cs : List ℕ} {x : Listed} (l : ListedIn ws end d bs x) (at : Located bs x) (k : Kept ws end bs cs)
    {i place : ℕ} {made : Bool} (t : ItemIs cs x i place made) where
  item_kept : ItemAt ws end d (meaning ws end d bs x).elements i place made
  item_kept = rw (same_meaning k.list at ws end d) at (t.is ws end d (same_listed k.list at ws end d l))

  pub marking_more : (name : ℕ) {from to : ℕ} {s₀ u v : Marks} {p : ℕ}
      → Itemizing (marking name) d (meaning ws end d bs x).elements from to s₀ i u → i < to
      → ElementWalked (marking name) ws end d place u p v
      → Itemizing (marking name) d (meaning ws end d bs x).elements from to s₀ (i + 1) v
  marking_more name g h w = itemizing_at mark_label (mark_leaf name) g h item_kept w

-- What the marks are then.
module _ (name d : ℕ) (s : Marks) (es : List (Element (Block d))) where
  abbrev all_marked : Marks
  all_marked = folded (element_fold (marking name) (block_fold (marking name) d)) s es

  labels_tell : (n : ℕ) → all_marked.labels n ≡ (s.labels n || member n (elements_give label_names nothing d es))
  unfolding mark_label mark_leaf member
  labels_tell n =
      elements_tell mark_label (mark_leaf name) (λ m. m.labels n) (member n) label_names nothing refl (member_append n) (λ m b. refl)
      (λ m l. sym (or-false (m.labels n))) d s es

  references_tell : (n : ℕ) → all_marked.references n ≡ (s.references n || member n (elements_give nothing binding_names d es))
  unfolding mark_label mark_leaf member
  references_tell n =
      elements_tell mark_label (mark_leaf name) (λ m. m.references n) (member n) nothing binding_names refl (member_append n)
      (λ m b. sym (or-false (m.references n))) (λ m l. refl) d s es

  dangling_tells : all_marked.dangling ≡ (s.dangling || member name (elements_give nothing reference_names d es))
  unfolding mark_label mark_leaf member
  dangling_tells =
      elements_tell mark_label (mark_leaf name) (λ m. m.dangling) (member name) nothing reference_names refl (member_append name)
      (λ m b. sym (or-false m.dangling)) (λ m l. refl) d s es

-- Both parts of a list without one item.
folded_append : {A S : Type 0} (step : S → A → S) (s : S) (xs ys : List A) → folded step s (xs ++ ys) ≡ folded step (folded step s xs) ys
folded_append step s [] ys = refl
folded_append step s (x ∷ xs) ys = folded_append step (step s x) xs ys

before_it : {A : Type 0} (as' : List A) (i : ℕ) → between as' 0 i ≡ take i as'
unfolding between
before_it as' i = let e : i - 0 ≡ i = omega arith in rw e refl

behind_it : {A : Type 0} (as' : List A) (i : ℕ) {n : ℕ} → length as' ≡ n → between as' (i + 1) n ≡ drop (suc i) as'
unfolding between
behind_it as' i {n} e = rw (add-one i) (take_all (n - suc i) (drop (suc i) as') (let l = length-drop (suc i) as' in omega arith))

count : (d : ℕ) (ws : List ℕ) (end : ℕ) (bs : List ℕ) (x : Listed) → length (meaning ws end d bs x).elements ≡ x.ne
unfolding meaning
count d ws end bs x = elements_count ws end d bs x.e x.ne

module _ (d : ℕ) (ws : List ℕ) (end : ℕ) (name : ℕ) (index : ℕ) (bs cs ds : List ℕ) {fs : List ℕ} (x : Listed) (before : Bool) {r : Bool} where
  pub around_done : Located bs x → Cleared bs cs → Kept ws end cs ds
      → ItemsWalked (marking name) d (meaning ws end d cs x).elements 0 index (marks_of ws cs false) (marks_of ws ds before)
      → Kept ws end ds fs
      → ItemsWalked (marking name) d (meaning ws end d ds x).elements (index + 1) x.ne (marks_of ws ds before) (marks_of ws fs r)
      → MarkedAround ws end d (meaning ws end d bs x).elements index name bs fs r
  unfolding marks_of remaining_actions_reference collect_labels action_reference_names
  around_done at z s a t b =
      record {
        list = same_trans z.list (same_trans s.list t.list);
        ordered = t.ordered;
        refers = ap (λ m. m.dangling) whole ∙ dangling_tells name d (marks_of ws cs false) rest;
        marked = record {
          of_labels = λ n. ap (λ m. m.labels n) whole ∙ labels_tell name d (marks_of ws cs false) rest n ∙ rw (z.no_name ws labels_bit n) refl;
          of_references = λ n. ap (λ m. m.references n) whole ∙ references_tell name d (marks_of ws cs false) rest n ∙ rw (z.no_name ws references_bit n) refl;
        };
      }
    where
      es : List (Element (Block d))
      es = (meaning ws end d bs x).elements

      rest : List (Element (Block d))
      rest = without index es

      step : Marks → Element (Block d) → Marks
      step = element_fold (marking name) (block_fold (marking name) d)

      first : marks_of ws ds before ≡ folded step (marks_of ws cs false) (take index es)
      first = a.is ∙ ap (folded step (marks_of ws cs false)) (before_it _ index ∙ ap (λ p. take index p.elements) (same_meaning z.list at ws end d))

      second : marks_of ws fs r ≡ folded step (marks_of ws ds before) (drop (suc index) es)
      second =
          b.is
          ∙ ap (λ p. folded step (marks_of ws ds before) (between p.elements (index + 1) x.ne)) (same_meaning (same_trans z.list s.list) at ws end d)
          ∙ ap (folded step (marks_of ws ds before)) (behind_it es index (count d ws end bs x))

      whole : marks_of ws fs r ≡ folded step (marks_of ws cs false) rest
      whole = second ∙ ap (λ m. folded step m (drop (suc index) es)) first ∙ sym (folded_append step (marks_of ws cs false) (take index es) (drop (suc index) es))

-- In the work area as the marker leaves it.
pub around_left : {ws : List ℕ} {end d : ℕ} {es : List (Element (Block d))} {index name : ℕ} {before after left : List ℕ} {r : Bool}
    → left ≡ after → MarkedAround ws end d es index name before after r
    → MarkedAround ws end d es index name before left r
around_left same m = rw same m

-- While marks are put, a record is listed as it was.
module _ {bs cs : List ℕ} {x : Listed} (z : Cleared bs cs) (at : Located bs x) where
  pub clear_listed : {ws : List ℕ} {end d : ℕ} → ListedIn ws end d bs x → ListedIn ws end d cs x
  clear_listed {ws} {end} {d} l = same_listed z.list at ws end d l

  module _ {ws : List ℕ} {end : ℕ} {ds : List ℕ} (s : Kept ws end cs ds) where
    pub later_located : Located ds x
    later_located = same_located (same_trans z.list s.list) at

    pub later_listed : {d : ℕ} → ListedIn ws end d bs x → ListedIn ws end d ds x
    later_listed {d} l = same_listed (same_trans z.list s.list) at ws end d l

pub clear_ordered : {bs cs : List ℕ} → Cleared bs cs → {ws : List ℕ} {end : ℕ} → end ≤ most_words → Ordered ws end cs
clear_ordered z {ws} {end} l = z.ordered ws end l
