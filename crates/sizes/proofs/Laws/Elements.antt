-- One element measured by the walk over it, and the elements of a listed alternative, one after the other.
use Prim.Native.Nat.{ℕ, ◌+◌, ◌-◌, ◌*◌, ◌<◌, ◌≤◌, ◌^◌}
use mathlib.Core.Path.{◌≡◌, sym, ap, ◌∙◌}
use mathlib.Core.List.{List}
use mathlib.Core.Bool.{Bool}
use native.Mathlib.Omega.{arith}
use lib.ListN.{drop, drop_of_length-le}
use Rattle.grammar.specs.Numbers.{most_words}
use Rattle.grammar.specs.Tree.{Element, Block, inner_depth}
use Rattle.grammar.specs.Encode.{encode_element, encode_block}
use Rattle.grammar.specs.Found.{FoundElement}
use Rattle.grammar.specs.Fold.{block_fold, ElementWalked}
use Rattle.grammar.specs.Laws.Stands.{stands_length}
use Rattle.reference.specs.Apply.{renumber_element, renumber_block}
use Rattle.planned.specs.Layout.{made_if}
use Rattle.planned.specs.Shown.{meant, ItemOf}
use Rattle.planned.specs.Laws.Items.{item_found}
use Rattle.planned.specs.Laws.Shown.{elements_many}
use Rattle.planned.specs.declared.shown.Shown.{Shown}
use Rattle.words.specs.Sheet.{text}
use Rattle.sizes.specs.Tally.{ids_in, no_ids, behind, counting}
use Rattle.sizes.specs.Sized.{Under, no_size, plus, ElementsSized, ElementSized}
use Rattle.sizes.specs.declared.tally.Tally.{Tally}
use Rattle.sizes.specs.declared.sums.Measure.{Measure}
use Rattle.sizes.proofs.Laws.Renumber.{takes_copy}
use Rattle.sizes.proofs.Laws.Lengths.{copy_length, made_length, made_fold}
use Rattle.sizes.proofs.Laws.Sums.{none_is, Summing, summing_all, summing_done, summing_more, under_sum, under_more, under_none}

-- A tally that is 0 in each sort has no ids.
pub no_ids_is : {t : Tally} → t.alternatives ≡ 0 → t.elements ≡ 0 → t.labels ≡ 0 → t.actions ≡ 0 → t.predicates ≡ 0 → t ≡ no_ids
no_ids_is p q r s t i = record { alternatives = p i; elements = q i; labels = r i; actions = s i; predicates = t i }

pub element_sized : {ws : List ℕ} {end : ℕ} (d : ℕ) {at p : ℕ} {none t : Tally} → none ≡ no_ids
    → ElementWalked counting ws end d at none p t → ids_in t ≤ p → end ≤ most_words
    → ElementSized ws end d at (record { tally = t; words = p - at })
element_sized {ws} {end} d {at} {p} {none} {t} z walked few low =
    let w = rw z at walked in
    record {
      is = λ e q u made.
          let same = made_fold (block_fold counting d) made no_ids e ∙ sym (w.value e q u) in
          let takes = takes_copy d (made_if made e) in
          record {
            counters = λ c. (takes c).counters ∙ ap (behind c) same;
            entries = λ c. let x = (takes c).entries in let y = ap ids_in same in omega arith;
            words = λ c.
                let x = copy_length d (made_if made e) c in
                let y = made_length (encode_block d) made e in
                let z = stands_length u.stands in
                let v = w.passed e q u in
                omega arith;
          };
      few = let z = w.within in search arith;
    }

pub element_past : {ws : List ℕ} {end : ℕ} (d : ℕ) {at p : ℕ} {s t : Tally} → FoundElement ws end d at
    → ElementWalked counting ws end d at s p t → at ≤ p
element_past d f w = let z = stands_length f.spans.stands in let v = w.passed f.tree f.next f.spans in omega arith

pub ruleset sized = (no_ids_is, element_sized, element_past)

-- Sums of elements and of alternatives stay far below the end of numbers.
pub element_under : {ws : List ℕ} {end d at : ℕ} {n : Measure} → ElementSized ws end d at n → Under n (2 ^ 32)
element_under s = under_more s.few (omega arith)

abbrev d : ℕ
d = inner_depth

module _ (a : Shown) where
  abbrev es : List (Element (Block d))
  es = (meant a).elements

  -- The elements in front of an index are in the sum.
  pub record Adding (i : ℕ) (m : Measure) : Type 0 where
    pub sum : Summing (encode_element (encode_block d)) (renumber_element (renumber_block d)) es (drop i es) m
    pub few : Under m (most_words * i)
    pub within : i ≤ a.x.ne

  pub adding_none : {m : Measure} → m ≡ no_size → Adding 0 m
  adding_none e =
      record {
        sum = rw e (summing_all (encode_element (encode_block d)) (renumber_element (renumber_block d)) es);
        few = rw e (under_none 0);
        within = omega arith;
      }

  module _ {i : ℕ} {m : Measure} (g : Adding i m) where
    pub adding_all : a.x.ne ≤ i → ElementsSized d es m
    adding_all l =
        let c = elements_many a in
        record {
          is = summing_done (encode_element (encode_block d)) (renumber_element (renumber_block d)) g.sum
              (drop_of_length-le es {i = i} (omega arith));
          few = let w = g.within in under_more g.few (omega arith);
        }

    pub adding_under : Under m (2 ^ 32)
    adding_under = let w = g.within in let z = a.located.elements in under_more g.few (omega arith)

    module _ {at : ℕ} {made : Bool} (item : ItemOf a i at made) where
      pub adding_more : i < a.x.ne → {n r : Measure} → ElementSized (text a.s.now) a.s.now.end d at n → r ≡ plus m n → Adding (i + 1) r
      adding_more h {n} {r} s e =
          let f = item.found in
          record {
            sum = summing_more (encode_element (encode_block d)) (renumber_element (renumber_block d)) g.sum
                (item.here f.tree f.next f.spans) (s.is f.tree f.next f.spans made) e;
            few = under_sum g.few s.few e (omega arith);
            within = omega arith;
          }

pub ruleset adding = (element_under, none_is, adding_none, adding_all, adding_under, item_found, adding_more)
