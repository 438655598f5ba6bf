-- What is left to be written of spliced alternatives has room: the hand stays, and the first of several is known.
use Prim.Native.Nat.{ℕ, suc, ◌+◌, ◌-◌, ◌<◌, ◌≤◌}
use mathlib.Core.Path.{◌≡◌, refl, sym, ap, ◌∙◌}
use mathlib.Core.List.{List, [], ◌∷◌, ◌++◌}
use native.Mathlib.Omega.{arith}
use lib.ListN.{length, get_or, take, drop, length-append, length-take, length-drop}
use Rattle.grammar.specs.Tree.{Block, AlternativeOf}
use Rattle.grammar.specs.Lists.{total}
use Rattle.grammar.specs.Found.{AlternativeSpans}
use Rattle.grammar.specs.Laws.Opened.{first_spans, alternative_words_lem}
use Rattle.reference.specs.Numbers.{most_alternatives, most_elements, most_options}
use Rattle.reference.specs.Substitute.{Planned, decided, decide_each, splice_alternative}
use Rattle.planned.specs.Layout.{half, options_at, hand_at, record_at, options_from, meaning}
use Rattle.splices.specs.Options.{UnionFits}
use Rattle.splices.specs.Splice.{spliced, AlternativesSpan, HandIn, OneFits, OnePut, AllFit}
use Rattle.planned.specs.Laws.Parts.{Copied, meaning_copied, listed_copied}
use Rattle.planned.specs.Laws.Counts.{elements_all, options_all, count_elements, count_options}
use Rattle.planned.specs.declared.list.Listed.{Listed}
use Rattle.splices.proofs.Laws.OptionsUnion.{own_options}
use Rattle.splices.proofs.Laws.SpliceDecided.{spliced_by, each_by}

spliced_length : {A : Type 0} (index : ℕ) (es xs : List A) → index < length xs → length (spliced index es xs) ≡ length xs - 1 + length es
spliced_length index es xs h =
    let a = length-append (take index xs) (es ++ drop (suc index) xs) in
    let b = length-append es (drop (suc index) xs) in
    let c = length-take index xs in
    let e = length-drop (suc index) xs in
    omega arith

-- The hand is as it was.
module _ {ws : List ℕ} {end d : ℕ} {h : Listed} {index : ℕ} {before : List ℕ} (hand : HandIn ws end d h index before) (after : List ℕ) where
  module _ (same : (j : ℕ) → hand_at ≤ j → half after j ≡ half before j) where
    hand_elements : Copied before after h.e h.e h.ne
    hand_elements =
        let e = hand.in_hand.elements in
        let f = hand.in_hand.fit in
        record { each = λ i l. same (h.e + i) (omega arith) }

    hand_options : Copied before after h.o h.o h.no
    hand_options = let o = hand.in_hand.options in record { each = λ i l. same (h.o + i) (omega arith) }

    pub hand_means : meaning ws end d after h ≡ meaning ws end d before h
    hand_means = meaning_copied ws end d h h refl refl refl refl hand_elements hand_options

    hand_kept : length after ≡ length before → HandIn ws end d h index after
    hand_kept l =
        let b = hand.located.long in
        record {
          below = hand.below;
          in_hand = hand.in_hand;
          located = record { long = omega arith; elements = hand.located.elements; options = hand.located.options };
          listed = listed_copied ws end d h h refl refl refl refl hand_elements hand_options hand.listed;
        }

-- What is known of the first of several alternatives.
module _ (ws : List ℕ) (end d : ℕ) (h : Listed) (index : ℕ) (at : ℕ) (bs : List ℕ) where
  pub record First (n a x y z w : ℕ) : Type 0 where
    pub one : AlternativeOf (Block d)
    pub others : List (AlternativeOf (Block d))
    pub next : ℕ
    pub last : ℕ
    pub here : AlternativeSpans ws end d at one next
    pub rest : AlternativesSpan ws end d next others last
    pub count : length others ≡ n
    pub p : Planned d
    pub ps : List (Planned d)
    pub is : splice_alternative d (meaning ws end d bs h) index one ≡ decided p
    pub are : decide_each (splice_alternative d (meaning ws end d bs h) index) others ≡ decided ps
    pub heads : a + suc n ≤ most_alternatives
    pub elements : x + (length p.elements + elements_all ps) ≡ z
    pub options : y + (length p.options + options_all ps) ≡ w
    pub few_elements : z ≤ most_elements
    pub few_options : w ≤ most_options

module _ {ws : List ℕ} {end d : ℕ} {h : Listed} {index at : ℕ} {bs : List ℕ} {n a x y z w : ℕ} where
  pub all_first : AllFit ws end d h index (suc n) at bs a x y z w → First ws end d h index at bs n a x y z w
  unfolding total
  all_first fit = go fit.body fit.spans fit.count fit.are
    where
      go : (body : List (AlternativeOf (Block d))) → AlternativesSpan ws end d at body fit.next → length body ≡ suc n
          → decide_each (splice_alternative d (meaning ws end d bs h) index) body ≡ decided fit.ps
          → First ws end d h index at bs n a x y z w
      go [] s c e = absurd (omega arith)
      go (b ∷ body) s c e =
          let t = first_spans s in
          let by = each_by (splice_alternative d (meaning ws end d bs h) index) b body fit.ps e in
          record {
            one = b;
            others = body;
            next = t.0;
            last = fit.next;
            here = t.1;
            rest = t.2;
            count = omega arith;
            p = by.one;
            ps = by.others;
            is = by.first;
            are = by.then';
            heads = fit.heads;
            elements = rw by.are at fit.elements;
            options = rw by.are at fit.options;
            few_elements = fit.few_elements;
            few_options = fit.few_options;
          }

module _ {ws : List ℕ} {end d : ℕ} {h : Listed} {index : ℕ} {bs : List ℕ} (hand : HandIn ws end d h index bs) {at n a x y z w : ℕ}
    (f : First ws end d h index at bs n a x y z w) where
  -- It has room.
  first_elements : length f.p.elements ≡ h.ne - 1 + get_or ws (at + 4) 0
  first_elements =
      let by = spliced_by d (meaning ws end d bs h) index f.one f.p f.is in
      let c = count_elements ws end d bs h in
      let o = (alternative_words_lem d f.here).count in
      let b = hand.below in
      sym (ap (λ p. length p.elements) by.is)
      ∙ spliced_length index f.one.elements (meaning ws end d bs h).elements (omega arith)
      ∙ omega arith

  pub first_fits : OneFits ws end d h at bs a x y
  unfolding meaning
  first_fits =
      let e = f.elements in
      let o = f.options in
      let l = f.few_elements in
      let m = f.few_options in
      let k = first_elements in
      let g = f.heads in
      record {
        head = omega arith;
        parts = record { elements = omega arith; options = record { is = fits } };
        few = omega arith;
      }
    where
      fits : (t : AlternativeOf (Block d)) (q : ℕ) → AlternativeSpans ws end d at t q
          → UnionFits (options_from ws end d bs h.o h.no) t.options (options_at + y) h.o
      fits t q s =
          let by = spliced_by d (meaning ws end d bs h) index f.one f.p f.is in
          let c : length by.os ≡ length f.p.options = ap (λ p. length p.options) by.is in
          let o = f.options in
          let m = f.few_options in
          let i = hand.in_hand.options in
          record {
            all = by.os;
            is = rw (own_options ws end d s, ← (own_options ws end d f.here)) by.union;
            fits = omega arith;
          }

  module _ {after : List ℕ} {x' y' r : ℕ} (one : OnePut ws end d h index at bs after a x y x' y' r) where
    pub wrote_elements : x' ≡ x + length f.p.elements
    wrote_elements =
        let m = one.meant f.one f.next f.here f.p f.is in
        let c = count_elements ws end d after (record_at after a x y) in
        let e : length (meaning ws end d after (record_at after a x y)).elements ≡ length f.p.elements = ap (λ p. length p.elements) m in
        let o = one.elements in
        omega arith

    pub wrote_options : y' ≡ y + length f.p.options
    wrote_options =
        let m = one.meant f.one f.next f.here f.p f.is in
        let c = count_options ws end d after (record_at after a x y) in
        let e : length (meaning ws end d after (record_at after a x y)).options ≡ length f.p.options = ap (λ p. length p.options) m in
        let o = one.options in
        omega arith

    -- So have the others.
    pub next_fits : AllFit ws end d h index n r after (suc a) x' y' z w
    next_fits =
        let u = wrote_elements in
        let v = wrote_options in
        let e = f.elements in
        let o = f.options in
        let g = f.heads in
        record {
          body = f.others;
          next = f.last;
          spans = rw (one.passed f.one f.next f.here) f.rest;
          count = f.count;
          ps = f.ps;
          are = rw (hand_means hand after one.hand) f.are;
          heads = omega arith;
          elements = omega arith;
          options = omega arith;
          few_elements = f.few_elements;
          few_options = f.few_options;
        }

    pub next_hand : HandIn ws end d h index after
    next_hand = hand_kept hand after one.hand one.outside.long
