-- One spliced alternative as a record: elements, options, head.
use Prim.Native.Nat.{ℕ, ◌+◌, ◌-◌, ◌≤◌}
use mathlib.Core.Path.{◌≡◌, sym, ap, ◌∙◌}
use mathlib.Core.Logic.{⊎_elim}
use mathlib.Core.List.{List}
use mathlib.Core.Option.{some}
use native.Mathlib.Omega.{arith}
use lib.ListN.{length}
use Rattle.grammar.specs.Form.{newest}
use Rattle.grammar.specs.Numbers.{most_words}
use Rattle.grammar.specs.Tree.{OptionDecl, Block, AlternativeOf}
use Rattle.grammar.specs.Found.{FoundAlternative, AlternativeSpans, AlternativeAt}
use Rattle.grammar.specs.Laws.Opened.{alternative_words_lem}
use Rattle.grammar.specs.Laws.Found.{alternative_room}
use Rattle.reference.specs.Numbers.{most_elements}
use Rattle.reference.specs.Substitute.{Planned, decided, union_options, splice_alternative}
use Rattle.planned.specs.Layout.{half, head_at, options_at, hand_at, place_of, record_at, elements_from, options_from, meaning}
use Rattle.planned.specs.List.{Located, ListedIn}
use Rattle.splices.specs.Options.{OptionsIn, OptionsFit, OptionsPut}
use Rattle.splices.specs.Places.{PartsAt}
use Rattle.splices.specs.Splice.{spliced, ElementsPut, HandIn, PartsFit, PartsPut, OneFits, OnePut}
use Rattle.planned.specs.Written.{HeadPut}
use Rattle.planned.specs.Laws.Parts.{Copied, elements_copied, options_copied, options_count}
use Rattle.planned.specs.Laws.Items.{unmarked, unmarked_place}
use Rattle.planned.specs.Laws.Kept.{Outside}
use Rattle.planned.specs.declared.list.Listed.{Listed}
use Rattle.splices.proofs.Laws.SpliceDecided.{spliced_by}

-- In the elements' area only is written, then in front of the hand.
module _ {ws : List ℕ} {end d : ℕ} {h : Listed} {index : ℕ} {b₀ : List ℕ} (hand : HandIn ws end d h index b₀) {at e to : ℕ}
    (fit : PartsFit ws end d h at b₀ e to) {count first : ℕ} (head : AlternativeAt ws end at count first) {next : ℕ} {b₁ : List ℕ} (put : ElementsPut ws end d h index count first b₀ b₁ e next) where
  hand_behind : (j : ℕ) → most_elements ≤ j → half b₁ j ≡ half b₀ j
  hand_behind j l = let f = fit.elements in let c = head.count_is in put.behind j (omega arith)

  hand_options : Copied b₀ b₁ h.o h.o h.no
  hand_options = record { each = λ i l. let o = hand.in_hand.options in hand_behind (h.o + i) (omega arith) }

  elements_located : Located b₁ h
  elements_located =
      let g = put.long in
      let z = hand.located.long in
      record { long = omega arith; elements = hand.located.elements; options = hand.located.options }

  elements_options_in : OptionsIn ws end d b₁ h.o h.no
  elements_options_in =
      let g = put.long in
      let z = hand.located.long in
      let o = hand.located.options in
      record { long = omega arith; low = λ j n. rw (hand_options.each j n) (hand.listed.options j n) }

  elements_options_fit : OptionsFit ws end d at b₁ h to
  elements_options_fit = record { is = λ t q s. rw (options_copied ws end d h.no hand_options) (fit.options.is t q s) }

  module _ {b₂ : List ℕ} {back : ℕ} (o : OptionsPut ws end d at h b₁ b₂ to back) where
    fewer : FoundAlternative ws end d at → back ≤ hand_at
    fewer f =
        let u = elements_options_fit.is f.tree f.next f.spans in
        let s : u.all ≡ options_from ws end d b₂ to (back - to) =
        let v = sym u.is ∙ o.meant f.tree f.next f.spans in cc in
        let c : length u.all ≡ back - to = ap length s ∙ options_count ws end d b₂ to (back - to) in
        let w = u.fits in
        let g = hand.in_hand.options in
        let p = o.past in
        omega arith

    parts_made : FoundAlternative ws end d at → {n : ℕ} → n ≡ h.ne - 1 + count
        → PartsPut ws end d h index at b₀ b₂ e to next n back
    parts_made f m =
        let z = fit.elements in
        let c = head.count_is in
        let l = hand.located.long in
        let u = o.long in
        let v = put.long in
        record {
          mid = b₁;
          count = count;
          first = first;
          head = head;
          elements = put;
          options = o;
          many = m;
          fits = omega arith;
          past = o.past;
          few = fewer f;
          room = alternative_room newest d f;
          big = omega arith;
          long = o.long ∙ put.long;
        }

-- The same with what is known of the alternative's parts.
module _ {ws : List ℕ} {end d : ℕ} {h : Listed} {index : ℕ} {b₀ : List ℕ} (hand : HandIn ws end d h index b₀) {at e to : ℕ}
    (fit : PartsFit ws end d h at b₀ e to) {count k m first : ℕ} (p : PartsAt ws end at count k m first) where
  pub parts_room : e + (h.ne - 1 + count) ≤ h.e
  parts_room =
      let z = fit.elements in
      let c = p.elements.count_is in
      let i = hand.in_hand.elements in
      let f = hand.in_hand.fit in
      omega arith

  module _ {next : ℕ} {b₁ : List ℕ} (put : ElementsPut ws end d h index count first b₀ b₁ e next) where
    pub parts_located : Located b₁ h
    parts_located = elements_located hand fit p.elements put

    pub parts_options_in : OptionsIn ws end d b₁ h.o h.no
    parts_options_in = elements_options_in hand fit p.elements put

    pub parts_options_fit : OptionsFit ws end d at b₁ h to
    parts_options_fit = elements_options_fit hand fit p.elements put

    pub parts_put : FoundAlternative ws end d at → {b₂ : List ℕ} {back : ℕ} → OptionsPut ws end d at h b₁ b₂ to back
        → PartsPut ws end d h index at b₀ b₂ e to next (h.ne - 1 + k) back
    parts_put f o = parts_made hand fit p.elements put o f (ap (λ c. h.ne - 1 + c) p.same)

pub ruleset parts_spliced = (parts_room, parts_located, parts_options_in, parts_options_fit, parts_put)

-- Then comes the head.
module _ {ws : List ℕ} {end d : ℕ} {h : Listed} {index : ℕ} {b₀ : List ℕ} (hand : HandIn ws end d h index b₀) {at a x y : ℕ}
    (fit : OneFits ws end d h at b₀ a x y) where
  pub one_parts : PartsFit ws end d h at b₀ x (options_at + y)
  one_parts = fit.parts

  module _ (f : FoundAlternative ws end d at) (low : end ≤ most_words) {b₂ : List ℕ} {next k back : ℕ}
      (put : PartsPut ws end d h index at b₀ b₂ x (options_at + y) next k back) {slot : ℕ} (is : slot ≡ place_of h.slot)
      {b₃ : List ℕ} (p : HeadPut b₂ b₃ a slot at k (back - (options_at + y))) where
    abbrev new : Listed
    new = record_at b₃ a x y

    slot_place : place_of (half b₃ (head_at a)) ≡ place_of h.slot
    slot_place =
        let l = hand.listed.head.low in
        ap place_of (p.slot_is ∙ is) ∙ unmarked_place {h = place_of h.slot} (omega arith)

    behind : (j : ℕ) → most_elements ≤ j → half put.mid j ≡ half b₀ j
    behind = hand_behind hand fit.parts put.head put.elements

    elements_kept : Copied put.mid b₃ x x (h.ne - 1 + put.count)
    elements_kept =
        let z = put.fits in
        let m = put.many in
        record { each = λ i l. p.front (x + i) (omega arith) ∙ put.options.front (x + i) (omega arith) }

    options_kept : Copied b₂ b₃ (options_at + y) (options_at + y) (back - (options_at + y))
    options_kept = let g = fit.head in record { each = λ i l. p.behind (options_at + y + i) (omega arith) }

    module _ (t : AlternativeOf (Block d)) (q : ℕ) (s : AlternativeSpans ws end d at t q) where
      elements_one : elements_from ws end d b₃ x k ≡ spliced index t.elements (elements_from ws end d b₀ h.e h.ne)
      elements_one =
          let w = alternative_words_lem d s in
          ap (elements_from ws end d b₃ x) put.many
          ∙ elements_copied ws end d (h.ne - 1 + put.count) elements_kept
          ∙ put.elements.meant t.elements q (rw put.head.first_is w.elements_span) (sym w.count ∙ sym put.head.count_is)

      options_one : (os : List OptionDecl) → union_options (options_from ws end d b₀ h.o h.no) t.options ≡ some os
          → options_from ws end d b₃ (options_at + y) (back - (options_at + y)) ≡ os
      options_one os u =
          let v = rw (options_copied ws end d h.no (hand_options hand fit.parts put.head put.elements)) at (put.options.meant t q s) in
          let same : options_from ws end d b₂ (options_at + y) (back - (options_at + y)) ≡ os = let n = sym v ∙ u in cc in
          options_copied ws end d (back - (options_at + y)) options_kept ∙ same

      one_means : (r : Planned d) → splice_alternative d (meaning ws end d b₀ h) index t ≡ decided r → meaning ws end d b₃ new ≡ r
      unfolding meaning
      one_means r c =
          let by = spliced_by d (meaning ws end d b₀ h) index t r c in
          let w = alternative_words_lem d s in
          let l = hand.listed.head.low in
          let v = unmarked {h = place_of h.slot} (omega arith) in
          rw (slot_place, p.slot_is, is, v, p.origin_is, w.id, p.ne_is, p.no_is, elements_one, options_one by.os by.union) by.is

      one_passed : next ≡ q
      one_passed =
          let w = alternative_words_lem d s in
          put.elements.passed t.elements q (rw put.head.first_is w.elements_span)
          (sym w.count ∙ sym put.head.count_is)

    one_listed : ListedIn ws end d b₃ new
    one_listed =
        let r = alternative_room newest d f in
        let u = p.ne_is in
        let v = p.no_is in
        let m = put.many in
        record {
          head =
              record {
                slot_found = rw slot_place hand.listed.head.slot_found;
                origin_found = rw p.origin_is f;
                low = rw slot_place hand.listed.head.low;
                origin_low = rw p.origin_is (omega arith);
              };
          elements = λ i l.
              rw (elements_kept.each i (omega arith)) (put.elements.elements hand.listed.elements i (omega arith));
          options = λ i l. rw (options_kept.each i (omega arith)) (put.options.low i (omega arith));
        }

    one_outside : Outside b₀ b₃ a (a + 1) x (x + k) y (back - options_at)
    one_outside =
        let g = fit.head in
        let z = put.fits in
        let m = put.many in
        let u = put.past in
        let o = put.options in
        record {
          heads = λ j l n i.
              ⊎_elim (λ t. p.front j t) (λ t. p.behind j (omega arith)) i ∙ o.front j (omega arith) ∙ behind j (omega arith);
          elements = λ j l i.
              p.front j (omega arith) ∙ o.front j (omega arith)
              ∙ ⊎_elim (λ t. put.elements.front j t) (λ t. put.elements.behind j (omega arith)) i;
          options = λ j l n i.
              p.behind j (omega arith) ∙ ⊎_elim (λ t. o.front j t) (λ t. o.behind j (omega arith)) i ∙ behind j (omega arith);
          long = p.long ∙ put.long;
        }

    pub one_put : OnePut ws end d h index at b₀ b₃ a x y (x + k) (back - options_at) next
    one_put =
        let g = fit.head in
        let l = put.few in
        let v = p.ne_is in
        let w = p.no_is in
        let u = put.past in
        record {
          meant = one_means;
          listed = one_listed;
          passed = one_passed;
          elements = omega arith;
          options = omega arith;
          outside = one_outside;
          hand = λ j n. p.behind j (omega arith) ∙ put.options.behind j (omega arith) ∙ behind j (omega arith);
        }

pub ruleset one_spliced = (one_parts, one_put)
