-- The hub's alternative in hand means what stands in the sheet, and the list is as it was.
use Prim.Native.Nat.{ℕ, zero, suc, ◌+◌, ◌-◌, ◌*◌, ◌<◌, ◌≤◌}
use mathlib.Core.Path.{◌≡◌, refl, sym, ap, ap₂, ◌∙◌}
use mathlib.Core.List.{List, ◌∷◌}
use native.Mathlib.Omega.{arith}
use lib.ListN.{length}
use Rattle.grammar.specs.Numbers.{most_words, work_bytes}
use Rattle.grammar.specs.Tree.{AlternativeOf, Block}
use Rattle.grammar.specs.Found.{FoundAlternative, AlternativeSpans}
use Rattle.grammar.specs.Laws.Opened.{alternative_words_lem}
use Rattle.reference.specs.Plan.{as_it_is}
use Rattle.planned.specs.Layout.{half, hand_at, hand_end, marked, place_of, option_of, elements_from, options_from, meaning}
use Rattle.planned.specs.List.{Laid, ListedIn}
use Rattle.planned.specs.Moves.{SameEnds}
use Rattle.splices.specs.Moves.{Brought}
use Rattle.splices.specs.Options.{standing_options}
use Rattle.splices.specs.Places.{PlacesPut, OptionPlacesPut, PartsAt}
use Rattle.planned.specs.Laws.Parts.{elements_copied}
use Rattle.planned.specs.Laws.Kept.{kept}
use Rattle.planned.specs.Laws.Items.{is_marked_lem, marked_place}
use Rattle.planned.specs.declared.list.Sizes.{Sizes}
use Rattle.planned.specs.declared.list.Listed.{Listed}
use Rattle.splices.proofs.Laws.OptionsUnion.{own_options}

-- Options listed by their places are those that stand there.
options_there : (ws : List ℕ) (end d : ℕ) (bs : List ℕ) (n at to : ℕ) → ((i : ℕ) → i < n → half bs (to + i) ≡ at + 2 * i)
    → options_from ws end d bs to n ≡ standing_options ws end d at n
unfolding options_from standing_options
options_there ws end d bs zero at to h = refl
options_there ws end d bs (suc n) at to h =
    let a : to + 0 ≡ to = omega arith in
    let b : at + 2 * 0 ≡ at = omega arith in
    ap₂ (λ o os. option_of ws end d o ∷ os) (rw (a, b) at (h 0 (omega arith)))
    (options_there ws end d bs n (2 + at) (suc to) λ i l.
    let e : suc to + i ≡ to + suc i = omega arith in
    rw e (h (suc i) (omega arith) ∙ omega arith))

module _ (d : ℕ) {ws : List ℕ} {end at count k m first : ℕ} (p : PartsAt ws end at count k m first)
    (f : FoundAlternative ws end d at) (low : end ≤ most_words) {b₀ b₁ b₂ : List ℕ} (big : work_bytes ≤ length b₀) {last : ℕ}
    (e : PlacesPut ws end d count first b₀ b₁ (hand_end - k) last) (o : OptionPlacesPut m (at + 5) b₁ b₂ hand_at) where
  few : at + 5 + 2 * m + 6 * k ≤ most_words
  few = let r = p.room in omega arith

  abbrev in_hand : Listed
  in_hand = record { slot = marked + at; origin = at; ne = k; no = m; e = hand_end - k; o = hand_at }

  kept_elements : (i : ℕ) → i < count → half b₂ (hand_end - k + i) ≡ half b₁ (hand_end - k + i)
  kept_elements i l = let r = few in o.behind (hand_end - k + i) (omega arith)

  untouched : (j : ℕ) → j < hand_at → half b₂ j ≡ half b₀ j
  untouched j l = let r = few in o.front j l ∙ e.front j (omega arith)

  same : (l : Sizes) → Laid b₀ l → SameEnds b₀ b₂ l l
  same l laid =
      kept {a = l.out.a} {b = l.out.a} {x = l.out.e} {z = l.out.e} {y = l.out.o} {w = l.out.o} laid
      (record { out_a = omega arith; out_e = omega arith; out_o = omega arith; top_a = laid.out_a; top_e = laid.out_e; top_o = laid.out_o })
      (record {
        heads = λ j h g n. untouched j (omega arith);
        elements = λ j h n. untouched j (omega arith);
        options = λ j h g n. untouched j g;
        long = o.long ∙ e.long;
      })

  slot_place : place_of (marked + at) ≡ at
  slot_place = marked_place {h = marked + at} (omega arith) ∙ omega arith

  module _ (a : AlternativeOf (Block d)) (q : ℕ) (s : AlternativeSpans ws end d at a q) where
    elements_are : elements_from ws end d b₂ (hand_end - k) k ≡ a.elements
    elements_are =
        let w = alternative_words_lem d s in
        ap (elements_from ws end d b₂ (hand_end - k)) p.same
        ∙ elements_copied ws end d count (record { each = kept_elements })
        ∙ e.meant a.elements q (rw p.elements.first_is w.elements_span) (sym w.count ∙ sym p.elements.count_is)

    options_are : options_from ws end d b₂ hand_at m ≡ a.options
    options_are = options_there ws end d b₂ m (at + 5) hand_at o.here ∙ rw p.options.is (sym (own_options ws end d s))

    meant : meaning ws end d b₂ in_hand ≡ as_it_is a
    unfolding meaning
    meant =
        let w = alternative_words_lem d s in
        let v = is_marked_lem {h = marked + at} (omega arith) in
        rw (slot_place, v, elements_are, options_are, w.id, w.carried_is, w.flag_is) refl

  listed : ListedIn ws end d b₂ in_hand
  listed =
      let r = few in
      record {
        head =
            record {
              slot_found = rw slot_place f;
              origin_found = f;
              low = rw slot_place (omega arith);
              origin_low = omega arith;
            };
        elements = λ i l.
            let n = p.same in rw (kept_elements i (omega arith)) (e.elements i (omega arith));
        options = λ i l. let n = p.room in rw (o.here i l) (omega arith);
      }

  pub brought : Brought ws end d at b₀ b₂ in_hand
  brought =
      let r = few in
      let x = o.long in
      let y = e.long in
      record {
        same = same;
        meant = meant;
        listed = listed;
        located = record { long = omega arith; elements = omega arith; options = omega arith };
        in_hand = record { elements = omega arith; options = refl; fit = omega arith };
        long = o.long ∙ e.long;
      }
