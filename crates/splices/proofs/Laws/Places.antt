-- Places of elements and options, one more.
use Prim.Native.Nat.{ℕ, zero, suc, ◌+◌, ◌-◌, ◌*◌, ◌<◌, ◌≤◌}
use mathlib.Core.Path.{◌≡◌, refl, sym, ap₂, ◌∙◌}
use mathlib.Core.List.{List, [], ◌∷◌}
use mathlib.Core.Bool.{true≢false}
use native.Mathlib.Omega.{arith}
use lib.ListN.{length, get_or}
use Rattle.grammar.specs.Form.{newest}
use Rattle.grammar.specs.Numbers.{most_words}
use Rattle.grammar.specs.Tree.{Element, Block}
use Rattle.grammar.specs.Found.{FoundElement, FoundElements, FoundAlternative, ElementSpans, AlternativeAt}
use Rattle.grammar.specs.Fold.{ElementWalked}
use Rattle.grammar.specs.Laws.Stands.{stands_length}
use Rattle.grammar.specs.Laws.Opened.{first_spans, first_found, rest_found, Opened, opened_leaf, opened_block, opened, alternative_words_lem}
use Rattle.grammar.specs.Laws.Found.{element_room}
use Rattle.planned.specs.Layout.{half, place_of, element_of, elements_from}
use Rattle.planned.specs.Halves.{HalfPut}
use Rattle.planned.specs.List.{ElementIn}
use Rattle.ends.specs.Ends.{skipping}
use Rattle.planned.specs.Laws.Items.{unmarked, unmarked_place, standing_is}
use Rattle.splices.specs.Places.{ElementsSpan, PlacesPut, OptionCount, PartsAt}

module _ (ws : List ℕ) (end d : ℕ) where
  place_means : (p : ℕ) → p < most_words → (e : Element (Block d)) (q : ℕ) → ElementSpans ws end d p e q → element_of ws end d p ≡ e
  unfolding element_of
  place_means p h e q s = rw (unmarked {h = p} (omega arith), unmarked_place {h = p} (omega arith)) (standing_is ws end d s)

  place_in : (p : ℕ) → p < most_words → FoundElement ws end d p → ElementIn ws end d p
  place_in p h f =
      let u : place_of p ≡ p = unmarked_place (omega arith) in
      record { found = rw u f; low = rw u h; plain = λ e. absurd (true≢false (sym e ∙ unmarked {h = p} (omega arith))) }

  module _ {p to : ℕ} {before : List ℕ} where
    pub places_none : p ≤ end → PlacesPut ws end d 0 p before before to p
    unfolding elements_from
    places_none h =
        record {
          meant = none;
          elements = λ i l. absurd (omega arith);
          passed = past;
          within = h;
          front = λ j l. refl;
          behind = λ j l. refl;
          long = refl;
        }
      where
        none : (es : List (Element (Block d))) (q : ℕ) → ElementsSpan ws end d p es q → length es ≡ 0 → [] ≡ es
        none [] q s e = refl
        none (e ∷ es) q s l = absurd (omega arith)

        past : (es : List (Element (Block d))) (q : ℕ) → ElementsSpan ws end d p es q → length es ≡ 0 → p ≡ q
        past [] q s e = let l = stands_length s.stands in omega arith
        past (e ∷ es) q s l = absurd (omega arith)

  module _ {n p t next r : ℕ} {cur mid last : List ℕ} (low : p < most_words) (f : FoundElement ws end d p) (put : HalfPut cur mid t p)
      (w : ElementWalked skipping ws end d p tt next tt) (g : PlacesPut ws end d n next mid last (suc t) r) where
    here : half last t ≡ p
    here = g.front t (omega arith) ∙ put.here

    pub places_more : PlacesPut ws end d (suc n) p cur last t r
    unfolding elements_from
    places_more =
        record {
          meant = means;
          elements = into;
          passed = past;
          within = g.within;
          front = λ j l. g.front j (omega arith) ∙ put.other j (λ e. omega arith);
          behind = λ j l. g.behind j (omega arith) ∙ put.other j (λ e. omega arith);
          long = g.long ∙ put.long;
        }
      where
        means : (es : List (Element (Block d))) (q : ℕ) → ElementsSpan ws end d p es q → length es ≡ suc n
            → (element_of ws end d (half last t) ∷ elements_from ws end d last (suc t) n) ≡ es
        means [] q s e = absurd (omega arith)
        means (e ∷ es) q s l =
            let x = first_spans s in
            rw here (ap₂ (λ a b. a ∷ b) (place_means p low e x.0 x.1)
            (g.meant es q (rw (w.passed e x.0 x.1) x.2) (omega arith)))

        past : (es : List (Element (Block d))) (q : ℕ) → ElementsSpan ws end d p es q → length es ≡ suc n → r ≡ q
        past [] q s e = absurd (omega arith)
        past (e ∷ es) q s l = let x = first_spans s in g.passed es q (rw (w.passed e x.0 x.1) x.2) (omega arith)

        into : (i : ℕ) → i < suc n → ElementIn ws end d (half last (t + i))
        into zero l = let e : t + 0 ≡ t = omega arith in rw (e, here) (place_in p low f)
        into (suc i) l = let e : t + suc i ≡ suc t + i = omega arith in rw e (g.elements i (omega arith))

  -- The loop that writes places, with i of n written: what would follow it is known.
  pub record Placing (n at : ℕ) (before : List ℕ) (to : ℕ) (cur : List ℕ) (i p : ℕ) : Type 0 where
    pub few : i ≤ n
    pub rest : (last : List ℕ) (r : ℕ) → PlacesPut ws end d (n - i) p cur last (to + i) r → PlacesPut ws end d n at before last to r
    pub found : FoundElements ws end d (n - i) p
    pub within : p ≤ end
    pub long : length cur ≡ length before

module _ {ws : List ℕ} {end : ℕ} where
  pub placing_none : (d : ℕ) {n at : ℕ} (before : List ℕ) (to : ℕ) → FoundElements ws end d n at → at ≤ end
      → Placing ws end d n at before to before 0 at
  placing_none d {n} before to f h =
      let a : n - 0 ≡ n = omega arith in
      let b : to + 0 ≡ to = omega arith in
      record { few = omega arith; rest = λ last r x. rw (a, b) at x; found = rw a f; within = h; long = refl }

  module _ (d : ℕ) {n at : ℕ} {before : List ℕ} {to : ℕ} {cur : List ℕ} {i p : ℕ} (g : Placing ws end d n at before to cur i p) where
    pub placing_done : n ≤ i → PlacesPut ws end d n at before cur to p
    placing_done h =
        let a : n - i ≡ 0 = omega arith in
        g.rest cur p (rw a (places_none ws end d g.within))

    module _ (more : i < n) where
      some : n - i ≡ 0 → ⊥
      some e = omega arith

      pub placing_found : FoundElement ws end d p
      placing_found = first_found g.found some

      pub placing_room : p + 6 ≤ end
      placing_room = element_room newest d placing_found

      pub placing_more : {mid : List ℕ} {next : ℕ} → end ≤ most_words → HalfPut cur mid (to + i) p
          → ElementWalked skipping ws end d p tt next tt → Placing ws end d n at before to mid (i + 1) next
      placing_more {mid} {next} low put w =
          let room = placing_room in
          let a : n - i ≡ suc (n - (i + 1)) = omega arith in
          let b : to + (i + 1) ≡ suc (to + i) = omega arith in
          let c : n - i - 1 ≡ n - (i + 1) = omega arith in
          record {
            few = omega arith;
            rest = λ last r x. g.rest last r (rw a (places_more ws end d (omega arith) placing_found put w (rw b at x)));
            found = rw c at (rest_found g.found some w.passed);
            within = w.within;
            long = put.long ∙ g.long;
          }

pub ruleset placing = (placing_none, placing_done, placing_found, placing_room, placing_more)

-- How many parts an alternative has.
pub elements_low : (d : ℕ) {ws : List ℕ} {end : ℕ} (es : List (Element (Block d))) {at q : ℕ} → ElementsSpan ws end d at es q → at + 6 * length es ≤ end
elements_low d [] s = let l = stands_length s.stands in omega arith
elements_low d (e ∷ es) s =
    let f = first_spans s in
    let r = element_words_lem d (record { tree = e; next = f.0; spans = f.1 }) in
    let t = elements_low d es f.2 in
    omega arith
  where
    element_words_lem : (d : ℕ) {ws : List ℕ} {end at : ℕ} (f : FoundElement ws end d at) → at + 6 ≤ f.next
    element_words_lem d {ws} {end} {at} f = go (opened f.tree f.spans)
      where
        go : {e : Element (Block d)} → Opened ws end d at f.next e → at + 6 ≤ f.next
        go (opened_leaf p w s) = let l = stands_length s.stands in omega arith
        go (opened_block p w s) = let l = stands_length s.stands in omega arith

module _ (d : ℕ) {ws : List ℕ} {end at : ℕ} (f : FoundAlternative ws end d at) where
  pub option_counted : {n : ℕ} → n ≡ get_or ws (at + 3) 0 → OptionCount ws end at n
  option_counted e =
      let w = alternative_words_lem d f.spans in
      let l = stands_length w.elements_span.stands in
      record { is = e; room = omega arith }

  pub parts_counted : {count k m first : ℕ} → AlternativeAt ws end at count first → k ≡ count → OptionCount ws end at m
      → PartsAt ws end at count k m first
  parts_counted a e o =
      let w = alternative_words_lem d f.spans in
      let l = elements_low d f.tree.elements w.elements_span in
      let c = w.count in
      let x = a.count_is in
      let y = o.is in
      record { elements = a; same = e; options = o; room = omega arith }

pub ruleset counted = (option_counted, parts_counted)
