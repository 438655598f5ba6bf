-- How large a rule is, one alternative more and all.
use Prim.Native.Nat.{ℕ, ◌+◌, ◌-◌, ◌<◌, ◌≤◌}
use mathlib.Core.Path.{◌≡◌, sym, ◌∙◌}
use mathlib.Core.List.{List, [], ◌∷◌, map}
use native.Mathlib.Omega.{arith}
use lib.ListN.{length, get_or}
use Rattle.grammar.specs.Form.{newest}
use Rattle.grammar.specs.Tree.{Element, Block, AlternativeOf, Rule, inner_depth, body_depth}
use Rattle.grammar.specs.Numbers.{most_words}
use Rattle.grammar.specs.Stands.{Spans}
use Rattle.grammar.specs.Encode.{encode_element, encode_alternative, encode_block}
use Rattle.grammar.specs.Valid.{ok_element, ok_alternative, ok_block}
use Rattle.grammar.specs.Lists.{total, each, all}
use Rattle.grammar.specs.Found.{FoundAlternative, FoundAlternatives, AlternativeSpans, RuleSpans}
use Rattle.grammar.specs.Fold.{AlternativeWalked}
use Rattle.grammar.specs.Laws.Stands.{stands_length}
use Rattle.grammar.specs.Laws.Found.{alternative_room}
use Rattle.grammar.specs.Laws.Opened.{Opened, opened_leaf, opened_block, opened, first_spans, first_found, rest_found, alternative_words_lem, rule_words_lem}
use Rattle.reference.specs.Plan.{as_it_is, as_they_are}
use Rattle.ends.specs.Ends.{skipping}
use Rattle.splices.specs.declared.splice.Size.{Size}
use Rattle.steps.proofs.Laws.Sizing.{no_size_is}
use Rattle.steps.specs.Decide.{SmallSize, IsCounted}
use Rattle.substitution.specs.Size.{CountedTo, ManyCounted, RuleCounted}

-- An element is a word and more.
elements_past : (d : ℕ) {ws : List ℕ} {end : ℕ} (es : List (Element (Block d))) {at q : ℕ}
    → Spans ws end (each (encode_element (encode_block d))) (all (ok_element (ok_block d))) at es q → at + length es ≤ q
elements_past d [] s = let l = stands_length s.stands in omega arith
elements_past d {ws} {end} (e ∷ es) {at} s =
    let f = first_spans s in
    let m = past (opened e f.1) in
    let t = elements_past d es f.2 in
    omega arith
  where
    past : {q : ℕ} {e : Element (Block d)} → Opened ws end d at q e → at + 1 ≤ q
    past (opened_leaf p w s) = let l = stands_length s.stands in let m = w.place in omega arith
    past (opened_block p w s) = let l = stands_length s.stands in let m = w.place in omega arith

-- So an alternative has a word for itself, and one and more for each element and option.
alternative_past : (d : ℕ) {ws : List ℕ} {end at : ℕ} {a : AlternativeOf (Block d)} {q : ℕ} → AlternativeSpans ws end d at a q
    → at + 1 + get_or ws (at + 4) 0 + get_or ws (at + 3) 0 ≤ q
alternative_past d {a = a} s =
    let w = alternative_words_lem d s in
    let l = elements_past d a.elements w.elements_span in
    let c = w.count in
    omega arith

module _ {ws : List ℕ} {end d : ℕ} where
  -- One alternative more in front.
  count_more : {n at there : ℕ} {z t r : Size} → (n ≡ 0 → ⊥) → AlternativeWalked skipping ws end d at tt there tt
      → IsCounted z (get_or ws (at + 4) 0) (get_or ws (at + 3) 0) t → ManyCounted ws end d (n - 1) there t r → ManyCounted ws end d n at z r
  unfolding as_they_are total
  count_more {n} {at} {there} {z} {t} {r} some w c v = record { is = go }
    where
      go : (as' : List (AlternativeOf (Block d))) (q : ℕ)
          → Spans ws end (each (encode_alternative (encode_block d))) (all (ok_alternative (ok_block d))) at as' q → length as' ≡ n
          → CountedTo (map as_it_is as') z r
      go [] q s e = absurd (some (sym e))
      go (a ∷ as') q s e =
          let f = first_spans s in
          let x = v.is as' q (rw (w.passed a f.0 f.1) f.2) (omega arith) in
          let y = alternative_words_lem d f.1 in
          record {
            alternatives = let i = x.alternatives in let j = c.alternatives in omega arith;
            elements = let i = x.elements in let j = c.elements in let k = y.count in omega arith;
            options = let i = x.options in let j = c.options in let k = y.counted in omega arith;
          }

-- A loop over n alternatives, of which i are done.
pub record Counting (ws : List ℕ) (end d n at i p : ℕ) (z : Size) : Type 0 where
  pub rest : (r : Size) → ManyCounted ws end d (n - i) p z r → ManyCounted ws end d n at (record { a = 0; e = 0; o = 0 }) r
  pub found : FoundAlternatives ws end d (n - i) p
  pub within : p ≤ end
  pub few : z.a + z.e + z.o ≤ p
  pub low : end ≤ most_words

none_done : (n : ℕ) → n - 0 ≡ n
none_done n = omega arith

pub counting_all : (d : ℕ) {ws : List ℕ} {end n at : ℕ} {z : Size} → FoundAlternatives ws end d n at → at ≤ end → end ≤ most_words
    → z.a ≡ 0 → z.e ≡ 0 → z.o ≡ 0 → Counting ws end d n at 0 at z
counting_all d {n = n} f l small x y v =
    record {
      rest = λ r s. rw (none_done n, no_size_is x y v) at s;
      found = rw (none_done n) f;
      within = l;
      few = omega arith;
      low = small;
    }

module _ {ws : List ℕ} {end d n at i p : ℕ} {z : Size} (g : Counting ws end d n at i p z) where
  pub counting_small : SmallSize z
  counting_small =
      let f = g.few in
      let w = g.within in
      let l = g.low in
      record { alternatives = omega arith; elements = omega arith; options = omega arith }

  left_none : n ≤ i → n - i ≡ 0
  left_none l = omega arith

  counting_done : n ≤ i → ManyCounted ws end d n at (record { a = 0; e = 0; o = 0 }) z
  unfolding as_they_are total
  counting_done e = g.rest z (record { is = λ as' q s c. go as' (c ∙ left_none e) })
    where
      go : (as' : List (AlternativeOf (Block d))) → length as' ≡ 0 → CountedTo (map as_it_is as') z z
      go [] c = record { alternatives = omega arith; elements = omega arith; options = omega arith }
      go (a ∷ as') c = absurd (omega arith)

  module _ (less : i < n) where
    some : n - i ≡ 0 → ⊥
    some e = omega arith

    one_less : n - i - 1 ≡ n - (i + 1)
    one_less = omega arith

    pub counting_found : FoundAlternative ws end d p
    counting_found = first_found g.found some

    pub counting_room : p + 5 ≤ end
    counting_room = alternative_room newest d counting_found

    pub counting_more : {t : Size} {there e o : ℕ} → e ≡ get_or ws (p + 4) 0 → o ≡ get_or ws (p + 3) 0 → IsCounted z e o t
        → AlternativeWalked skipping ws end d p tt there tt
        → Counting ws end d n at (i + 1) there t
    counting_more {t} {there} e o by w =
        let c : IsCounted z (get_or ws (p + 4) 0) (get_or ws (p + 3) 0) t = rw (e, o) at by in
        let f = counting_found in
        let l = alternative_past d f.spans in
        let m = w.passed f.tree f.next f.spans in
        let x = c.alternatives in
        let y = c.elements in
        let v = c.options in
        let k = g.few in
        record {
          rest = λ r s. g.rest r (count_more some w c (rw one_less s));
          found = rw (← one_less) (rest_found g.found some w.passed);
          within = w.within;
          few = omega arith;
          low = g.low;
        }

-- The rule's body.
pub rule_counted : {ws : List ℕ} {end at m p : ℕ} {z : Size} → m ≡ get_or ws (at + 3) 0 → {i : ℕ}
    → Counting ws end inner_depth m (at + 4) i p z → m ≤ i → RuleCounted ws end at z
rule_counted {ws} {end} {at} {m} {z = z} e g none =
    let f = g.few in
    let w = g.within in
    let l = g.low in
    record {
      alternatives = λ t q s. let x = (all t q s).alternatives in omega arith;
      elements = λ t q s. let x = (all t q s).elements in omega arith;
      options = λ t q s. let x = (all t q s).options in omega arith;
      few = omega arith;
      small = counting_small g;
    }
  where
    all : (t : Rule) (q : ℕ) → RuleSpans ws end body_depth at t q → CountedTo (as_they_are t.body) (record { a = 0; e = 0; o = 0 }) z
    all t q s =
        let y = rule_words_lem inner_depth s in
        (counting_done g none).is t.body q y.alternatives (sym y.count ∙ sym e)

pub ruleset counting = (counting_all, counting_small, counting_found, counting_room, counting_more, rule_counted)
