-- What the alternatives of a satellite come to, one more and all.
use Prim.Native.Nat.{ℕ, zero, suc, ◌+◌, ◌-◌, ◌*◌, ◌<◌, ◌≤◌}
use mathlib.Core.Path.{◌≡◌, refl, sym, ◌∙◌}
use mathlib.Core.List.{List, [], ◌∷◌, ◌++◌}
use mathlib.Core.Bool.{Bool}
use native.Mathlib.Omega.{arith}
use lib.ListN.{length, take, drop, length-append, get_or}
use Rattle.grammar.specs.Form.{newest}
use Rattle.grammar.specs.Tree.{Block, AlternativeOf}
use Rattle.grammar.specs.Numbers.{most_words}
use Rattle.grammar.specs.Stands.{Spans}
use Rattle.grammar.specs.Encode.{encode_alternative, encode_block}
use Rattle.grammar.specs.Valid.{ok_alternative, ok_block}
use Rattle.grammar.specs.Lists.{total, each, all, AllOf}
use Rattle.grammar.specs.Found.{FoundAlternative, FoundAlternatives, AlternativeAt}
use Rattle.grammar.specs.Fold.{AlternativeWalked}
use Rattle.grammar.specs.Laws.Opened.{first_spans, first_found, rest_found, alternative_words_lem, rule_words_lem}
use Rattle.grammar.specs.Laws.Stands.{stands_length}
use Rattle.grammar.specs.Laws.Found.{alternative_room}
use Rattle.reference.specs.Substitute.{Decided, decided, declined, decide_each, splice_alternative}
use Rattle.planned.specs.Layout.{meaning, hand_halves}
use Rattle.ends.specs.Ends.{skipping}
use Rattle.planned.specs.declared.list.Listed.{Listed}
use Rattle.planned.specs.Laws.Counts.{count_elements, count_options}
use Rattle.steps.specs.Decide.{DeclinedBy, Around, SizedTo, SizedSo, Unreferring, OneAt, ManySized, RuleSized}
use Rattle.steps.specs.Decide.{IsCounted, SmallSize, AlternativeCounted}
use Rattle.std.specs.Prelude.{Result, Ok, Err}
use Rattle.steps.specs.declared.decide.Clause.{Clause}
use Rattle.splices.specs.declared.splice.Size.{Size}

-- A decision for each item: the first one's, then the others'.
module _ {A B : Type 0} (f : A → Decided B) (a : A) (as' : List A) where
  each_declined : {c : _} → f a ≡ declined c → decide_each f (a ∷ as') ≡ declined c
  unfolding decide_each
  each_declined e = rw (decide_each, e) refl

  each_later : {b : B} {c : _} → f a ≡ decided b → decide_each f as' ≡ declined c → decide_each f (a ∷ as') ≡ declined c
  unfolding decide_each
  each_later e g = rw (decide_each, e, g) refl

  each_decided : {b : B} {bs : List B} → f a ≡ decided b → decide_each f as' ≡ decided bs → decide_each f (a ∷ as') ≡ decided (b ∷ bs)
  unfolding decide_each
  each_decided e g = rw (decide_each, e, g) refl

-- The elements with others in the place of one.
spliced_length : {A : Type 0} (es xs : List A) (i : ℕ) → i < length es → length (take i es ++ (xs ++ drop (suc i) es)) + 1 ≡ length es + length xs
spliced_length [] xs i l = absurd (omega arith)
spliced_length (e ∷ es) xs zero l = let z = length-append xs es in omega arith
spliced_length (e ∷ es) xs (suc i) l = let z = spliced_length es xs i (omega arith) in omega arith

module _ {ws : List ℕ} {end d : ℕ} {bs : List ℕ} {h : Listed} {quiet : Bool} where
  -- One alternative more in front.
  module _ {n at : ℕ} {z : Size} (some : n ≡ 0 → ⊥) where
    size_declined : {c : Clause} → OneAt ws end d at bs h quiet (Err c) → ManySized ws end d at bs h quiet n z (Err c)
    size_declined {c} o = record { is = go }
      where
        go : (index : ℕ) → index < h.ne → Around ws d (meaning ws end d bs h).elements index bs quiet
            → (as' : List (AlternativeOf (Block d))) (q : ℕ)
            → Spans ws end (each (encode_alternative (encode_block d))) (all (ok_alternative (ok_block d))) at as' q → length as' ≡ n
            → AllOf (Unreferring d) as' → DeclinedBy (decide_each (splice_alternative d (meaning ws end d bs h) index) as') c
        go index l r [] q s e u = absurd (some (sym e))
        go index l r (a ∷ as') q s e u =
            let f = first_spans s in
            let y = o.is index r a f.0 f.1 u.0 in
            record { is = each_declined _ a as' y.is }

    size_more : {more ne no count first there : ℕ} {t : Size} {r : Result Size Clause} → OneAt ws end d at bs h quiet (Ok more)
        → AlternativeAt ws end at count first → AlternativeWalked skipping ws end d at tt there tt → ne + 1 ≡ h.ne + count → no ≡ h.no + more
        → IsCounted z ne no t → ManySized ws end d there bs h quiet (n - 1) t r → ManySized ws end d at bs h quiet n z r
    unfolding total
    size_more {more} {ne} {no} {count} {there = there} {t} {r} o head w en eo ct v = record { is = go r v }
      where
        go : (r : Result Size Clause) → ManySized ws end d there bs h quiet (n - 1) t r → (index : ℕ) → index < h.ne
            → Around ws d (meaning ws end d bs h).elements index bs quiet → (as' : List (AlternativeOf (Block d))) (q : ℕ)
            → Spans ws end (each (encode_alternative (encode_block d))) (all (ok_alternative (ok_block d))) at as' q → length as' ≡ n
            → AllOf (Unreferring d) as' → SizedSo d (meaning ws end d bs h) index as' z r
        go r v index l ar [] q s e u = absurd (some (sym e))
        go (Err c) v index l ar (a ∷ as') q s e u =
            let f = first_spans s in
            let y = o.is index ar a f.0 f.1 u.0 in
            let x = v.is index l ar as' q (rw (w.passed a f.0 f.1) f.2) (omega arith) u.1 in
            record { is = each_later _ a as' y.is x.is }
        go (Ok g) v index l ar (a ∷ as') q s e u =
            let f = first_spans s in
            let y = o.is index ar a f.0 f.1 u.0 in
            let x = v.is index l ar as' q (rw (w.passed a f.0 f.1) f.2) (omega arith) u.1 in
            let m = count_elements ws end d bs h in
            let k = spliced_length (meaning ws end d bs h).elements a.elements index (omega arith) in
            let i = count_options ws end d bs h in
            let c = (alternative_words_lem d f.1).count in
            let j = head.count_is in
            record {
              ps = _ ∷ x.ps;
              are = each_decided _ a as' y.is x.are;
              alternatives = let b = x.alternatives in let cc = ct.alternatives in omega arith;
              elements = let b = x.elements in let cc = ct.elements in omega arith;
              options = let b = x.options in let cc = ct.options in let dd = y.count in omega arith;
            }

-- How many alternatives stand somewhere: each has five words or more.
many_low : (d : ℕ) {ws : List ℕ} {end : ℕ} (as' : List (AlternativeOf (Block d))) {at q : ℕ}
    → Spans ws end (each (encode_alternative (encode_block d))) (all (ok_alternative (ok_block d))) at as' q → at + 5 * length as' ≤ q
many_low d [] s = let l = stands_length s.stands in omega arith
many_low d (a ∷ as') s =
    let f = first_spans s in
    let w = alternative_words_lem d f.1 in
    let l = stands_length w.elements_span.stands in
    let t = many_low d as' f.2 in
    omega arith

-- A size that is 0 in each count is the size of no alternatives.
pub no_size_is : {z : Size} → z.a ≡ 0 → z.e ≡ 0 → z.o ≡ 0 → z ≡ record { a = 0; e = 0; o = 0 }
no_size_is p q r i = record { a = p i; e = q i; o = r i }

module _ (ws : List ℕ) (end d : ℕ) (bs : List ℕ) (h : Listed) (quiet : Bool) where
  -- A loop over n alternatives, of which i are done.
  pub record Sizing (n at i p : ℕ) (z : Size) : Type 0 where
    pub rest : (r : Result Size Clause) → ManySized ws end d p bs h quiet (n - i) z r → ManySized ws end d at bs h quiet n (record { a = 0; e = 0; o = 0 }) r
    pub found : FoundAlternatives ws end d (n - i) p
    pub within : p ≤ end
    pub few : n ≤ most_words
    pub alternatives : z.a ≤ i
    pub elements : z.e ≤ i * (hand_halves + most_words)
    pub options : z.o ≤ i * (hand_halves + most_words)
    pub done : i ≤ n

  none_done : (n : ℕ) → n - 0 ≡ n
  none_done n = omega arith

  pub sizing_all : {n at : ℕ} {z : Size} → FoundAlternatives ws end d n at → at ≤ end → end ≤ most_words
      → z.a ≡ 0 → z.e ≡ 0 → z.o ≡ 0 → Sizing n at 0 at z
  sizing_all {n} f l small x y v =
      record {
        rest = λ r s. rw (none_done n, no_size_is x y v) at s;
        found = rw (none_done n) f;
        within = l;
        few =
            let m = many_low d f.trees f.spans in
            let c = f.count in
            let e = stands_length f.spans.stands in
            omega arith;
        alternatives = omega arith;
        elements = omega arith;
        options = omega arith;
        done = omega arith;
      }

module _ {ws : List ℕ} {end d : ℕ} {bs : List ℕ} {h : Listed} {quiet : Bool} {n at i p : ℕ} {z : Size}
    (g : Sizing ws end d bs h quiet n at i p z) where
  left_none : n ≤ i → n - i ≡ 0
  left_none l = omega arith

  pub sizing_done : n ≤ i → ManySized ws end d at bs h quiet n (record { a = 0; e = 0; o = 0 }) (Ok z)
  unfolding decide_each total
  sizing_done e = g.rest (Ok z) (record { is = λ index l r as' q s c u. none as' index (c ∙ left_none e) })
    where
      none : (as' : List (AlternativeOf (Block d))) (index : ℕ) → length as' ≡ 0 → SizedTo d (meaning ws end d bs h) index as' z z
      none [] index c = record { ps = []; are = refl; alternatives = omega arith; elements = omega arith; options = omega arith }
      none (a ∷ as') index c = absurd (omega arith)

  pub sizing_small : SmallSize z
  sizing_small =
      let f = g.few in
      let a = g.alternatives in
      let b = g.elements in
      let c = g.options in
      let e = g.done in
      record { alternatives = omega arith; elements = omega arith; options = omega arith }

  module _ (less : i < n) where
    some : n - i ≡ 0 → ⊥
    some e = omega arith

    pub sizing_found : FoundAlternative ws end d p
    sizing_found = first_found g.found some

    pub sizing_room : p + 5 ≤ end
    sizing_room = alternative_room newest d sizing_found

    pub sizing_declined : {k : Result ℕ Clause} {c : Clause} → OneAt ws end d p bs h quiet k → k ≡ Err c
        → ManySized ws end d at bs h quiet n (record { a = 0; e = 0; o = 0 }) (Err c)
    sizing_declined {c = c} o e = g.rest (Err c) (size_declined some (rw e at o))

    module _ {k : Result ℕ Clause} {more : ℕ} (o : OneAt ws end d p bs h quiet k) (e : k ≡ Ok more) where
      pub sizing_low : more ≤ most_words
      sizing_low = o.low more e

      one_less : n - i - 1 ≡ n - (i + 1)
      one_less = omega arith

      pub sizing_more : {t : Size} {there : ℕ} → AlternativeCounted ws end d p h more z t → AlternativeWalked skipping ws end d p tt there tt
          → Sizing ws end d bs h quiet n at (i + 1) there t
      sizing_more {t} c w =
          let x = c.counted.alternatives in
          let y = c.counted.elements in
          let v = c.counted.options in
          let a = g.alternatives in
          let b = g.elements in
          let f = g.options in
          let fe = c.few_elements in
          let fo = c.few_options in
          record {
            rest = λ r s. g.rest r (size_more some (rw e at o) c.head w c.is_elements c.is_options c.counted (rw one_less s));
            found = rw (← one_less) (rest_found g.found some w.passed);
            within = w.within;
            few = g.few;
            alternatives = omega arith;
            elements = omega arith;
            options = omega arith;
            done = omega arith;
          }

-- The rule's body.
module _ {ws : List ℕ} {end at m i p : ℕ} {bs : List ℕ} {h : Listed} {quiet : Bool} {z : Size} (d : ℕ) (e : m ≡ get_or ws (at + 3) 0)
    (g : Sizing ws end d bs h quiet m (at + 4) i p z) where
  body_sized : {r : Result Size Clause} → ManySized ws end d (at + 4) bs h quiet m (record { a = 0; e = 0; o = 0 }) r
      → ((z : Size) → r ≡ Ok z → SmallSize z) → RuleSized ws end d at bs h quiet r
  body_sized v small =
      record {
        is = λ index l a t q s u. let w = rule_words_lem d s in v.is index l a t.body q w.alternatives (sym w.count ∙ sym e) u;
        small = small;
      }

  pub rule_goes : m ≤ i → RuleSized ws end d at bs h quiet (Ok z)
  rule_goes n = body_sized (sizing_done g n) λ y f. let k : z ≡ y = cc in rw (← k) (sizing_small g)

  pub rule_declines : {k : Result ℕ Clause} {c : Clause} → i < m → OneAt ws end d p bs h quiet k → k ≡ Err c → RuleSized ws end d at bs h quiet (Err c)
  rule_declines n o f = body_sized (sizing_declined g n o f) λ y k. absurd (let x : ◌≡◌ {A = ℕ} 0 1 = cc in omega arith)

pub ruleset sizing = (sizing_all, sizing_found, sizing_room, sizing_small, sizing_low, sizing_more, rule_goes, rule_declines)
