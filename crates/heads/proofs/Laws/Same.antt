-- The words of an element that stands at a place are its encoding; made plain it differs in one word.
use Prim.Native.Nat.{ℕ, ◌+◌, ◌*◌, ◌-◌, ◌≤◌}
use mathlib.Core.Path.{◌≡◌, refl, sym, ◌∙◌, subst}
use mathlib.Core.List.{List, [], ◌∷◌, ◌++◌}
use mathlib.Core.Bool.{Bool, true, false, false≢true}
use native.Mathlib.Omega.{arith}
use lib.ListN.{length, get_or, take, drop}
use Rattle.grammar.specs.Numbers.{call_kind, kind_end}
use Rattle.grammar.specs.Words.{words}
use Rattle.grammar.specs.Stands.{Stands}
use Rattle.grammar.specs.Tree.{Element, leaf, block, Block}
use Rattle.grammar.specs.Encode.{encode_element, encode_block, encode_head, encode_option, encode_leaf, leaf_kind, label_id, label_name}
use Rattle.grammar.specs.Encode.{encode_element_in}
use Rattle.grammar.specs.Lists.{each}
use Rattle.grammar.specs.Found.{FoundElement, ElementSpans}
use Rattle.grammar.specs.Fold.{ElementWalked}
use Rattle.grammar.specs.Laws.Words.{length_words}
use Rattle.grammar.specs.Laws.Stands.{stands_slice, stands_length, stands_head, run_stands}
use Rattle.grammar.specs.Laws.Complete.{leaf_kind_lem}
use Rattle.grammar.specs.Laws.Parse.{either}
use Rattle.grammar.specs.Laws.Opened.{Opened, opened_leaf, opened_block, opened}
use Rattle.words.specs.Room.{Room}
use Rattle.reference.specs.Substitute.{plain}
use Rattle.planned.specs.Layout.{made_if}
use Rattle.ends.specs.Ends.{skipping}
use Rattle.writing.specs.Wrote.{Wrote}
use Rattle.writing.specs.Laws.Wrote.{wrote_then}
use Rattle.heads.specs.Same.{ItemThere, SameFits, SameCopied, SpanCopied}

-- What stands in the words of a sheet, as a slice of them.
slice : {bs : List ℕ} {end at q : ℕ} {xs : List ℕ} → Room bs end → Stands (words bs) end xs at q → take (q - at) (drop at (words bs)) ≡ xs
slice {bs} {end} {at} {q} {xs} r s =
    let l = stands_length s in
    let m : q - at ≡ length xs = omega arith in
    rw m (stands_slice (let t = r.trailer in omega (arith, length_words bs)) s)

-- Without its quantifier it is as long.
plain_length : (d : ℕ) (e : Element (Block d)) → length (encode_element (encode_block d) (plain e)) ≡ length (encode_element (encode_block d) e)
unfolding encode_element_in encode_head plain
plain_length d (leaf h l) = refl
plain_length d (block h b) = refl

made_length : (d : ℕ) (made : Bool) (e : Element (Block d))
    → length (encode_element (encode_block d) (made_if made e)) ≡ length (encode_element (encode_block d) e)
made_length d true e = plain_length d e
made_length d false e = refl

-- A call without its quantifier: its first words, and those behind its kind.
record PlainWords (ws : List ℕ) (end d at : ℕ) (e : Element (Block d)) (q : ℕ) : Type 0 where
  rest : List ℕ
  words : encode_element (encode_block d) (plain e) ≡ get_or ws at 0 ∷ get_or ws (at + 1) 0 ∷ call_kind ∷ rest
  stands : Stands ws end rest (at + 3) q

module _ {ws : List ℕ} {end at : ℕ} (d : ℕ) where
  plain_words : ItemThere ws end d at true → (e : Element (Block d)) (q : ℕ) → ElementSpans ws end d at e q → PlainWords ws end d at e q
  unfolding encode_element_in encode_head plain
  plain_words i (leaf h l) q s =
      let w = s.stands.run.1 in
      let c = i.call refl in
      let k = leaf_kind_lem l in
      let z : leaf_kind l + kind_end * 0 ≡ call_kind = let y = w.1.0 in omega arith in
      record {
        rest = label_id h.label ∷ label_name h.label ∷ length h.options ∷ each encode_option h.options ++ encode_leaf l;
        words = rw (stands_head s.stands, w.0, z);
        stands = run_stands at 3 w.1.1;
      }
  plain_words i (block h b) q s = absurd (let c = i.call refl in let y = s.stands.run.1.1.0 in omega arith)

  -- Where the element at a place ends, and the room for it.
  module _ {p : ℕ} (k : ElementWalked skipping ws end d at tt p tt) where
    long : (e : Element (Block d)) (q : ℕ) → ElementSpans ws end d at e q → p - at ≡ length (encode_element (encode_block d) e)
    long e q s = let z = k.passed e q s in let l = stands_length s.stands in omega arith

    pub end_past : {made : Bool} → ItemThere ws end d at made → at + 6 ≤ p
    end_past i =
        let f = i.found in
        let e = k.passed f.tree f.next f.spans in
        go f.tree (opened f.tree f.spans) e
      where
        go : {q : ℕ} (e : Element (Block d)) → Opened ws end d at q e → p ≡ q → at + 6 ≤ p
        go e (opened_leaf o w s) z = let l = stands_length s.stands in let y = w.place in omega arith
        go e (opened_block o w s) z = let l = stands_length s.stands in let y = w.place in omega arith

    pub end_within : p ≤ end
    end_within = k.within

    pub span_fits : {made : Bool} {to : ℕ} {out : List ℕ} → ItemThere ws end d at made → SameFits ws end d at made to out
        → 4 * (to + (p - at)) ≤ length out
    span_fits {made} i h =
        let f = i.found in
        let l = long f.tree f.next f.spans in
        let m = made_length d made f.tree in
        let n = h.fits f.tree f.next f.spans in
        omega arith

-- The two ways in which they are written.
module _ {ws : List ℕ} {at q : ℕ} {made : Bool} {to : ℕ} {b a : List ℕ} where
  pub span_same : made ≡ false → Wrote b a to (take (q - at) (drop at ws)) → SpanCopied ws at q made to b a (to + (q - at))
  span_same z u = record { same = λ _. u; plain = λ t. absurd (false≢true (sym z ∙ t)); ends = refl }

  pub span_plain : made ≡ true → at + 6 ≤ q → {m : List ℕ} {v w k : ℕ} → v ≡ get_or ws at 0 → w ≡ get_or ws (at + 1) 0
      → k ≡ call_kind → Wrote b m to (v ∷ w ∷ k ∷ []) → Wrote m a (to + 3) (take (q - at - 3) (drop (at + 3) ws))
      → SpanCopied ws at q made to b a (to + (q - at))
  span_plain z l x y k u t =
      record {
        same = λ f. absurd (false≢true (sym f ∙ z));
        plain = λ _. rw (← x, ← y) (wrote_then (omega arith) (rw k at u) t);
        ends = refl;
      }

pub item_same : {bs : List ℕ} {end at : ℕ} (d : ℕ) {p : ℕ} {made : Bool} {to : ℕ} {b a : List ℕ} {r : ℕ} → Room bs end
    → ItemThere (words bs) end d at made → ElementWalked skipping (words bs) end d at tt p tt
    → SpanCopied (words bs) at p made to b a r → SameCopied (words bs) end d at made to b a r
item_same {bs} {end} {at} d {p} {made} {to} {b} {a} {r} room i k c =
    record {
      wrote = λ e q s. either made (λ t. is_plain e q s t) (λ f. is_same e q s f);
      ends = λ e q s. let l = long d k e q s in let m = made_length d made e in let z = c.ends in omega arith;
    }
  where
    is_same : (e : Element (Block d)) (q : ℕ) → ElementSpans (words bs) end d at e q → made ≡ false
        → Wrote b a to (encode_element (encode_block d) (made_if made e))
    is_same e q s f =
        let o = k.passed e q s in
        subst (λ c. Wrote b a to (encode_element (encode_block d) (made_if c e))) (sym f)
        (rw (← (slice room s.stands), ← o) (c.same f))

    is_plain : (e : Element (Block d)) (q : ℕ) → ElementSpans (words bs) end d at e q → made ≡ true
        → Wrote b a to (encode_element (encode_block d) (made_if made e))
    is_plain e q s t =
        let w = plain_words d (rw t at i) e q s in
        let z = k.passed e q s in
        let o : p - at - 3 ≡ q - (at + 3) = omega arith in
        subst (λ c. Wrote b a to (encode_element (encode_block d) (made_if c e))) (sym t)
        (rw (w.words, ← (slice room w.stands), ← o) (c.plain t))

pub there_found : {ws : List ℕ} {end at : ℕ} (d : ℕ) {made : Bool} → ItemThere ws end d at made → FoundElement ws end d at
there_found d i = i.found

pub ruleset spans = (span_same, span_plain)

pub ruleset sames = (there_found, end_past, end_within, span_fits, item_same)
