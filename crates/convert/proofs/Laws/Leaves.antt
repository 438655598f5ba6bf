-- Leaves in the newest words: a call has a word more, the others have the words that they had.
use Prim.Native.Nat.{ℕ, ◌+◌, ◌-◌, ◌≤◌}
use mathlib.Core.Path.{◌≡◌, refl, sym, ap, ◌∙◌}
use mathlib.Core.List.{List, [], ◌∷◌, ◌++◌, append_assoc}
use mathlib.Core.Bool.{true}
use native.Mathlib.Omega.{arith}
use lib.ListN.{length, take, drop, length-drop}
use lib.Seq.{length-take-le}
use lib.Dec.{eqb}
use borrow.Author.Tests.{eqb-true}
use Rattle.std.proofs.Common.{length-append}
use Rattle.std.specs.Cmp.{first_so}
use Rattle.grammar.specs.Numbers.{block_kind, call_kind}
use Rattle.grammar.specs.Form.{first_form, newest}
use Rattle.grammar.specs.Words.{words}
use Rattle.grammar.specs.Tree.{Leaf, epsilon, action, predicate, call, token, terminal, end_of_input, Element}
use Rattle.grammar.specs.Tree.{Block}
use Rattle.grammar.specs.Stands.{Stands}
use Rattle.grammar.specs.Encode.{encode_head, leaf_kind, encode_leaf_in, encode_element_in}
use Rattle.grammar.specs.Encode.{encode_block_in, encode_element, encode_block}
use Rattle.grammar.specs.Read.{is_name}
use Rattle.grammar.specs.Valid.{ok_leaf_in}
use Rattle.grammar.specs.Found.{FoundElementIn, HeadAt, LeafEndIn}
use Rattle.grammar.specs.Found.{ElementSpansIn}
use Rattle.grammar.specs.Laws.Stands.{stands_length, stands_slice}
use Rattle.grammar.specs.Laws.Words.{length_words}
use Rattle.grammar.specs.Laws.Complete.{leaf_kind_lem}
use Rattle.grammar.specs.Laws.Opened.{OpenedIn, opened_leaf, opened_block, opened}
use Rattle.grammar.specs.Laws.Found.{ends_call}
use Rattle.words.specs.Room.{Room}
use Rattle.writing.specs.Wrote.{Wrote}
use Rattle.writing.specs.Laws.Wrote.{wrote_then}
use Rattle.convert.specs.declared.walk.Place.{Place}
use Rattle.convert.specs.Widened.{Roomy, Copied, Ended, ElementWidened}

-- The rules end in front of the last word.
pub within : {bs : List ℕ} {end : ℕ} → Room bs end → end ≤ length (words bs)
within {bs} r = let t = r.trailer in omega (arith, length_words bs)

pub slice_length : (ws : List ℕ) (at q : ℕ) → q ≤ length ws → length (take (q - at) (drop at ws)) ≡ q - at
slice_length ws at q h = length-take-le (q - at) (drop at ws) (omega (arith, length-drop at ws))

pub copied_roomy : {ws : List ℕ} {end there : ℕ} {out m : List ℕ} {p p₁ : Place} → Roomy end out p → Copied ws there out m p p₁
    → p.at ≤ there → there ≤ end
    → Roomy end m p₁
copied_roomy r c h k =
    let l = c.wrote.long in
    let a = c.at_is in
    let t = c.to_is in
    let e = r.eighth in
    let m = r.room in
    record { within = omega arith; eighth = omega arith; room = omega arith }

-- A call's words with a 0 behind them.
pub call_ended : {bs : List ℕ} {end there : ℕ} {out m out' : List ℕ} {p p₁ : Place} → Room bs end → (p.at + 8 ≤ there) × (there ≤ end)
    → Copied (words bs) there out m p p₁ → Wrote m out' p₁.to (0 ∷ [])
    → Ended (words bs) there out out' p (record { at = p₁.at; to = p₁.to + 1 })
call_ended {bs} {there = there} {p = p} {p₁ = p₁} r h c w =
    let i = within r in
    let l = slice_length (words bs) p.at there (omega arith) in
    record {
      wrote = wrote_then (let t = c.to_is in omega arith) c.wrote w;
      at_is = c.at_is;
      to_is = ap (λ n. n + 1) c.to_is;
    }

whole_slice : {ws : List ℕ} {end at q : ℕ} {xs : List ℕ} → end ≤ length ws → Stands ws end xs at q → take (q - at) (drop at ws) ≡ xs
whole_slice {at = at} {q} {xs} h s =
    let l = stands_length s in
    let m : q - at ≡ length xs = omega arith in
    rw m (stands_slice (omega arith) s)

-- Only a call has other words in the newest form: no precedence is a 0 behind it.
leaf_same : (l : Leaf) → (leaf_kind l ≡ call_kind → ⊥) → encode_leaf_in newest l ≡ encode_leaf_in first_form l
unfolding encode_leaf_in leaf_kind
leaf_same epsilon other = refl
leaf_same (action a) other = refl
leaf_same (predicate p) other = refl
leaf_same (call c) other = absurd (other refl)
leaf_same (token n) other = refl
leaf_same terminal other = refl
leaf_same end_of_input other = refl

leaf_more : (l : Leaf) → leaf_kind l ≡ call_kind → ok_leaf_in first_form l ≡ true
    → encode_leaf_in newest l ≡ encode_leaf_in first_form l ++ (0 ∷ [])
unfolding encode_leaf_in leaf_kind ok_leaf_in
leaf_more epsilon e t = absurd (omega arith)
leaf_more (action a) e t = absurd (omega arith)
leaf_more (predicate p) e t = absurd (omega arith)
leaf_more (call c) e t =
    ap (λ n. c.name ∷ c.arguments ∷ n ∷ []) (eqb-true c.precedence 0 (first_so (eqb c.precedence 0) (is_name c.name) t))
leaf_more (token n) e t = absurd (omega arith)
leaf_more terminal e t = absurd (omega arith)
leaf_more end_of_input e t = absurd (omega arith)

module _ (d : ℕ) {bs : List ℕ} {end : ℕ} (r : Room bs end) (p : Place) {k payload : ℕ} (w : HeadAt (words bs) end p.at k payload) where
  -- A leaf that is no call.
  module _ (unlike : k ≡ block_kind → ⊥) (other : k ≡ call_kind → ⊥) where
    same_words : (e : Element (Block d)) (z : ℕ) → ElementSpansIn first_form (words bs) end d p.at e z
        → encode_element (encode_block d) e ≡ encode_element_in first_form (encode_block_in first_form d) e
    unfolding encode_element_in
    same_words e z s = go (opened e s)
      where
        go : {t : Element (Block d)} → OpenedIn first_form (words bs) end d p.at z t
            → encode_element (encode_block d) t ≡ encode_element_in first_form (encode_block_in first_form d) t
        go (opened_leaf {h = h} {l = l} o v u) =
            let y = leaf_kind_lem l in
            let x = v.packed in
            let q = w.kind_is in
            let e : leaf_kind l ≡ k = omega arith in
            ap (λ n. encode_head h (leaf_kind l) ++ n) (leaf_same l (λ c. other (sym e ∙ c)))
        go (opened_block o v u) = absurd (unlike (let x = v.packed in let q = w.kind_is in omega arith))

    pub element_leaf : {there : ℕ} {out out' : List ℕ} {p' : Place} → LeafEndIn first_form (words bs) end d p.at payload there
        → Roomy end out p → Copied (words bs) there out out' p p'
        → ElementWidened (words bs) end d p out out' p'
    element_leaf {there} {out} {out'} {p'} f m c =
        let g = m.eighth in
        let a = c.at_is in
        let t = c.to_is in
        let i = w.past in
        let j = f.past in
        record {
          long = c.wrote.long;
          within = let x = f.within in omega arith;
          eighth = omega arith;
          passed = λ e z s. c.at_is ∙ f.is e z s;
          to_is = λ e z s.
              let x = same_words e z s in
              let l = stands_length s.stands in
              let y = f.is e z s in
              rw x (omega arith);
          wrote = λ e z s. rw (same_words e z s, sym (whole_slice (within r) s.stands), sym (f.is e z s)) c.wrote;
        }

  -- A call.
  module _ (calls : k ≡ call_kind) where
    more_words : (e : Element (Block d)) (z : ℕ) → ElementSpansIn first_form (words bs) end d p.at e z
        → encode_element (encode_block d) e ≡ encode_element_in first_form (encode_block_in first_form d) e ++ (0 ∷ [])
    unfolding encode_element_in
    more_words e z s = go (opened e s)
      where
        go : {t : Element (Block d)} → OpenedIn first_form (words bs) end d p.at z t
            → encode_element (encode_block d) t ≡ encode_element_in first_form (encode_block_in first_form d) t ++ (0 ∷ [])
        go (opened_leaf {h = h} {l = l} o v u) =
            let y = leaf_kind_lem l in
            let x = v.packed in
            let q = w.kind_is in
            let e : leaf_kind l ≡ k = omega arith in
            ap (λ n. encode_head h (leaf_kind l) ++ n) (leaf_more l (e ∙ calls) u.fine)
            ∙ sym (append_assoc (encode_head h (leaf_kind l)) (encode_leaf_in first_form l) (0 ∷ []))
        go (opened_block o v u) = absurd (let x = v.packed in let q = w.kind_is in omega arith)

    pub call_room : {there : ℕ} → FoundElementIn first_form (words bs) end d p.at → LeafEndIn first_form (words bs) end d p.at payload there
        → p.at + 8 ≤ there
    call_room f g =
        let x = (ends_call first_form d w (λ e. omega arith) f calls).is f.tree f.next f.spans in
        let y = g.is f.tree f.next f.spans in
        let i = w.past in
        omega arith

    pub element_call : {there : ℕ} {out out' : List ℕ} {p' : Place} → FoundElementIn first_form (words bs) end d p.at
        → LeafEndIn first_form (words bs) end d p.at payload there
        → Roomy end out p → Ended (words bs) there out out' p p'
        → ElementWidened (words bs) end d p out out' p'
    element_call {there} {out} {out'} {p'} g f m c =
        let h = m.eighth in
        let a = c.at_is in
        let t = c.to_is in
        let i = call_room g f in
        record {
          long = c.wrote.long;
          within = let x = f.within in omega arith;
          eighth = omega arith;
          passed = λ e z s. c.at_is ∙ f.is e z s;
          to_is = λ e z s.
              let l = stands_length s.stands in
              let y = f.is e z s in
              let n = length-append (encode_element_in first_form (encode_block_in first_form d) e) (0 ∷ []) in
              rw (more_words e z s) (omega arith);
          wrote = λ e z s. rw (more_words e z s, sym (whole_slice (within r) s.stands), sym (f.is e z s)) c.wrote;
        }

pub ruleset leaves = (copied_roomy, element_leaf, call_room, element_call)
