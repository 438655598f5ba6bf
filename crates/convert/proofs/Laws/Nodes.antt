-- Blocks, alternatives and rules in the newest words.
use Prim.Native.Nat.{ℕ, zero, suc, ◌+◌, ◌-◌, ◌*◌}
use mathlib.Core.Path.{◌≡◌, refl, sym, ◌∙◌}
use mathlib.Core.List.{List, [], ◌∷◌, ◌++◌, append_assoc}
use native.Mathlib.Omega.{arith}
use native.Mathlib.Numerals.{sub-one}
use lib.ListN.{length, get_or}
use Rattle.std.proofs.Common.{length-append}
use Rattle.grammar.specs.Numbers.{block_kind}
use Rattle.grammar.specs.Form.{first_form}
use Rattle.grammar.specs.Words.{words}
use Rattle.grammar.specs.Tree.{ElementHead, Element, AlternativeOf}
use Rattle.grammar.specs.Tree.{Block, RuleOf}
use Rattle.grammar.specs.Stands.{Stands}
use Rattle.grammar.specs.Encode.{encode_option, encode_head, encode_element_in, encode_alternative_in}
use Rattle.grammar.specs.Encode.{encode_block_in, encode_rule, encode_element, encode_alternative, encode_block}
use Rattle.grammar.specs.Lists.{each}
use Rattle.grammar.specs.Valid.{ok_element_in, ok_alternative_in, ok_block_in, ok_rule}
use Rattle.grammar.specs.Found.{FoundElementIn, FoundElementsIn, FoundAlternativeIn, FoundAlternativesIn, HeadAt, AlternativeAt}
use Rattle.grammar.specs.Found.{ElementSpansIn, AlternativeSpansIn, RuleSpansIn, Found}
use Rattle.grammar.specs.Laws.Opened.{options_length, block_words_lem}
use Rattle.grammar.specs.Laws.Opened.{alternative_words_lem, rule_words_lem}
use Rattle.grammar.specs.Laws.Found.{IsBlock, is_block, blocked, block_found, inner_found, body_found}
use Rattle.words.specs.Room.{Room}
use Rattle.convert.specs.declared.walk.Place.{Place}
use Rattle.convert.specs.Widened.{Copied, ElementWidened, ElementsWidened, AlternativeWidened, AlternativesWidened}
use Rattle.convert.specs.Widened.{WidenedOne}
use Rattle.convert.proofs.Laws.Widening.{front_slice, Node, node_widened}
use Rattle.convert.proofs.Laws.Leaves.{within}

head_long : (h : ElementHead) (k : ℕ) → length (encode_head h k) ≡ 6 + 2 * length h.options
unfolding encode_head
head_long h k = let l = options_length h.options in omega arith

-- A block: its head and its count, then its alternatives.
module _ {bs : List ℕ} {end : ℕ} (r : Room bs end) {p : Place} {k payload n : ℕ} (w : HeadAt (words bs) end p.at k payload)
    (six : k ≡ block_kind) (c : n ≡ get_or (words bs) payload 0) {out m : List ℕ} {p₁ : Place}
    (copy : Copied (words bs) (payload + 1) out m p p₁) where
  pub alternatives_found : (d : ℕ) → FoundElementIn first_form (words bs) end d p.at
      → FoundAlternativesIn first_form (words bs) end (d - 1) n p₁.at
  alternatives_found d f = rw copy.at_is (block_found first_form w six d f c)

  block_node : (d : ℕ) (e : Element (Block (suc d))) (z : ℕ) → ElementSpansIn first_form (words bs) end (suc d) p.at e z
      → Node (words bs) end (encode_element (encode_block (suc d))) (encode_alternative_in first_form (encode_block_in first_form d))
      (encode_alternative (encode_block d)) (ok_alternative_in first_form (ok_block_in first_form d)) p.at n (payload + 1) e z
  unfolding encode_element_in encode_block_in
  block_node d e z s = go (blocked first_form w six (suc d) e z s) s.stands
    where
      go : {t : Element (Block (suc d))} → IsBlock first_form w six (suc d) z t
          → Stands (words bs) end (encode_element_in first_form (encode_block_in first_form (suc d)) t) p.at z
          → Node (words bs) end (encode_element (encode_block (suc d))) (encode_alternative_in first_form (encode_block_in first_form d))
          (encode_alternative (encode_block d)) (ok_alternative_in first_form (ok_block_in first_form d)) p.at n (payload + 1) t z
      go (is_block {h = h} {b = b} v u) x =
          let o = block_words_lem d b u in
          let head = encode_head h block_kind in
          let y = rw (sym (append_assoc head (length b ∷ []) (each (encode_alternative_in first_form (encode_block_in first_form d)) b))) at x in
          let i = head_long h block_kind in
          let j = v.place in
          let g = v.counted in
          let q = length-append head (length b ∷ []) in
          let long : payload + 1 ≡ p.at + length (head ++ (length b ∷ [])) = omega arith in
          record {
            front = head ++ (length b ∷ []);
            inner = b;
            newest = sym (append_assoc head (length b ∷ []) (each (encode_alternative (encode_block d)) b));
            slice = front_slice (head ++ (length b ∷ [])) (each (encode_alternative_in first_form (encode_block_in first_form d)) b)
                (within r) y long;
            long = long;
            spans = o.alternatives;
            count = sym o.count ∙ sym c;
          }

  pub element_block : (d : ℕ) {out' : List ℕ} {p' : Place} → AlternativesWidened (words bs) end (d - 1) n p₁ m out' p'
      → ElementWidened (words bs) end d p out out' p'
  element_block zero {out'} {p'} a =
      record {
        long = a.long ∙ copy.wrote.long;
        within = a.within;
        eighth = a.eighth;
        passed = λ e z s. none (blocked first_form w six zero e z s);
        to_is = λ e z s. none (blocked first_form w six zero e z s);
        wrote = λ e z s. none (blocked first_form w six zero e z s);
      }
    where
      none : {e : Element (Block zero)} {z : ℕ} {P : Type 0} → IsBlock first_form w six zero z e → P
      none (is_block {b = b} v u) = absurd b
  element_block (suc d) a =
      node_widened (words bs) end (encode_element (encode_block (suc d))) (encode_alternative_in first_form (encode_block_in first_form d))
      (encode_alternative (encode_block d)) (ok_alternative_in first_form (ok_block_in first_form d))
      (encode_element_in first_form (encode_block_in first_form (suc d))) (ok_element_in first_form (ok_block_in first_form (suc d)))
      (block_node d) copy (rw (sub-one (suc d)) at a)

-- An alternative: its head and its options, then its elements.
module _ (d : ℕ) {bs : List ℕ} {end : ℕ} (r : Room bs end) {p : Place} {count first : ℕ} (h : AlternativeAt (words bs) end p.at count first)
    {out m : List ℕ} {p₁ : Place} (copy : Copied (words bs) first out m p p₁) where
  pub elements_found : FoundAlternativeIn first_form (words bs) end d p.at
      → FoundElementsIn first_form (words bs) end d count p₁.at
  elements_found f = rw copy.at_is (inner_found first_form d h f)

  alternative_node : (a : AlternativeOf (Block d)) (z : ℕ) → AlternativeSpansIn first_form (words bs) end d p.at a z
      → Node (words bs) end (encode_alternative (encode_block d)) (encode_element_in first_form (encode_block_in first_form d))
      (encode_element (encode_block d)) (ok_element_in first_form (ok_block_in first_form d)) p.at count first a z
  unfolding encode_alternative_in
  alternative_node a z s =
      let w = alternative_words_lem d s in
      let front = a.id ∷ a.carried ∷ a.flag ∷ length a.options ∷ length a.elements ∷ each encode_option a.options in
      let o = options_length a.options in
      let i = w.counted in
      let j = h.first_is in
      let long : first ≡ p.at + length front = omega arith in
      record {
        front = front;
        inner = a.elements;
        newest = refl;
        slice = front_slice front (each (encode_element_in first_form (encode_block_in first_form d)) a.elements) (within r) s.stands long;
        long = long;
        spans = rw h.first_is w.elements_span;
        count = sym w.count ∙ sym h.count_is;
      }

  pub alternative_widened : {out' : List ℕ} {p' : Place} → ElementsWidened (words bs) end d count p₁ m out' p'
      → AlternativeWidened (words bs) end d p out out' p'
  alternative_widened e =
      node_widened (words bs) end (encode_alternative (encode_block d)) (encode_element_in first_form (encode_block_in first_form d))
      (encode_element (encode_block d)) (ok_element_in first_form (ok_block_in first_form d))
      (encode_alternative_in first_form (encode_block_in first_form d)) (ok_alternative_in first_form (ok_block_in first_form d))
      alternative_node copy e

-- A rule: its head and the count of its alternatives, then these.
module _ (d : ℕ) {bs : List ℕ} {end : ℕ} (r : Room bs end) {p : Place} {n : ℕ} (c : n ≡ get_or (words bs) (p.at + 3) 0)
    {out m : List ℕ} {p₁ : Place} (copy : Copied (words bs) (p.at + 4) out m p p₁) where
  pub rule_alternatives : Found (words bs) end (encode_rule (encode_block_in first_form (suc d))) (ok_rule (ok_block_in first_form (suc d))) p.at
      → FoundAlternativesIn first_form (words bs) end d n p₁.at
  rule_alternatives f = rw copy.at_is (body_found first_form d f c)

  rule_node : (a : RuleOf (Block (suc d))) (z : ℕ) → RuleSpansIn first_form (words bs) end (suc d) p.at a z
      → Node (words bs) end (encode_rule (encode_block (suc d))) (encode_alternative_in first_form (encode_block_in first_form d))
      (encode_alternative (encode_block d)) (ok_alternative_in first_form (ok_block_in first_form d)) p.at n (p.at + 4) a z
  unfolding encode_rule encode_block_in
  rule_node a z s =
      let w = rule_words_lem d s in
      let front = a.id ∷ a.name ∷ a.flags ∷ length a.body ∷ [] in
      record {
        front = front;
        inner = a.body;
        newest = refl;
        slice = front_slice front (each (encode_alternative_in first_form (encode_block_in first_form d)) a.body) (within r) s.stands refl;
        long = refl;
        spans = w.alternatives;
        count = sym w.count ∙ sym c;
      }

  pub rule_widened : {out' : List ℕ} {p' : Place} → AlternativesWidened (words bs) end d n p₁ m out' p'
      → WidenedOne (words bs) end (encode_rule (encode_block_in first_form (suc d))) (encode_rule (encode_block (suc d)))
      (ok_rule (ok_block_in first_form (suc d))) p out out' p'
  rule_widened a =
      node_widened (words bs) end (encode_rule (encode_block (suc d))) (encode_alternative_in first_form (encode_block_in first_form d))
      (encode_alternative (encode_block d)) (ok_alternative_in first_form (ok_block_in first_form d))
      (encode_rule (encode_block_in first_form (suc d))) (ok_rule (ok_block_in first_form (suc d)))
      rule_node copy a

pub ruleset nodes = (
  alternatives_found,
  element_block,
  elements_found,
  alternative_widened,
  rule_alternatives,
  rule_widened,
)
