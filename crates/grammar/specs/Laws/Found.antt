-- Where the parts of a tree that stands in a sheet begin and end, and that they stand there.
use Rattle.std.specs.Prelude.{ℕ, zero, suc, ◌+◌, ◌-◌, ◌*◌, ◌%◌, ◌<◌, ◌≤◌, ◌≡◌, refl, List, get_or}
use Rattle.std.proofs.Common.{sym, ◌∙◌, arith, sub-one}
use Rattle.grammar.specs.Numbers.{action_kind, predicate_kind, call_kind, token_kind, block_kind, kind_end}
use Rattle.grammar.specs.Stands.{Spans, Stands}
use Rattle.grammar.specs.Tree.{ElementHead, Leaf, epsilon, action, predicate, call, token, terminal, end_of_input, Element, block}
use Rattle.grammar.specs.Tree.{Block}
use Rattle.grammar.specs.Encode.{encode_leaf_in, leaf_kind, encode_block_in, encode_rule}
use Rattle.grammar.specs.Valid.{ok_block_in, ok_rule}
use Rattle.grammar.specs.Form.{Form, call_words}
use Rattle.grammar.specs.Found.{Found, FoundElementIn, FoundElementsIn, FoundAlternativeIn, FoundAlternativesIn, ElementSpansIn, HeadAt}
use Rattle.grammar.specs.Found.{AlternativeAt, LeafEndIn}
use Rattle.grammar.specs.Laws.Stands.{stands_length}
use Rattle.grammar.specs.Laws.Complete.{leaf_kind_lem}
use Rattle.grammar.specs.Laws.Opened.{references_length, HeadWords, OpenedIn, opened_leaf, opened_block, opened, call_stands}
use Rattle.grammar.specs.Laws.Opened.{block_words_lem}
use Rattle.grammar.specs.Laws.Opened.{alternative_words_lem, rule_words_lem}

-- How many words a leaf's payload has; n stands for its second word.
leaf_size : Form → ℕ → ℕ → ℕ
leaf_size form zero n = 0
leaf_size form (suc zero) n = 2 + 2 * n
leaf_size form (suc (suc zero)) n = 2 + 2 * n
leaf_size form (suc (suc (suc zero))) n = call_words form
leaf_size form (suc (suc (suc (suc zero)))) n = 1
leaf_size form (suc (suc (suc (suc (suc k))))) n = 0

leaf_size_lem : (form : Form) {ws : List ℕ} {end p q : ℕ} (l : Leaf) → Stands ws end (encode_leaf_in form l) p q
    → q ≡ p + leaf_size form (leaf_kind l) (get_or ws (p + 1) 0)
unfolding leaf_size leaf_kind encode_leaf_in
leaf_size_lem form epsilon s = let l = stands_length s in omega arith
leaf_size_lem form (action a) s = let l = stands_length s in let m = references_length a.references in let w = s.run.1.0 in omega arith
leaf_size_lem form (predicate p) s = let l = stands_length s in let m = references_length p.references in let w = s.run.1.0 in omega arith
leaf_size_lem form (call c) s = (call_stands c s).next
leaf_size_lem form (token n) s = let l = stands_length s in omega arith
leaf_size_lem form terminal s = let l = stands_length s in omega arith
leaf_size_lem form end_of_input s = let l = stands_length s in omega arith

no_payload : (form : Form) (k n : ℕ) → (k ≡ call_kind → ⊥) → (k ≡ token_kind → ⊥) → (k ≡ action_kind → ⊥) → (k ≡ predicate_kind → ⊥)
    → leaf_size form k n ≡ 0
unfolding leaf_size
no_payload form zero n a b c e = refl
no_payload form (suc zero) n a b c e = absurd (c refl)
no_payload form (suc (suc zero)) n a b c e = absurd (e refl)
no_payload form (suc (suc (suc zero))) n a b c e = absurd (a refl)
no_payload form (suc (suc (suc (suc zero)))) n a b c e = absurd (b refl)
no_payload form (suc (suc (suc (suc (suc k))))) n a b c e = refl

module _ (form : Form) (d : ℕ) {ws : List ℕ} {end at : ℕ} where
  pub element_room : FoundElementIn form ws end d at → at + 6 ≤ end
  element_room f = go (opened f.tree f.spans)
    where
      go : {e : Element (Block d)} → OpenedIn form ws end d at f.next e → at + 6 ≤ end
      go (opened_leaf p w s) = omega arith
      go (opened_block p w s) = omega arith

  pub head_at_lem : {k n p : ℕ} → FoundElementIn form ws end d at → k ≡ get_or ws (at + 2) 0 → n ≡ get_or ws (at + 5) 0 → p ≡ at + 6 + 2 * n
      → HeadAt ws end at (k % kind_end) p
  head_at_lem {k} {n} {p} f e g i = go (opened f.tree f.spans)
    where
      go : {t : Element (Block d)} → OpenedIn form ws end d at f.next t → HeadAt ws end at (k % kind_end) p
      go (opened_leaf q w s) = record { kind_is = rw e; payload_is = rw (← g) i; past = omega arith; within = omega arith }
      go (opened_block q w s) = record { kind_is = rw e; payload_is = rw (← g) i; past = omega arith; within = omega arith }

  module _ {k p : ℕ} (h : HeadAt ws end at k p) (no : k ≡ block_kind → ⊥) where
    leaf_is : {r : ℕ} → r ≡ p + leaf_size form k (get_or ws (p + 1) 0) → (e : Element (Block d)) (q : ℕ)
        → ElementSpansIn form ws end d at e q → r ≡ q
    leaf_is {r} z e q s = go (opened e s)
      where
        go : {t : Element (Block d)} → OpenedIn form ws end d at q t → r ≡ q
        go (opened_leaf {l = l} o w u) =
            let x : o ≡ p = omega arith in
            let y = leaf_kind_lem l in
            let v : leaf_kind l ≡ k = omega arith in
            z ∙ sym (rw (x, v) at (leaf_size_lem form l u.stands))
        go (opened_block o w u) = absurd (no (omega arith))

    leaf_ends : {r : ℕ} → r ≡ p + leaf_size form k (get_or ws (p + 1) 0) → FoundElementIn form ws end d at → LeafEndIn form ws end d at p r
    leaf_ends {r} z f =
        let i = leaf_is z f.tree f.next f.spans in
        let l = stands_length f.spans.stands in
        record { past = omega arith; within = omega arith; is = leaf_is z }

    pub ends_call : FoundElementIn form ws end d at → k ≡ call_kind → LeafEndIn form ws end d at p (p + call_words form)
    unfolding leaf_size
    ends_call f e = leaf_ends (rw e) f

    pub ends_token : FoundElementIn form ws end d at → k ≡ token_kind → LeafEndIn form ws end d at p (p + 1)
    unfolding leaf_size
    ends_token f e = leaf_ends (rw e) f

    pub ends_action : {n r : ℕ} → FoundElementIn form ws end d at → k ≡ action_kind → n ≡ get_or ws (p + 1) 0 → r ≡ p + 2 + 2 * n
        → LeafEndIn form ws end d at p r
    unfolding leaf_size
    ends_action f e g i = leaf_ends (rw e (omega arith)) f

    pub ends_predicate : {n r : ℕ} → FoundElementIn form ws end d at → k ≡ predicate_kind → n ≡ get_or ws (p + 1) 0 → r ≡ p + 2 + 2 * n
        → LeafEndIn form ws end d at p r
    unfolding leaf_size
    ends_predicate f e g i = leaf_ends (rw e (omega arith)) f

    pub ends_nothing : FoundElementIn form ws end d at → (k ≡ call_kind → ⊥) → (k ≡ token_kind → ⊥) → (k ≡ action_kind → ⊥)
        → (k ≡ predicate_kind → ⊥) → LeafEndIn form ws end d at p p
    ends_nothing f a b c e = leaf_ends (let z = no_payload form k (get_or ws (p + 1) 0) a b c e in omega arith) f

  pub alternative_room : FoundAlternativeIn form ws end d at → at + 5 ≤ end
  alternative_room f =
      let w = alternative_words_lem d f.spans in
      let l = stands_length w.elements_span.stands in
      omega arith

  pub alternative_at_lem : {c n p : ℕ} → FoundAlternativeIn form ws end d at → c ≡ get_or ws (at + 4) 0 → n ≡ get_or ws (at + 3) 0
      → p ≡ at + 5 + 2 * n
      → AlternativeAt ws end at c p
  alternative_at_lem {c} {n} {p} f e g i =
      let w = alternative_words_lem d f.spans in
      let l = stands_length w.elements_span.stands in
      record { count_is = e; first_is = rw (← g) i; past = omega arith; within = omega arith }

  -- An alternative's elements stand where its head ends.
  pub inner_found : {count first : ℕ} → AlternativeAt ws end at count first
      → FoundAlternativeIn form ws end d at → FoundElementsIn form ws end d count first
  inner_found head g =
      let w = alternative_words_lem d g.spans in
      record {
        trees = g.tree.elements;
        next = g.next;
        spans = rw head.first_is w.elements_span;
        count = sym w.count ∙ sym head.count_is;
      }

  -- A rule's body.
  module _ (f : Found ws end (encode_rule (encode_block_in form (suc d))) (ok_rule (ok_block_in form (suc d))) at) where
    pub rule_room : at + 4 ≤ end
    rule_room = let l = stands_length (rule_words_lem d f.spans).alternatives.stands in omega arith

    pub body_found : {m : ℕ} → m ≡ get_or ws (at + 3) 0 → FoundAlternativesIn form ws end d m (at + 4)
    body_found e =
        let w = rule_words_lem d f.spans in
        record { trees = f.tree.body; next = f.next; spans = w.alternatives; count = sym w.count ∙ sym e }

module _ (form : Form) {ws : List ℕ} {end at k p : ℕ} (head : HeadAt ws end at k p) (six : k ≡ block_kind) where
  -- The block that an element of kind 6 is.
  pub data IsBlock (d q : ℕ) : Element (Block d) → Type 0 where
    is_block : {h : ElementHead} {b : Block d} → HeadWords ws end at h block_kind p
        → Spans ws end (encode_block_in form d) (ok_block_in form d) p b q
        → IsBlock d q (block h b)

  pub blocked : (d : ℕ) (e : Element (Block d)) (q : ℕ) → ElementSpansIn form ws end d at e q → IsBlock d q e
  blocked d e q s = go (opened e s)
    where
      go : {t : Element (Block d)} → OpenedIn form ws end d at q t → IsBlock d q t
      go (opened_leaf {l = l} o w u) = absurd (let y = leaf_kind_lem l in omega arith)
      go (opened_block o w u) = let x : o ≡ p = omega arith in is_block (rw x at w) (rw x at u)

  pub block_depth : (d : ℕ) → FoundElementIn form ws end d at → 1 ≤ d
  block_depth zero f = go (blocked zero f.tree f.next f.spans)
    where
      go : {e : Element (Block zero)} → IsBlock zero f.next e → 1 ≤ 0
      go (is_block {b = b} w u) = absurd b
  block_depth (suc d) f = omega arith

  -- The measure of the block's alternatives is below that of the element.
  pub block_falls : (d : ℕ) {t : ℕ} → FoundElementIn form ws end d at → d * 4 ≡ t → (d - 1) * 4 + 3 < t
  block_falls d f e = let z = block_depth d f in omega arith

  pub block_found : (d : ℕ) {n : ℕ} → FoundElementIn form ws end d at → n ≡ get_or ws p 0
      → FoundAlternativesIn form ws end (d - 1) n (p + 1)
  block_found zero f c = absurd (let z = block_depth zero f in omega arith)
  block_found (suc d) {n} f c = rw (sub-one (suc d)) (go (blocked (suc d) f.tree f.next f.spans))
    where
      go : {e : Element (Block (suc d))} → IsBlock (suc d) f.next e → FoundAlternativesIn form ws end d n (p + 1)
      go (is_block {b = b} w u) =
          let o = block_words_lem d b u in record { trees = b; next = f.next; spans = o.alternatives; count = sym o.count ∙ sym c }

  pub block_room : (d : ℕ) → FoundElementIn form ws end d at → p + 1 ≤ end
  block_room d f = let g = block_found d f refl in let l = stands_length g.spans.stands in omega arith

pub ruleset heads = (head_at_lem, alternative_at_lem, ends_call, ends_token, ends_action, ends_predicate, ends_nothing)

pub ruleset rooms = (element_room, alternative_room)

pub ruleset inner = (block_depth, block_falls, block_found, block_room, inner_found)
