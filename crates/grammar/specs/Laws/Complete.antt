-- Each parser is complete: a tree that passes the test is found where its encoding stands.
use Prim.Native.Nat.{ℕ, zero, suc, ◌+◌, ◌-◌, ◌/◌, ◌%◌, ◌≤◌, ◌<◌}
use Rattle.std.specs.Prelude.{◌≡◌, Bool, ◌&&◌, length, eqb}
use Rattle.std.proofs.Math.Path.{refl, ap, ap₂}
use Rattle.std.proofs.Common.{sym, ◌∙◌, le-leb, eq-eqb, eqb-true, ne_eqb}
use mathlib.Core.List.{List, [], ◌∷◌}
use Rattle.std.proofs.Math.Bool.{true, false}
use native.Mathlib.Omega.{arith}
use Rattle.std.proofs.Math.ListN.{get_or}
use Rattle.std.proofs.Math.Dec.{leb}
use Rattle.std.proofs.lemmas.Bool.{and_from}
use Rattle.std.specs.Cmp.{first_so, second_so}
use Rattle.grammar.specs.Numbers.{most_rule_flags, most_alternative_flag, one_or_more_nongreedy, block_kind, kind_end}
use Rattle.grammar.specs.Stands.{Spans, Stands}
use Rattle.grammar.specs.Tree.{Reference, Call, ElementHead, Leaf, epsilon, action, predicate, call, token, terminal, end_of_input, leaf}
use Rattle.grammar.specs.Tree.{block, Rule, body_depth}
use Rattle.grammar.specs.Encode.{encode_option, encode_reference, encode_head, leaf_kind, encode_leaf_in, encode_element_in}
use Rattle.grammar.specs.Encode.{encode_alternative_in}
use Rattle.grammar.specs.Encode.{encode_rule, encode_block_in, encode_rules_in}
use Rattle.grammar.specs.Lists.{each, all}
use Rattle.grammar.specs.Form.{Form}
use Rattle.grammar.specs.Parse.{Got, got, given}
use Rattle.grammar.specs.Read.{is_name, is_label, label_of, action_of, predicate_of, room, option_at, reference_at, body_at, call_at_in}
use Rattle.grammar.specs.Read.{token_at}
use Rattle.grammar.specs.Read.{leaf_at_in, is_head, head_at, payload_at_in, element_at_in, alternative_at_in, rule_at_in, block_at_in}
use Rattle.grammar.specs.Read.{rules_at_in}
use Rattle.grammar.specs.Valid.{ok_option, ok_reference, ok_label, ok_head, ok_leaf_in, ok_element_in, ok_alternative_in, ok_rule}
use Rattle.grammar.specs.Valid.{ok_block_in}
use Rattle.grammar.specs.Laws.Stands.{run_stands, stands_head, stands_length, stands_split}
use Rattle.grammar.specs.Laws.Label.{is_label_lem, label_of_lem}
use Rattle.grammar.specs.Laws.Parse.{then_got, given_got, Complete, many_complete}

-- A leaf's kind is packed with a quantifier, and is no block's.
pub record LeafKind (l : Leaf) : Type 0 where
  pub under : leaf_kind l < kind_end
  pub no_block : leaf_kind l ≡ block_kind → ⊥

pub leaf_kind_lem : (l : Leaf) → LeafKind l
unfolding leaf_kind
leaf_kind_lem epsilon = record { under = omega arith; no_block = λ e. omega arith }
leaf_kind_lem (action a) = record { under = omega arith; no_block = λ e. omega arith }
leaf_kind_lem (predicate p) = record { under = omega arith; no_block = λ e. omega arith }
leaf_kind_lem (call c) = record { under = omega arith; no_block = λ e. omega arith }
leaf_kind_lem (token n) = record { under = omega arith; no_block = λ e. omega arith }
leaf_kind_lem terminal = record { under = omega arith; no_block = λ e. omega arith }
leaf_kind_lem end_of_input = record { under = omega arith; no_block = λ e. omega arith }

module _ (form : Form) (ws : List ℕ) (end : ℕ) where
  given_room : {A : Type 0} (n at : ℕ) (f : Unit {0} → Got A) {r : Got A} → at + n ≤ end → f tt ≡ r → given (room ws end n at) f ≡ r
  given_room n at f h e = given_got (room ws end n at) f (le-leb n (end - at) (omega arith)) e

  given_room_and : {A : Type 0} (n at : ℕ) (b : Bool) (f : Unit {0} → Got A) {r : Got A}
      → at + n ≤ end → b ≡ true → f tt ≡ r → given (room ws end n at && b) f ≡ r
  given_room_and n at b f h t e =
      given_got (room ws end n at && b) f (and_from (room ws end n at) b (le-leb n (end - at) (omega arith)) t) e

  pub option_complete : Complete ws end (option_at ws end) encode_option ok_option
  unfolding option_at
  option_complete at o q s =
      let w = s.stands.run in
      let e = stands_head s.stands in
      given_room_and 2 at _ _ (omega arith) (rw e s.fine) λ i. got (record { name = e i; value = w.1.0 i }) (sym w.1.1.0 i)

  pub reference_complete : Complete ws end (reference_at ws end) encode_reference ok_reference
  unfolding reference_at
  reference_complete at r q s =
      let w = s.stands.run in
      let e = stands_head s.stands in
      given_room_and 2 at _ _ (omega arith) (rw (e, w.1.0) s.fine) λ i. got (record { kind = e i; name = w.1.0 i })
      (sym w.1.1.0 i)

  body_complete : (make : ℕ → List Reference → Leaf) (i : ℕ) (rs : List Reference) (at q : ℕ)
      → Stands ws end (i ∷ length rs ∷ each encode_reference rs) at q → all ok_reference rs ≡ true
      → body_at ws end make at ≡ got (make i rs) q
  unfolding body_at
  body_complete make i rs at q s t =
      let l = stands_length s in
      given_room 2 at _ (omega arith) (
      then_got _ (many_complete _ _ _ reference_complete rs _ (at + 2) q s.run.1.0
      (record { stands = run_stands at 2 s.run.1.1; fine = t })) (
      ap (λ j. got (make j rs) q) (stands_head s)))

  call_complete : (c : Call) (at q : ℕ) → Spans ws end (encode_leaf_in form) (ok_leaf_in form) at (call c) q
      → call_at_in form ws end at ≡ got (call c) q
  unfolding call_at_in encode_leaf_in ok_leaf_in
  call_complete c at q s = go form.precedences refl
    where
      go : (b : Bool) → form.precedences ≡ b → call_at_in form ws end at ≡ got (call c) q
      go true e =
          let w = s.stands.run in
          let h = stands_head s.stands in
          let v = rw e at w.1.1 in
          let o = rw e at s.fine in
          let l = rw e at (stands_length s.stands) in
          rw e (given_room_and 3 at _ _ (omega arith) (rw h o) λ i.
          got (call (record { name = h i; arguments = w.1.0 i; precedence = v.0 i })) (sym v.1.0 i))
      go false e =
          let w = s.stands.run in
          let h = stands_head s.stands in
          let v = rw e at w.1.1 in
          let o = rw e at s.fine in
          let z = eqb-true c.precedence 0 (first_so (eqb c.precedence 0) (is_name c.name) o) in
          rw e (given_room_and 2 at _ _ (omega arith) (rw h (second_so (eqb c.precedence 0) (is_name c.name) o)) λ i.
          got (call (record { name = h i; arguments = w.1.0 i; precedence = sym z i })) (sym v.0 i))

  pub leaf_complete : (l : Leaf) (at q : ℕ) → Spans ws end (encode_leaf_in form) (ok_leaf_in form) at l q
      → leaf_at_in form ws end (leaf_kind l) at ≡ got l q
  unfolding leaf_at_in token_at encode_leaf_in ok_leaf_in leaf_kind
  leaf_complete epsilon at q s = let h = stands_length s.stands in ap (got epsilon) (omega arith)
  leaf_complete (action a) at q s = body_complete action_of a.id a.references at q s.stands s.fine
  leaf_complete (predicate p) at q s = body_complete predicate_of p.id p.references at q s.stands s.fine
  leaf_complete (call c) at q s = call_complete c at q s
  leaf_complete (token n) at q s =
      let w = s.stands.run in
      let e = stands_head s.stands in
      given_room_and 1 at _ _ (omega arith) (rw e s.fine) λ i. got (token (e i)) (sym w.1.0 i)
  leaf_complete terminal at q s = let h = stands_length s.stands in ap (got terminal) (omega arith)
  leaf_complete end_of_input at q s = let h = stands_length s.stands in ap (got end_of_input) (omega arith)

  pub head_complete : (h : ElementHead) (kind at p : ℕ) → kind < kind_end → Spans ws end (λ e. encode_head e kind) ok_head at h p
      → (head_at ws end at ≡ got h p) × (get_or ws (at + 2) 0 % kind_end ≡ kind)
  unfolding head_at is_head encode_head ok_head
  head_complete h kind at p k s =
      let w = s.stands.run.1 in
      let l = stands_length s.stands in
      let q : get_or ws (at + 2) 0 / kind_end ≡ h.quantifier = omega arith in
      let tq : leb (get_or ws (at + 2) 0 / kind_end) one_or_more_nongreedy ≡ true =
      rw q (first_so (leb h.quantifier one_or_more_nongreedy) _ s.fine) in
      let f = second_so (leb h.quantifier one_or_more_nongreedy) (ok_label h.label && all ok_option h.options) s.fine in
      let fl = first_so (ok_label h.label) (all ok_option h.options) f in
      let tl = ap₂ is_label w.1.1.0 w.1.1.1.0 ∙ is_label_lem h.label fl in
      let nl = ap₂ label_of w.1.1.0 w.1.1.1.0 ∙ label_of_lem h.label fl in (
        given_room_and 6 at _ _ (omega arith) (and_from _ _ tq tl) (
            then_got _ (many_complete _ _ _ option_complete h.options _ (at + 6) p w.1.1.1.1.0
            (record { stands = run_stands at 6 w.1.1.1.1.1; fine = second_so (ok_label h.label) _ f })) (
            λ i. got (record {
              id = stands_head s.stands i;
              carried = w.0 i;
              quantifier = q i;
              label = nl i;
              options = h.options;
            }) p)),
        omega arith,
      )

  module _ {B : Type 0} (block_at : ℕ → Got B) (enc : B → List ℕ) (ok : B → Bool) (complete : Complete ws end block_at enc ok) where
    leaf_payload : (h : ElementHead) (l : Leaf) (at q : ℕ) → Spans ws end (encode_leaf_in form) (ok_leaf_in form) at l q
        → payload_at_in form ws end block_at h (leaf_kind l) at ≡ got (leaf h l) q
    unfolding payload_at_in
    leaf_payload h l at q s =
        let k = leaf_kind_lem l in
        rw (ne_eqb (leaf_kind l) block_kind (λ z. omega arith), payload_at_in) (then_got _ (leaf_complete l at q s) refl)

    block_payload : (h : ElementHead) (b : B) (at q : ℕ) → Spans ws end enc ok at b q
        → payload_at_in form ws end block_at h block_kind at ≡ got (block h b) q
    unfolding payload_at_in
    block_payload h b at q s = then_got _ (complete at b q s) refl

    pub element_complete : Complete ws end (element_at_in form ws end block_at) (encode_element_in form enc) (ok_element_in form ok)
    unfolding element_at_in encode_element_in ok_element_in
    element_complete at (leaf h l) q s =
        let (p, x, y) = stands_split (encode_head h (leaf_kind l)) (encode_leaf_in form l) s.stands in
        let k = leaf_kind_lem l in
        let (e, m) = head_complete h (leaf_kind l) at p (omega arith) (record {
          stands = x;
          fine = first_so (ok_head h) (ok_leaf_in form l) s.fine;
        }) in
        then_got _ e (rw m (leaf_payload h l p q (record { stands = y; fine = second_so (ok_head h) (ok_leaf_in form l) s.fine })))
    element_complete at (block h b) q s =
        let (p, x, y) = stands_split (encode_head h block_kind) (enc b) s.stands in
        let (e, m) = head_complete h block_kind at p (omega arith) (record { stands = x; fine = first_so (ok_head h) (ok b) s.fine }) in
        then_got _ e (rw m (block_payload h b p q (record { stands = y; fine = second_so (ok_head h) (ok b) s.fine })))

    pub alternative_complete : Complete ws end (alternative_at_in form ws end block_at) (encode_alternative_in form enc)
        (ok_alternative_in form ok)
    unfolding alternative_at_in encode_alternative_in ok_alternative_in
    alternative_complete at a q s =
        let w = s.stands.run.1 in
        let l = stands_length s.stands in
        let f = second_so (leb a.flag most_alternative_flag) (all ok_option a.options && all (ok_element_in form ok) a.elements) s.fine in
        let (p, x, y) =
        stands_split (each encode_option a.options) (each (encode_element_in form enc) a.elements) (run_stands at 5 w.1.1.1.1) in
        given_room_and 5 at _ _ (omega arith) (rw w.1.0 (first_so (leb a.flag most_alternative_flag) _ s.fine)) (
        then_got _ (many_complete _ _ _ option_complete a.options _ (at + 5) p w.1.1.0
        (record { stands = x; fine = first_so (all ok_option a.options) _ f })) (
        then_got _ (many_complete _ _ _ element_complete a.elements _ p q w.1.1.1.0
        (record { stands = y; fine = second_so (all ok_option a.options) _ f })) (
        λ i. got (record {
          id = stands_head s.stands i;
          carried = w.0 i;
          flag = w.1.0 i;
          options = a.options;
          elements = a.elements;
        }) q)))

    pub rule_complete : Complete ws end (rule_at_in form ws end block_at) (encode_rule enc) (ok_rule ok)
    unfolding rule_at_in encode_rule ok_rule
    rule_complete at r q s =
        let w = s.stands.run.1 in
        let l = stands_length s.stands in
        let f = second_so (is_name r.name) (leb r.flags most_rule_flags && ok r.body) s.fine in
        given_room_and 3 at _ _ (omega arith)
        (rw (w.0, w.1.0) (and_from _ _ (first_so (is_name r.name) _ s.fine) (first_so (leb r.flags most_rule_flags) _ f))) (
        then_got _ (complete (at + 3) r.body q (record {
          stands = run_stands at 3 w.1.1;
          fine = second_so (leb r.flags most_rule_flags) _ f;
        })) (
        λ i. got (record { id = stands_head s.stands i; name = w.0 i; flags = w.1.0 i; body = r.body }) q))

  pub block_complete : (d : ℕ) → Complete ws end (block_at_in form ws end d) (encode_block_in form d) (ok_block_in form d)
  unfolding block_at_in encode_block_in ok_block_in
  block_complete zero at b q s = absurd b
  block_complete (suc d) at as' q s =
      let l = stands_length s.stands in
      given_room 1 at _ (omega arith)
      (many_complete _ _ _ (alternative_complete _ _ _ (block_complete d)) as' _ (at + 1) q (stands_head s.stands)
      (record { stands = run_stands at 1 s.stands.run.1; fine = s.fine }))

  -- Rules up to the end, if they are not too many.
  pub rules_complete : (n at : ℕ) (rs : List Rule) → length rs ≤ n
      → Spans ws end (encode_rules_in form) (all (ok_rule (ok_block_in form body_depth))) at rs end
      → rules_at_in form ws end n at ≡ got rs end
  unfolding rules_at_in all encode_rule
  rules_complete zero at [] h s =
      let l = stands_length s.stands in
      given_got (eqb at end) _ (eq-eqb at end (omega arith)) (ap (got []) (omega arith))
  rules_complete zero at (r ∷ rs) h s = absurd (omega arith)
  rules_complete (suc n) at [] h s =
      let l = stands_length s.stands in
      rw (eq-eqb at end (omega arith), rules_at_in) (ap (got []) (omega arith))
  rules_complete (suc n) at (r ∷ rs) h s =
      let enc = encode_rule (encode_block_in form body_depth) in
      let ok = ok_rule (ok_block_in form body_depth) in
      let (p, x, y) = stands_split (enc r) (each enc rs) s.stands in
      let lx = stands_length x in
      let ly = stands_length y in
      rw (ne_eqb at end (λ z. omega arith), rules_at_in) (
      then_got _ (rule_complete _ _ _ (block_complete body_depth) at r p
      (record { stands = x; fine = first_so (ok r) (all ok rs) s.fine })) (
      then_got _ (rules_complete n p rs (omega arith) (record { stands = y; fine = second_so (ok r) (all ok rs) s.fine })) refl))
