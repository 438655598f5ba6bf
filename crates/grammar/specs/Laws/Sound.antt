-- Each parser is sound: what it finds is encoded where it found it, and passes the test of a tree.
use Prim.Native.Nat.{ℕ, zero, suc, ◌+◌, ◌-◌, ◌/◌, ◌%◌, ◌≤◌}
use Rattle.std.specs.Prelude.{◌≡◌, List, [], ◌∷◌, Bool, true, false, ◌&&◌, leb, eqb}
use Rattle.std.proofs.Math.Path.{refl, sym}
use Rattle.std.proofs.Common.{◌∙◌}
use native.Mathlib.Omega.{arith}
use Rattle.std.proofs.Math.ListN.{length, get_or}
use Rattle.std.proofs.lemmas.Bool.{and_from}
use Rattle.std.specs.Cmp.{first_so, second_so}
use borrow.Author.Tests.{leb-true, eqb-true}
use Rattle.grammar.specs.Numbers.{one_or_more_nongreedy, action_kind, predicate_kind, call_kind, block_kind, kind_end}
use Rattle.grammar.specs.Stands.{Spans, Stands}
use Rattle.grammar.specs.Tree.{Reference, ElementHead, Leaf, Rule, body_depth}
use Rattle.grammar.specs.Encode.{encode_option, encode_reference, encode_head, leaf_kind, encode_leaf_in, encode_element_in}
use Rattle.grammar.specs.Encode.{encode_alternative_in}
use Rattle.grammar.specs.Encode.{encode_rule, encode_block_in, encode_rules_in}
use Rattle.grammar.specs.Lists.{each, all}
use Rattle.grammar.specs.Form.{Form}
use Rattle.grammar.specs.Parse.{Got, given}
use Rattle.grammar.specs.Read.{is_name, is_label, action_of, predicate_of, room, option_at, reference_at, body_at, call_at_in, token_at}
use Rattle.grammar.specs.Read.{leaf_at_in}
use Rattle.grammar.specs.Read.{is_head, head_at, payload_at_in, element_at_in, alternative_at_in, rule_at_in, block_at_in, rules_at_in}
use Rattle.grammar.specs.Valid.{ok_option, ok_reference, ok_head, ok_leaf_in, ok_element_in, ok_alternative_in, ok_rule, ok_block_in}
use Rattle.grammar.specs.Laws.Stands.{first, stands_none, stands_two, stands_run, stands_length, stands_append}
use Rattle.grammar.specs.Laws.Label.{label_fine, label_id_lem, label_name_lem}
use Rattle.grammar.specs.Laws.Parse.{either, Yields, nothing, yields, yields_map, yields_then}
use Rattle.grammar.specs.Laws.Parse.{yields_given, Sound, many_sound}

module _ (form : Form) (ws : List ℕ) (end : ℕ) where
  yields_room : {A : Type 0} {P : A → ℕ → Type 0} (n at : ℕ) (f : Unit {0} → Got A)
      → at ≤ end → (at + n ≤ end → Yields P (f tt)) → Yields P (given (room ws end n at) f)
  yields_room n at f h k = yields_given (room ws end n at) f λ t. k (omega (arith, leb-true n (end - at) t))

  yields_room_and : {A : Type 0} {P : A → ℕ → Type 0} (n at : ℕ) (b : Bool) (f : Unit {0} → Got A)
      → at ≤ end → (at + n ≤ end → b ≡ true → Yields P (f tt)) → Yields P (given (room ws end n at && b) f)
  yields_room_and n at b f h k = yields_given (room ws end n at && b) f λ t.
      k (omega (arith, leb-true n (end - at) (first_so (room ws end n at) b t))) (second_so (room ws end n at) b t)

  pub option_sound : Sound ws end (option_at ws end) encode_option ok_option
  unfolding option_at
  option_sound at h = yields_room_and 2 at _ _ h λ r t. yields (record { stands = stands_two ws end at r; fine = t })

  pub reference_sound : Sound ws end (reference_at ws end) encode_reference ok_reference
  unfolding reference_at
  reference_sound at h = yields_room_and 2 at _ _ h λ r t. yields (record { stands = stands_two ws end at r; fine = t })

  -- A leaf of a kind.
  pub record LeafAt (kind at : ℕ) (l : Leaf) (q : ℕ) : Type 0 where
    pub spans : Spans ws end (encode_leaf_in form) (ok_leaf_in form) at l q
    pub sort : leaf_kind l ≡ kind

  body_sound : (make : ℕ → List Reference → Leaf) (kind : ℕ)
      → ((i : ℕ) (rs : List Reference) → encode_leaf_in form (make i rs) ≡ i ∷ length rs ∷ each encode_reference rs)
      → ((i : ℕ) (rs : List Reference) → ok_leaf_in form (make i rs) ≡ all ok_reference rs)
      → ((i : ℕ) (rs : List Reference) → leaf_kind (make i rs) ≡ kind)
      → (at : ℕ) → at ≤ end → Yields (LeafAt kind at) (body_at ws end make at)
  unfolding body_at
  body_sound make kind e o s at h =
      yields_room 2 at _ h λ r.
      yields_then (many_sound _ _ _ reference_sound (get_or ws (at + 1) 0) (at + 2) r) λ rs q x.
      let t : Stands ws end (get_or ws at 0 ∷ length rs ∷ each encode_reference rs) at q =
      record { run = (first ws at, (sym x.1, stands_run at 2 x.0.stands)) } in
      yields (record { spans = record { stands = rw e t; fine = rw o x.0.fine }; sort = s (get_or ws at 0) rs })

  call_sound : (at : ℕ) → at ≤ end → Yields (LeafAt call_kind at) (call_at_in form ws end at)
  unfolding call_at_in encode_leaf_in ok_leaf_in leaf_kind
  call_sound at h = go form.precedences refl
    where
      go : (b : Bool) → form.precedences ≡ b → Yields (LeafAt call_kind at) (call_at_in form ws end at)
      go true e =
          rw e (yields_room_and 3 at _ _ h λ r t.
          yields (record { spans = record { stands = record { run = (first ws at, (refl, (refl, (refl, r)))) }; fine = t }; sort = refl }))
      go false e =
          rw e (yields_room_and 2 at _ _ h λ r t.
          yields (record { spans = record { stands = record { run = (first ws at, (refl, (refl, r))) }; fine = t }; sort = refl }))

  pub leaf_sound : (kind at : ℕ) → at ≤ end → Yields (LeafAt kind at) (leaf_at_in form ws end kind at)
  unfolding leaf_at_in token_at encode_leaf_in ok_leaf_in leaf_kind
  leaf_sound zero at h = yields (record { spans = record { stands = stands_none h; fine = refl }; sort = refl })
  leaf_sound (suc zero) at h = body_sound action_of action_kind (λ i rs. refl) (λ i rs. refl) (λ i rs. refl) at h
  leaf_sound (suc (suc zero)) at h = body_sound predicate_of predicate_kind (λ i rs. refl) (λ i rs. refl) (λ i rs. refl) at h
  leaf_sound (suc (suc (suc zero))) at h = call_sound at h
  leaf_sound (suc (suc (suc (suc zero)))) at h =
      yields_room_and 1 at _ _ h λ r t.
      yields (record { spans = record { stands = record { run = (first ws at, (refl, r)) }; fine = t }; sort = refl })
  leaf_sound (suc (suc (suc (suc (suc zero))))) at h = yields (record {
    spans = record { stands = stands_none h; fine = refl };
    sort = refl;
  })
  leaf_sound (suc (suc (suc (suc (suc (suc zero)))))) at h = nothing
  leaf_sound (suc (suc (suc (suc (suc (suc (suc zero))))))) at h = yields (record {
    spans = record { stands = stands_none h; fine = refl };
    sort = refl;
  })
  leaf_sound (suc (suc (suc (suc (suc (suc (suc (suc kind)))))))) at h = nothing

  pub head_sound : (at : ℕ) → at ≤ end → Yields (Spans ws end (λ h. encode_head h (get_or ws (at + 2) 0 % kind_end)) ok_head at)
      (head_at ws end at)
  unfolding head_at is_head encode_head ok_head
  head_sound at h =
      yields_room_and 6 at _ _ h λ r t.
      yields_then (many_sound _ _ _ option_sound (get_or ws (at + 5) 0) (at + 6) r) λ os q x.
      let i = get_or ws (at + 3) 0 in
      let n = get_or ws (at + 4) 0 in
      let l = second_so (leb (get_or ws (at + 2) 0 / kind_end) one_or_more_nongreedy) (is_label i n) t in
      yields (record {
        stands =
            record {
              run = (
                first ws at,
                (
                  refl,
                  (omega arith, (label_id_lem i n l, (label_name_lem i n, (sym x.1, stands_run at 6 x.0.stands)))),
                ),
              );
            };
        fine =
            and_from _ _ (first_so (leb (get_or ws (at + 2) 0 / kind_end) one_or_more_nongreedy) (is_label i n) t)
            (and_from _ _ (label_fine i n l) x.0.fine);
      })

  module _ {B : Type 0} (block_at : ℕ → Got B) (enc : B → List ℕ) (ok : B → Bool) (sound : Sound ws end block_at enc ok) where
    payload_sound : (e : ElementHead) (kind at p : ℕ) → Spans ws end (λ h. encode_head h kind) ok_head at e p
        → Yields (Spans ws end (encode_element_in form enc) (ok_element_in form ok) at) (payload_at_in form ws end block_at e kind p)
    unfolding payload_at_in encode_element_in ok_element_in
    payload_sound e kind at p x =
        let h = (stands_length x.stands).1 in
        either (eqb kind block_kind)
        (λ t. rw (t, payload_at_in) (yields_then (sound p h) λ b q y.
        yields (record {
          stands = stands_append (rw (eqb-true kind block_kind t) at x.stands) y.stands;
          fine = and_from _ _ x.fine y.fine;
        })))
        (λ t. rw (t, payload_at_in) (yields_then (leaf_sound kind p h) λ l q y.
        yields (record {
          stands = stands_append (rw (← y.sort) at x.stands) y.spans.stands;
          fine = and_from _ _ x.fine y.spans.fine;
        })))

    pub element_sound : Sound ws end (element_at_in form ws end block_at) (encode_element_in form enc) (ok_element_in form ok)
    unfolding element_at_in
    element_sound at h = yields_then (head_sound at h) λ e p x. payload_sound e (get_or ws (at + 2) 0 % kind_end) at p x

    pub alternative_sound : Sound ws end (alternative_at_in form ws end block_at) (encode_alternative_in form enc)
        (ok_alternative_in form ok)
    unfolding alternative_at_in encode_alternative_in ok_alternative_in
    alternative_sound at h =
        yields_room_and 5 at _ _ h λ r t.
        yields_then (many_sound _ _ _ option_sound (get_or ws (at + 3) 0) (at + 5) r) λ os p x.
        yields_then (many_sound _ _ _ element_sound (get_or ws (at + 4) 0) p (stands_length x.0.stands).1) λ es q y.
        yields (record {
          stands =
              record {
                run = (
                  first ws at,
                  (
                    refl,
                    (refl, (sym x.1, (sym y.1, stands_run at 5 (stands_append x.0.stands y.0.stands)))),
                  ),
                );
              };
          fine = and_from _ _ t (and_from _ _ x.0.fine y.0.fine);
        })

    pub rule_sound : Sound ws end (rule_at_in form ws end block_at) (encode_rule enc) (ok_rule ok)
    unfolding rule_at_in encode_rule ok_rule
    rule_sound at h =
        yields_room_and 3 at _ _ h λ r t.
        yields_then (sound (at + 3) r) λ b q x.
        yields (record {
          stands = record { run = (first ws at, (refl, (refl, stands_run at 3 x.stands))) };
          fine =
              and_from _ _ (first_so (is_name (get_or ws (at + 1) 0)) _ t)
              (and_from _ _ (second_so (is_name (get_or ws (at + 1) 0)) _ t) x.fine);
        })

  pub block_sound : (d : ℕ) → Sound ws end (block_at_in form ws end d) (encode_block_in form d) (ok_block_in form d)
  unfolding block_at_in encode_block_in ok_block_in
  block_sound zero at h = nothing
  block_sound (suc d) at h =
      yields_room 1 at _ h λ r.
      yields_map (many_sound _ _ _ (alternative_sound _ _ _ (block_sound d)) (get_or ws at 0) (at + 1) r) λ as' q x.
      record { stands = record { run = (first ws at ∙ sym x.1, stands_run at 1 x.0.stands) }; fine = x.0.fine }

  -- At most n rules from `at` up to the end.
  pub record RulesAt (n at : ℕ) (rs : List Rule) (q : ℕ) : Type 0 where
    pub spans : Spans ws end (encode_rules_in form) (all (ok_rule (ok_block_in form body_depth))) at rs q
    pub ends : q ≡ end
    pub few : length rs ≤ n

  no_rules : (n at : ℕ) → at ≤ end → eqb at end ≡ true → RulesAt n at [] at
  unfolding all
  no_rules n at h t = record { spans = record { stands = stands_none h; fine = refl }; ends = eqb-true at end t; few = omega arith }

  pub rules_sound : (n at : ℕ) → at ≤ end → Yields (RulesAt n at) (rules_at_in form ws end n at)
  unfolding rules_at_in all
  rules_sound zero at h = yields_given (eqb at end) _ λ t. yields (no_rules zero at h t)
  rules_sound (suc n) at h =
      either (eqb at end) (λ t. rw (t, rules_at_in) (yields (no_rules (suc n) at h t))) λ t.
      rw (t, rules_at_in) (
      yields_then (rule_sound _ _ _ (block_sound body_depth) at h) λ r p x.
      yields_then (rules_sound n p (stands_length x.stands).1) λ rs q y.
      yields (record {
        spans = record { stands = stands_append x.stands y.spans.stands; fine = and_from _ _ x.fine y.spans.fine };
        ends = y.ends;
        few = omega (arith, y.few);
      }))
