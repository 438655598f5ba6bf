-- Applying a plan (SPECIFICATION 11): fresh ids for all that is new, and what is recorded of it; and the origins that this
-- makes (12).
use Rattle.std.specs.Prelude.{ℕ, zero, suc, Bool, true, false, not, ◌&&◌, eqb}
use mathlib.Core.List.{List, [], ◌∷◌, ◌++◌, map, foldl}
use Rattle.grammar.specs.Tree.{Label, unlabelled, labelled, ElementHead, Leaf, epsilon, action, predicate, call, token, terminal}
use Rattle.grammar.specs.Tree.{end_of_input, Element, leaf, block, AlternativeOf, Block, RuleOf, Counters, with_action_id}
use Rattle.grammar.specs.Tree.{with_predicate_id}
use Rattle.grammar.specs.Tree.{with_head_id, with_label, with_alternative_id, with_elements, with_rule_body}
use Rattle.grammar.specs.Lists.{member, keep, any}
use Rattle.grammar.specs.Numbers.{rule_sort, alternative_sort, element_sort, label_sort, action_sort, predicate_sort}
use Rattle.reference.specs.Numbers.{rule_boundary, block_boundary}
use Rattle.reference.specs.Substitute.{Elements, Planned}
use Rattle.reference.specs.Plan.{CyclePlan}

-- An entry of the trail. Its kind is the sort of its node; the owner is of the same kind.
pub record Entry : Type 0 where
  pub kind : ℕ
  pub id : ℕ
  pub reason : ℕ
  pub owner : ℕ

-- What apply_plan records itself, l. 938 and 971.
abbrev pub boundary : (kind id owner : ℕ) → Entry
boundary k i o = record { kind = k; id = i; reason = rule_boundary; owner = o }

-- What record_clone records, l. 1381.
abbrev pub clone : (kind id owner : ℕ) → Entry
clone k i o = record { kind = k; id = i; reason = block_boundary; owner = o }

-- A node with fresh ids, the counters after it, and what was recorded on the way.
pub record Fresh (A : Type 0) : Type 0 where
  pub node : A
  pub counters : Counters
  pub entries : List Entry

abbrev pub with_entries : {A : Type 0} → List Entry → Fresh A → Fresh A  -- A part of record_clone, l. 1381.
with_entries es f = record { node = f.node; counters = f.counters; entries = es }

abbrev pub unchanged : {A : Type 0} → A → Counters → Fresh A  -- As the last arm of renumber_element, l. 1376.
unchanged a c = record { node = a; counters = c; entries = [] }

-- An entry in front, as record_clone comes before what is inside, l. 1311.
abbrev pub recording : {A : Type 0} → Entry → Fresh A → Fresh A
recording e f = with_entries (e ∷ f.entries) f

infixl 20 ◌followed_by◌
-- One after the other; renumber_element, l. 1304, hands `ids` and `provenance` on as &mut.
abbrev pub ◌followed_by◌ : {A B : Type 0} → Fresh A → (A → Counters → Fresh B) → Fresh B
f followed_by k =
    let r = k f.node f.counters in
    with_entries (f.entries ++ r.entries) r

-- Each item in turn, as renumber_elements does, l. 1298.
unfoldable pub fresh_each : {A B : Type 0} → (A → Counters → Fresh B) → List A → Counters → Fresh (List B)
fresh_each f [] c = unchanged [] c
fresh_each f (a ∷ as') c = f a c followed_by λ b c₁. fresh_each f as' c₁ followed_by λ bs c₂. unchanged (b ∷ bs) c₂

abbrev pub moved : Bool → ℕ → ℕ  -- checked_add, model.rs, l. 84, without its panic.
moved true n = suc n
moved false n = n

-- ModelIdAllocator (model.rs, l. 73 to 107): a fresh id is the counter of its kind, which moves on by one. That a counter
-- has an end is refusal 8, judged on the whole plan.
abbrev pub past : ℕ → Counters → Counters
past k c =
    record {
      alternative = moved (eqb k alternative_sort) c.alternative;
      element = moved (eqb k element_sort) c.element;
      label = moved (eqb k label_sort) c.label;
      action = moved (eqb k action_sort) c.action;
      predicate = moved (eqb k predicate_sort) c.predicate;
    }

unfoldable pub renumber_label : Label → Counters → Fresh Label  -- Of renumber_element, l. 1317 to 1325.
renumber_label unlabelled c = unchanged unlabelled c
renumber_label (labelled i n) c =
    recording (clone label_sort c.label i) (unchanged (labelled c.label n) (past label_sort c))

-- The element's own id, l. 1309 to 1315 of renumber_element, then its label's.
unfoldable pub renumber_head : ElementHead → Counters → Fresh ElementHead
renumber_head h c =
    recording (clone element_sort c.element h.id)
    (renumber_label h.label (past element_sort c) followed_by λ l c₁.
    unchanged (with_head_id c.element (with_label l h)) c₁)

unfoldable pub renumber_leaf : Leaf → Counters → Fresh Leaf  -- The later arms of renumber_element, l. 1348 to 1376.
renumber_leaf epsilon c = unchanged epsilon c
renumber_leaf (action a) c =
    recording (clone action_sort c.action a.id) (unchanged (action (with_action_id c.action a)) (past action_sort c))
renumber_leaf (predicate p) c =
    recording (clone predicate_sort c.predicate p.id)
    (unchanged (predicate (with_predicate_id c.predicate p)) (past predicate_sort c))
renumber_leaf (call k) c = unchanged (call k) c
renumber_leaf (token n) c = unchanged (token n) c
renumber_leaf terminal c = unchanged terminal c
renumber_leaf end_of_input c = unchanged end_of_input c

module _ {B : Type 0} (renumber_block : B → Counters → Fresh B) where
  -- renumber_element, l. 1304: the element and its label, then what is in it.
  unfoldable pub renumber_element : Element B → Counters → Fresh (Element B)
  renumber_element (leaf h l) c =
      renumber_head h c followed_by λ h' c₁. renumber_leaf l c₁ followed_by λ l' c₂. unchanged (leaf h' l') c₂
  renumber_element (block h b) c =
      renumber_head h c followed_by λ h' c₁. renumber_block b c₁ followed_by λ b' c₂. unchanged (block h' b') c₂

  -- renumber_elements, l. 1293.
  unfoldable pub renumber_elements : List (Element B) → Counters → Fresh (List (Element B))
  renumber_elements = fresh_each renumber_element

  -- An alternative of a nested block in renumber_element, l. 1332 to 1342: its own id, then what is in it.
  unfoldable pub renumber_alternative : AlternativeOf B → Counters → Fresh (AlternativeOf B)
  renumber_alternative a c =
      recording (clone alternative_sort c.alternative a.id)
      (renumber_elements a.elements (past alternative_sort c) followed_by λ es c₁.
      unchanged (with_alternative_id c.alternative (with_elements es a)) c₁)

unfoldable pub renumber_block : (d : ℕ) → Block d → Counters → Fresh (Block d)  -- The arm of renumber_element for a block, l. 1328.
renumber_block zero b c = absurd b
renumber_block (suc d) as' c = fresh_each (renumber_alternative (renumber_block d)) as' c

module _ (d : ℕ) where
  -- An alternative of the hub's new body in apply_plan, l. 949, with an id and elements.
  abbrev pub placed : ℕ → Elements d → Planned d → AlternativeOf (Block d)
  placed i es p = record { id = i; carried = p.carried; flag = p.flag; options = p.options; elements = es }

  -- A new alternative in apply_plan, l. 937 to 957: its own entry, then its copies.
  abbrev pub apply_new : Planned d → Counters → Fresh (AlternativeOf (Block d))
  apply_new p c =
      recording (boundary alternative_sort c.alternative p.origin)
      (renumber_elements (renumber_block d) p.elements (past alternative_sort c) followed_by λ es c₁.
      unchanged (placed c.alternative es p) c₁)

  -- One alternative of the hub's new body in apply_plan, l. 922 to 961, whose template, l. 917, is never needed here.
  unfoldable pub apply_alternative : Planned d → Counters → Fresh (AlternativeOf (Block d))
  apply_alternative p c = elim p.verbatim [ true ↦ unchanged (placed p.origin p.elements p) c | false ↦ apply_new p c ]

  -- The rule with another body, if it is the hub: apply_plan, l. 964 to 970.
  unfoldable pub with_body : ℕ → Block (suc d) → RuleOf (Block (suc d)) → RuleOf (Block (suc d))
  with_body hub b r = elim (eqb r.id hub) [ true ↦ with_rule_body b r | false ↦ r ]

  -- apply_plan, l. 905. The hub's own entry closes the plan.
  unfoldable pub apply_plan : List (RuleOf (Block (suc d))) → CyclePlan d → Counters → Fresh (List (RuleOf (Block (suc d))))
  apply_plan rs plan c =
      fresh_each apply_alternative plan.alternatives c followed_by λ as' c₁.
      recording (boundary rule_sort plan.hub plan.hub)
      (unchanged (keep (λ r. not (member r.id plan.removable)) (map (with_body plan.hub as') rs)) c₁)

-- ModelNodeId, l. 129 of model.rs: a kind and an id, numbered as in the trail.
pub record Node : Type 0 where
  pub kind : ℕ
  pub id : ℕ

-- Origin::Synthetic, l. 64 of provenance.rs, as are the lines below; this pass records no other.
pub record Origin : Type 0 where
  pub reason : ℕ
  pub owner : Node

-- A node with its origins.
pub record Origins : Type 0 where
  pub node : Node
  pub list : List Origin

abbrev pub same_node : Node → Node → Bool  -- The derived == of model.rs, l. 128.
same_node m n = eqb m.kind n.kind && eqb m.id n.id

abbrev pub same_origin : Origin → Origin → Bool  -- The derived == of provenance.rs, l. 37.
same_origin o p = eqb o.reason p.reason && same_node o.owner p.owner

-- ProvenanceIndex::origins, l. 137.
unfoldable pub origins : List Origins → Node → List Origin
origins [] n = []
origins (e ∷ es) n = elim (same_node e.node n) [ true ↦ e.list | false ↦ origins es n ]

-- The loop of record_model, l. 93: the origins that a list does not have yet, added one at a time.
unfoldable pub add_origins : List Origin → List Origin → List Origin
add_origins have [] = have
add_origins have (o ∷ os) =
    elim (any (same_origin o) have) [ true ↦ add_origins have os | false ↦ add_origins (have ++ (o ∷ [])) os ]

-- ProvenanceIndex::record_model, l. 87.
unfoldable pub record_model : List Origins → Node → List Origin → List Origins
record_model [] n os = record { node = n; list = add_origins [] os } ∷ []
record_model (e ∷ es) n os =
    elim (same_node e.node n) [
      | true ↦ record { node = e.node; list = add_origins e.list os } ∷ es
      | false ↦ e ∷ record_model es n os
    ]

-- record_clone, l. 1381 of mutual_recursion.rs: the owner's origins first.
unfoldable pub record_clone : List Origins → Node → Origin → List Origins
record_clone index n o = record_model index n (origins index o.owner ++ (o ∷ []))

abbrev pub node_of : Entry → Node  -- What an entry of the trail is about (SPECIFICATION 12.1),
node_of e = record { kind = e.kind; id = e.id }

abbrev pub owner_of : Entry → Node  -- its owner (SPECIFICATION 12.2),
owner_of e = record { kind = e.kind; id = e.owner }

abbrev pub origin_of : Entry → Origin  -- and the Origin::Synthetic of record_clone, l. 1383.
origin_of e = record { reason = e.reason; owner = owner_of e }

-- One recording: record_clone for reason 2, else what apply_plan records itself, l. 938 and 971 of mutual_recursion.rs.
unfoldable pub recorded : List Origins → Entry → List Origins
recorded index e =
    elim (eqb e.reason block_boundary) [
      | true ↦ record_clone index (node_of e) (origin_of e)
      | false ↦ record_model index (node_of e) (origin_of e ∷ [])
    ]

-- The ProvenanceIndex, l. 78, that the recordings of a trail make of an empty one. Of its five maps this pass writes one.
unfoldable pub provenance : List Entry → List Origins
provenance = foldl recorded []
