-- The planner's answers and limits, and the substitution, one alternative after the other (SPECIFICATION 8).
use Rattle.std.specs.Prelude.{ℕ, zero, suc, ◌*◌, max}
use Rattle.std.specs.Prelude.{List, [], ◌∷◌, ◌++◌, map, Bool, true, false, ◌&&◌, ◌||◌, not, length, take, drop, leb, eqb}
use Rattle.std.proofs.Math.Option.{Option, none, some}
use Rattle.grammar.specs.Tree.{OptionDecl, ElementHead, Call, Element, leaf, block, AlternativeOf, Block, RuleOf, with_quantifier}
use Rattle.grammar.specs.Lists.{member, nothing, keep, first, total, meet}
use Rattle.grammar.specs.Numbers.{once, optional_greedy, qualified}
use Rattle.reference.specs.Numbers.{most_alternatives, most_elements, most_options, least_budget}
use Rattle.reference.specs.Walks.{silent, consuming, calling, sort_of, is_one, bare_reference, elements_give, label_names, leaf_names}
use Rattle.reference.specs.Walks.{references}
use Rattle.reference.specs.Analysis.{Grammar, target, rule_with_id}

-- Why a cycle is left as it is.
pub data Clause : Type 0 where
  no_hub hub_with_arguments satellite_not_inlinable budget dangling_reference blocked_corner : Clause
  label_collision binding_collision option_collision no_steps not_directly_rewritable : Clause

-- The clauses by number: the declines of plan_cycle, l. 325 to 416 (SPECIFICATION 10).
unfoldable pub clause_number : Clause → ℕ
clause_number no_hub = 1
clause_number hub_with_arguments = 2
clause_number satellite_not_inlinable = 3
clause_number budget = 4
clause_number dangling_reference = 5
clause_number blocked_corner = 6
clause_number label_collision = 7
clause_number binding_collision = 8
clause_number option_collision = 9
clause_number no_steps = 10
clause_number not_directly_rewritable = 11

-- Overfull is refusal 7: a planned list passed a limit.
pub data Decided (A : Type 0) : Type 0 where
  decided : A → Decided A
  declined : Clause → Decided A
  overfull : Decided A

infixl 20 ◌and_then◌
-- What follows a decision: the ? and the early returns of plan_cycle, l. 313, with the clause kept.
abbrev pub ◌and_then◌ : {A B : Type 0} → Decided A → (A → Decided B) → Decided B
(decided a) and_then f = f a
(declined c) and_then f = declined c
overfull and_then f = overfull

-- The rest, where a test holds; else a decline, as in plan_cycle, l. 335.
abbrev pub require : {A : Type 0} → Clause → Bool → (Unit {0} → Decided A) → Decided A
require c true f = f tt
require c false f = declined c

-- What was found; else a decline, as in plan_cycle, l. 325.
abbrev pub found : {A : Type 0} → Clause → Option A → Decided A
found c none = declined c
found c (some a) = decided a

-- A decision for each item; the first decline ends it, as in the loop of splice_satellite, l. 598.
unfoldable pub decide_each : {A B : Type 0} → (A → Decided B) → List A → Decided (List B)
decide_each f [] = decided []
decide_each f (a ∷ as') = f a and_then λ b. decide_each f as' and_then λ bs. decided (b ∷ bs)

-- The least budget, and how large a planned list may be after a step.
pub record Limits : Type 0 where
  pub budget_floor : ℕ
  pub alternatives : ℕ
  pub elements : ℕ
  pub options : ℕ

abbrev pub standard : Limits  -- The first is substitution_budget's, l. 1111; the others are SPECIFICATION 4.7's.
standard =
    record {
      budget_floor = least_budget;
      alternatives = most_alternatives;
      elements = most_elements;
      options = most_options;
    }

-- PlannedAlternative, l. 180. In place of label_from stand the carried number and the flag of the hub's alternative in
-- whose slot it is. The Rust looks them up by that id when the plan is applied, in an index of all alternatives
-- (collect_alternative_attributes, l. 983, and collect_block_alternatives, l. 991); here they are at hand already.
pub record PlannedAlternative (B : Type 0) : Type 0 where
  pub carried : ℕ
  pub flag : ℕ
  pub options : List OptionDecl
  pub origin : ℕ
  pub elements : List (Element B)
  pub verbatim : Bool

-- A new alternative in the slot of another, as in split_optional, l. 557, and splice_satellite, l. 634.
abbrev pub in_slot_of : {B : Type 0} → PlannedAlternative B → List OptionDecl → ℕ → List (Element B) → PlannedAlternative B
in_slot_of p os i es =
    record {
      carried = p.carried;
      flag = p.flag;
      options = os;
      origin = i;
      elements = es;
      verbatim = false;
    }

-- PlannedCorner, l. 435.
pub data PlannedCorner : Type 0 where
  optional satellite : (index target : ℕ) → PlannedCorner
  blocked settled : PlannedCorner

-- The same corner with one more element in front; planned_corner counts along, l. 453.
unfoldable pub further : PlannedCorner → PlannedCorner
further (optional i t) = optional (suc i) t
further (satellite i t) = satellite (suc i) t
further blocked = blocked
further settled = settled

-- A call of a member of the cycle in planned_corner, l. 471 to 486.
unfoldable pub member_corner : (hub : ℕ) → ElementHead → Call → ℕ → PlannedCorner
member_corner hub h c t =
    elim (eqb h.quantifier optional_greedy && bare_reference h c) [
      | true ↦ optional 0 t
      | false ↦
          elim (eqb t hub && is_one h) [
            | true ↦ settled
            | false ↦ elim (is_one h && bare_reference h c) [ true ↦ satellite 0 t | false ↦ blocked ]
          ]
    ]

module _ (g : Grammar) (cycle : List ℕ) (hub : ℕ) where
  -- planned_corner, l. 447.
  unfoldable pub planned_corner : {B : Type 0} → List (Element B) → PlannedCorner
  planned_corner [] = settled
  planned_corner (leaf h l ∷ es) =
      elim (sort_of l) [
        | silent ↦ further (planned_corner es)
        | consuming ↦ settled
        | calling c ↦
            elim (target g c.name) [
              | none ↦ settled
              | some t ↦ elim (member t cycle) [ true ↦ member_corner hub h c t | false ↦ settled ]
            ]
      ]
  planned_corner (block h b ∷ es) = settled

-- The elements without the one at an index, as in split_optional, l. 555, and splice_satellite, l. 595.
abbrev pub without : {A : Type 0} → ℕ → List A → List A
without i es = take i es ++ drop (suc i) es

abbrev pub plain_head : ElementHead → ElementHead  -- Quantifier::One in split_optional, l. 552.
plain_head = with_quantifier once

unfoldable pub plain : {B : Type 0} → Element B → Element B  -- The element in split_optional, l. 551.
plain (leaf h l) = leaf (plain_head h) l
plain (block h b) = block (plain_head h) b

-- The elements with the one at an index made plain: `present` in split_optional, l. 550.
abbrev pub with_plain : {B : Type 0} → ℕ → List (Element B) → List (Element B)
with_plain i es = take i es ++ (map plain (take 1 (drop i es)) ++ drop (suc i) es)

-- split_optional, l. 549: present, then absent.
unfoldable pub split_optional : {B : Type 0} → PlannedAlternative B → ℕ → List (PlannedAlternative B)
split_optional p i = map (in_slot_of p p.options p.origin) (with_plain i p.elements ∷ without i p.elements ∷ [])

-- One option more, as in splice_satellite, l. 621; none where the first of its name has another value.
unfoldable pub add_option : List OptionDecl → OptionDecl → Option (List OptionDecl)
add_option os o =
    elim (first (λ p. eqb p.name o.name) os) [
      | none ↦ some (os ++ (o ∷ []))
      | some p ↦ elim (eqb p.value o.value) [ true ↦ some os | false ↦ none ]
    ]

-- The union of options in splice_satellite, l. 619 to 629.
unfoldable pub union_options : List OptionDecl → List OptionDecl → Option (List OptionDecl)
union_options os [] = some os
union_options os (o ∷ more) = elim (add_option os o) [ none ↦ none | some wider ↦ union_options wider more ]

module _ (d : ℕ) where
  abbrev pub Elements : Type 0  -- What the Rust hands on as &[Element], as labels_collide, l. 646.
  Elements = List (Element (Block d))

  abbrev pub Planned : Type 0  -- PlannedAlternative, l. 180, at one depth.
  Planned = PlannedAlternative (Block d)

  -- remaining_actions_reference, l. 497, with element_actions_reference, l. 511: references of every kind count.
  unfoldable pub remaining_actions_reference : Elements → ℕ → ℕ → Bool
  remaining_actions_reference es i n = member n (elements_give nothing (λ l. map (λ r. r.name) (references l)) d (without i es))

  -- collect_labels, l. 658.
  unfoldable pub collect_labels : Elements → List ℕ
  collect_labels = elements_give label_names nothing d

  -- action_reference_names, l. 700: by attributes and qualified references.
  unfoldable pub action_reference_names : Elements → List ℕ
  action_reference_names = elements_give nothing (λ l. map (λ r. r.name) (keep (λ r. leb r.kind qualified) (references l))) d

  -- bindable_names, l. 738.
  unfoldable pub bindable_names : Elements → List ℕ
  bindable_names = elements_give label_names leaf_names d

  -- labels_collide, l. 646. Prefix and suffix are handed over joined, here and below.
  unfoldable pub labels_collide : Elements → Elements → Bool
  labels_collide around spliced = meet (collect_labels around) (collect_labels spliced)

  -- implicit_bindings_collide, l. 676.
  unfoldable pub implicit_bindings_collide : Elements → Elements → Bool
  implicit_bindings_collide around spliced =
      meet (action_reference_names around) (bindable_names spliced)
      || meet (action_reference_names spliced) (bindable_names around)

  -- One alternative of the satellite in place of the call at an index: the loop of splice_satellite, l. 598 to 642.
  unfoldable pub splice_alternative : Planned → ℕ → AlternativeOf (Block d) → Decided Planned
  splice_alternative p i s =
      let around = without i p.elements in
      require label_collision (not (labels_collide around s.elements)) λ _.
      require binding_collision (not (implicit_bindings_collide around s.elements)) λ _.
      found option_collision (union_options p.options s.options) and_then λ os.
      decided (in_slot_of p os s.id (take i p.elements ++ (s.elements ++ drop (suc i) p.elements)))

  -- splice_satellite, l. 577.
  unfoldable pub splice_satellite : Planned → ℕ → RuleOf (Block (suc d)) → Decided (List Planned)
  splice_satellite p i r =
      require dangling_reference (not (remaining_actions_reference p.elements i r.name)) λ _.
      decide_each (splice_alternative p i) r.body

  -- SPECIFICATION 4.7 excludes every other list after a step; plan_cycle's loop, l. 364, has no such limit.
  unfoldable pub is_within : Limits → List Planned → Bool
  is_within limits ps =
      leb (length ps) limits.alternatives
      && (leb (total (map (λ p. length p.elements) ps)) limits.elements
      && leb (total (map (λ p. length p.options) ps)) limits.options)

  -- substitution_budget, l. 1105. Its 64 is a limit here, and its saturating product exact: it cannot come near the end.
  unfoldable pub substitution_budget : Limits → List (RuleOf (Block (suc d))) → List ℕ → ℕ
  substitution_budget limits rs cycle =
      let alternatives = total (map (λ r. length r.body) (keep (λ r. member r.id cycle) rs)) in
      max (alternatives * alternatives) limits.budget_floor

  -- A planned list without work left, and the steps it took.
  pub record Substituted : Type 0 where
    pub alternatives : List Planned
    pub steps : ℕ

  -- What takes the place of an alternative in plan_cycle, l. 375 to 400; none where it is settled. A target is always a rule's.
  unfoldable pub replacement : List (RuleOf (Block (suc d))) → Planned → PlannedCorner → Option (Decided (List Planned))
  replacement rs p (optional i t) =
      elim (rule_with_id rs t) [
        | none ↦ none
        | some r ↦
            some
            (require dangling_reference (not (remaining_actions_reference p.elements i r.name)) λ _. decided (split_optional p i))
      ]
  replacement rs p (satellite i t) = elim (rule_with_id rs t) [ none ↦ none | some r ↦ some (splice_satellite p i r) ]
  replacement rs p blocked = some (declined blocked_corner)
  replacement rs p settled = none

  module _ (rs : List (RuleOf (Block (suc d)))) (g : Grammar) (cycle : List ℕ) (hub : ℕ) where
    -- The list with the first alternative in need of work replaced in its slot; none where all are settled. The loop of
    -- plan_cycle, l. 364, looks for the position first and splices there, l. 404.
    unfoldable pub step : List Planned → Option (Decided (List Planned))
    step [] = none
    step (p ∷ ps) =
        elim (replacement rs p (planned_corner g cycle hub p.elements)) [
          | some r ↦ some (r and_then λ qs. decided (qs ++ ps))
          | none ↦ elim (step ps) [ none ↦ none | some r ↦ some (r and_then λ qs. decided (p ∷ qs)) ]
        ]

    -- The loop of plan_cycle, l. 362 to 405, with the steps that are left and those made: one more than there are in the
    -- budget declines (SPECIFICATION 8.10).
    unfoldable pub substitute : Limits → ℕ → ℕ → List Planned → Decided Substituted
    substitute limits zero made ps =
        elim (step ps) [ none ↦ decided (record { alternatives = ps; steps = made }) | some r ↦ declined budget ]
    substitute limits (suc left) made ps =
        elim (step ps) [
          | none ↦ decided (record { alternatives = ps; steps = made })
          | some r ↦ r and_then λ qs. elim (is_within limits qs) [ true ↦ substitute limits left (suc made) qs | false ↦ overfull ]
        ]
