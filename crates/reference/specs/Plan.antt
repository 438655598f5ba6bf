-- The whole decision for one cycle, made on the grammar as it stands: the hub, the substitution, what may be removed
-- (SPECIFICATION 7 to 10).
use Rattle.std.specs.Prelude.{ℕ, suc, ◌%◌, List, [], ◌∷◌, ◌++◌, map, Bool, true, false, ◌&&◌, ◌||◌, not, length, drop, eqb}
use Rattle.std.proofs.Math.Option.{Option, none, some}
use Rattle.grammar.specs.Tree.{ElementHead, Call, Element, leaf, block, AlternativeOf, Block, RuleOf}
use Rattle.grammar.specs.Lists.{each, member, all, is_empty, any, keep, first, rounds, meet}
use Rattle.grammar.specs.Numbers.{action_sort, predicate_sort}
use Rattle.grammar.specs.Ids.{block_ids}
use Rattle.grammar.specs.Corners.{Corners}
use Rattle.reference.specs.Walks.{silent, consuming, calling, sort_of, is_epsilon_only, is_one, bare_reference}
use Rattle.reference.specs.Analysis.{Grammar, target, rule_with_id, collect_calls_in_elements, collect_calls_into, element_nullable}
use Rattle.reference.specs.Analysis.{block_is_nullable, left_corners}
use Rattle.reference.specs.Substitute.{no_hub, hub_with_arguments, satellite_not_inlinable, no_steps, not_directly_rewritable, Decided}
use Rattle.reference.specs.Substitute.{decided, ◌and_then◌, require, found, Limits, PlannedAlternative, Elements, Planned, Substituted}
use Rattle.reference.specs.Substitute.{substitute, substitution_budget}

-- Corner, l. 237. Index and target of Bare are left out: planned_corner finds them anew.
pub data Corner : Type 0 where
  bare outside_cycle unusable : Corner

module _ (g : Grammar) (cycle : List ℕ) where
  -- classify_corner, l. 253, at a call of a rule, l. 266 to 281.
  unfoldable pub called_corner : ElementHead → Call → ℕ → Corner
  called_corner h c t =
      elim (member t cycle) [
        | true ↦ elim (is_one h && bare_reference h c) [ true ↦ bare | false ↦ unusable ]
        | false ↦ elim (member t g.nullable) [ true ↦ unusable | false ↦ outside_cycle ]
      ]

  -- classify_corner, l. 253.
  unfoldable pub classify_corner : {B : Type 0} → List (Element B) → Corner
  classify_corner [] = outside_cycle
  classify_corner (leaf h l ∷ es) =
      elim (sort_of l) [
        | silent ↦ classify_corner es
        | consuming ↦ outside_cycle
        | calling c ↦ elim (target g c.name) [ none ↦ outside_cycle | some t ↦ called_corner h c t ]
      ]
  classify_corner (block h b ∷ es) = outside_cycle

  unfoldable pub corner_enters_cycle : {B : Type 0} → List (Element B) → Bool  -- corner_enters_cycle, l. 292.
  corner_enters_cycle es = elim (classify_corner es) [ bare ↦ true | outside_cycle ↦ false | unusable ↦ true ]

  module _ (d : ℕ) (rs : List (RuleOf (Block (suc d)))) where
    -- externally_referenced, l. 1037. Calls of rules outside the cycle are not sifted out: nobody asks for them.
    unfoldable pub externally_referenced : List ℕ
    externally_referenced = each (λ r. collect_calls_into g (suc d) r.body) (keep (λ r. not (member r.id cycle)) rs)

    -- Whether a member is a candidate (SPECIFICATION 7.2): the filter in choose_hub, l. 1019.
    unfoldable pub is_candidate : ℕ → Bool
    is_candidate i = elim (rule_with_id rs i) [ none ↦ false | some r ↦ any (λ a. not (corner_enters_cycle a.elements)) r.body ]

    -- choose_hub, l. 1006. The cycle has rising ids, so the least is the first.
    unfoldable pub choose_hub : List ℕ → Option ℕ
    choose_hub preserved =
        let external = externally_referenced ++ preserved in
        let candidates = keep is_candidate cycle in
        elim (first (λ i. member i external) candidates) [ some i ↦ some i | none ↦ first (λ i. true) candidates ]

-- satellite_has_embedded_semantics, l. 790, with elements_have_semantics, l. 791, as ids: an action or predicate has one.
unfoldable pub satellite_has_embedded_semantics : (d : ℕ) → Block d → Bool
satellite_has_embedded_semantics d b = not (is_empty (block_ids action_sort d b ++ block_ids predicate_sort d b))

-- satellite_is_inlinable, l. 764. What the rule itself must not have is in its flags.
unfoldable pub satellite_is_inlinable : (d : ℕ) → RuleOf (Block (suc d)) → Bool
satellite_is_inlinable d r =
    eqb r.flags 0 && (all (λ a. eqb a.flag 0) r.body && not (satellite_has_embedded_semantics (suc d) r.body))

module _ (g : Grammar) (hub : ℕ) where
  -- hub_call, l. 888: a call of the hub with quantifier 0.
  unfoldable pub hub_call : {B : Type 0} → Element B → Option Call
  hub_call (leaf h l) =
      elim (sort_of l) [
        | silent ↦ none
        | consuming ↦ none
        | calling c ↦ elim (target g c.name) [ none ↦ none | some t ↦ elim (is_one h && eqb t hub) [ true ↦ some c | false ↦ none ] ]
      ]
  hub_call (block h b) = none

  -- is_hub_call, l. 884.
  unfoldable pub is_hub_call : {B : Type 0} → Element B → Bool
  is_hub_call e = elim (hub_call e) [ none ↦ false | some c ↦ true ]

  unfoldable pub gives_hub_arguments : {B : Type 0} → Element B → Bool  -- A test of planned_hub_is_directly_rewritable, l. 830.
  gives_hub_arguments e = elim (hub_call e) [ none ↦ false | some c ↦ not (eqb c.arguments 0) ]

  -- The first element in planned_hub_is_directly_rewritable, l. 839.
  unfoldable pub starts_with_hub_call : {B : Type 0} → List (Element B) → Bool
  starts_with_hub_call [] = false
  starts_with_hub_call (e ∷ es) = is_hub_call e

  -- Binary or suffix in planned_hub_is_directly_rewritable, l. 839 to 860. The test for nothing significant behind the
  -- hub's call (l. 846) is part of the test for a nullable tail: what is epsilon only is nullable.
  unfoldable pub is_recursive : (d : ℕ) → Elements d → Bool
  is_recursive d es = starts_with_hub_call es && not (all (element_nullable g (block_is_nullable g d)) (drop 1 es))

module _ (c : Corners) (g : Grammar) (cycle : List ℕ) (hub : ℕ) (d : ℕ) where
  -- Primary or prefix in planned_hub_is_directly_rewritable, l. 861 to 872: no left corner in the cycle.
  unfoldable pub is_primary : Elements d → Bool
  is_primary es = not (starts_with_hub_call g hub es || meet (left_corners c g d es) cycle)

  -- One turn of planned_hub_is_directly_rewritable, l. 829 to 872: no arguments, something significant, either sort.
  unfoldable pub is_fit : Elements d → Bool
  is_fit es = not (any (gives_hub_arguments g hub) es || all is_epsilon_only es) && (is_primary es || is_recursive g hub d es)

  -- planned_hub_is_directly_rewritable, l. 818: its loop with two flags, as three tests.
  unfoldable pub planned_hub_is_directly_rewritable : List (Planned d) → Bool
  planned_hub_is_directly_rewritable ps =
      all (λ p. is_fit p.elements) ps
      && (any (λ p. is_primary p.elements) ps && any (λ p. is_recursive g hub d p.elements) ps)

module _ (g : Grammar) (d : ℕ) (rs : List (RuleOf (Block (suc d)))) (hub : ℕ) (ps : List (Planned d)) where
  -- The calls that stay if a set of rules is removed: removable_satellites, l. 1084 to 1092, without its sieve, l. 1080.
  unfoldable pub calls_kept : List ℕ → List ℕ
  calls_kept removable =
      each (λ p. collect_calls_in_elements g d p.elements) ps
      ++ each (λ r. collect_calls_into g (suc d) r.body) (keep (λ r. not (member r.id removable || eqb r.id hub)) rs)

  -- One turn of the loop in removable_satellites, l. 1076: a rule that is still called is not removable.
  unfoldable pub removable_round : List ℕ → List ℕ
  removable_round removable =
      let called = calls_kept removable in
      keep (λ i. not (member i called)) removable

  -- removable_satellites, l. 1063. A round that takes nothing away is the last, so as many as members are enough.
  unfoldable pub removable_satellites : List ℕ → List ℕ → List ℕ
  removable_satellites cycle preserved =
      rounds removable_round (length cycle) (keep (λ i. not (eqb i hub || member i preserved)) cycle)

-- CyclePlan, l. 168, and the steps it took.
pub record CyclePlan (d : ℕ) : Type 0 where
  pub hub : ℕ
  pub alternatives : List (Planned d)
  pub removable : List ℕ
  pub steps : ℕ

-- An alternative of the hub before any step of plan_cycle, l. 353.
abbrev pub as_it_is : {B : Type 0} → AlternativeOf B → PlannedAlternative B
as_it_is a =
    record {
      carried = a.carried;
      flag = a.flag;
      options = a.options;
      origin = a.id;
      elements = a.elements;
      verbatim = true;
    }

-- All of them, l. 349 to 360 of plan_cycle.
unfoldable pub as_they_are : {B : Type 0} → List (AlternativeOf B) → List (PlannedAlternative B)
as_they_are = map as_it_is

module _ (d : ℕ) (rs : List (RuleOf (Block (suc d)))) (cycle : List ℕ) where
  -- The members but for the hub, as in plan_cycle, l. 341.
  abbrev pub satellites : ℕ → List (RuleOf (Block (suc d)))
  satellites hub = keep (λ s. member s.id cycle && not (eqb s.id hub)) rs

  -- What plan_cycle returns, l. 419 to 431, of the hub and what substitution made of its alternatives.
  abbrev pub plan_of : Grammar → (preserved : List ℕ) (hub : ℕ) → Substituted d → CyclePlan d
  plan_of g preserved hub made =
      record {
        hub = hub;
        alternatives = made.alternatives;
        removable = removable_satellites g d rs hub made.alternatives cycle preserved;
        steps = made.steps;
      }

module _ (limits : Limits) (c : Corners) (g : Grammar) (d : ℕ) (rs : List (RuleOf (Block (suc d)))) (preserved cycle : List ℕ) where
  -- The tests behind the loop of plan_cycle, l. 407 to 417.
  abbrev pub last_tests : ℕ → Substituted d → Decided (CyclePlan d)
  last_tests hub made =
      require no_steps (not (eqb made.steps 0)) λ _.
      require not_directly_rewritable (planned_hub_is_directly_rewritable c g cycle hub d made.alternatives) λ _.
      decided (plan_of d rs cycle g preserved hub made)

  -- The loop of plan_cycle, l. 349 to 405, and what is behind it.
  abbrev pub substituting : ℕ → RuleOf (Block (suc d)) → Decided (CyclePlan d)
  substituting hub r =
      substitute d rs g cycle hub limits (substitution_budget d limits rs cycle) 0 (as_they_are r.body) and_then last_tests hub

  -- The test of the satellites in plan_cycle, l. 341 to 345, and what is behind it.
  abbrev pub inlinable : ℕ → RuleOf (Block (suc d)) → Decided (CyclePlan d)
  inlinable hub r = require satellite_not_inlinable (all (satellite_is_inlinable d) (satellites d rs cycle hub)) λ _. substituting hub r

  -- The test of the hub in plan_cycle, l. 335, and what is behind it.
  abbrev pub with_rule : ℕ → RuleOf (Block (suc d)) → Decided (CyclePlan d)
  with_rule hub r = require hub_with_arguments (eqb (r.flags % 2) 0) λ _. inlinable hub r

  -- The hub's rule, looked up as in plan_cycle, l. 335.
  abbrev pub with_hub : ℕ → Decided (CyclePlan d)
  with_hub hub = found no_hub (rule_with_id rs hub) and_then with_rule hub

  -- plan_cycle, l. 313. The Rust first asks whether all members are rules; they always are.
  unfoldable pub plan_cycle : Decided (CyclePlan d)
  plan_cycle = found no_hub (choose_hub g cycle d rs preserved) and_then with_hub
