-- The definition as it was before there was end of input: the two tests of a leaf that ask for it, without that question, and
-- all that rests on them. What does not rest on them is the definition's own.
use Rattle.std.specs.Prelude.{ℕ, zero, suc, ◌+◌, ◌%◌}
use Rattle.std.specs.Prelude.{List, [], ◌∷◌, ◌++◌, map, Bool, true, false, ◌&&◌, ◌||◌, not, length, drop, eqb}
use Rattle.std.proofs.Math.Option.{none, some}
use Rattle.grammar.specs.Tree.{Leaf, Element, leaf, block, Block, RuleOf, Rule, body_depth, Counters, Sheet}
use Rattle.grammar.specs.Lists.{each, member, meet, all, any, keep, sorted, rounds}
use Rattle.grammar.specs.Corners.{Corners, rust, textbook}
use Rattle.grammar.specs.Numbers.{parser, bad_length, short_buffer, plan_too_large}
use Rattle.grammar.specs.Reading.{Reading, refused, sheet, is_length, read}
use Rattle.reference.specs.Walks.{silent, consuming, calling, sort_of, is_epsilon_only, is_optional}
use Rattle.reference.specs.Analysis.{Grammar, names_of, ids_of, target, rule_with_id, calls, Row, reach, cycles_from}
use Rattle.reference.specs.Substitute.{no_hub, hub_with_arguments, satellite_not_inlinable, no_steps, not_directly_rewritable, Decided}
use Rattle.reference.specs.Substitute.{decided}
use Rattle.reference.specs.Substitute.{declined, overfull, ◌and_then◌, require, found, Limits, Planned, Substituted, substitute}
use Rattle.reference.specs.Substitute.{substitution_budget}
use Rattle.reference.specs.Plan.{CyclePlan, choose_hub, satellite_is_inlinable, gives_hub_arguments, starts_with_hub_call, as_they_are}
use Rattle.reference.specs.Plan.{satellites}
use Rattle.reference.specs.Plan.{plan_of}
use Rattle.reference.specs.Apply.{apply_plan}
use Rattle.reference.specs.Run.{inner_depth, Search, no_plan, planned, too_large, Run, ended, stopped, preceded, refusal_of, Answer}
use Rattle.reference.specs.Run.{refusal}
use Rattle.reference.specs.Run.{answer_run, Outcome, are_lent, untouched, delivered}

module _ (g : Grammar) where
  unfoldable pub leaf_nullable : Leaf → Bool
  leaf_nullable l =
      elim (sort_of l) [
        | silent ↦ true
        | consuming ↦ false
        | calling c ↦ elim (target g c.name) [ none ↦ false | some t ↦ member t g.nullable ]
      ]

  unfoldable pub element_nullable : {B : Type 0} → (B → Bool) → Element B → Bool
  element_nullable block_nullable (leaf h l) = is_optional h || leaf_nullable l
  element_nullable block_nullable (block h b) = is_optional h || block_nullable b

  unfoldable pub block_is_nullable : (d : ℕ) → Block d → Bool
  block_is_nullable zero b = absurd b
  block_is_nullable (suc d) as' = any (λ a. all (element_nullable (block_is_nullable d)) a.elements) as'

module _ (d : ℕ) (rs : List (RuleOf (Block d))) where
  unfoldable pub nullable_round : List ℕ → List ℕ
  nullable_round found =
      let g : Grammar = record { names = names_of rs; nullable = found } in
      ids_of (keep (λ r. block_is_nullable g d r.body) rs)

  unfoldable pub nullable_rules : List ℕ
  nullable_rules = rounds nullable_round (length rs) []

  unfoldable pub grammar_of : Grammar
  grammar_of = record { names = names_of rs; nullable = nullable_rules }

unfoldable pub is_stop : Corners → Grammar → Leaf → Bool
is_stop textbook g l = false
is_stop rust g l =
    elim (sort_of l) [ silent ↦ false | consuming ↦ true | calling c ↦ elim (target g c.name) [ none ↦ true | some t ↦ false ] ]

module _ (c : Corners) (g : Grammar) where
  module _ {B : Type 0} (block_corners : B → List ℕ) (block_nullable : B → Bool) where
    unfoldable pub collect_left_corner_calls : List (Element B) → List ℕ
    collect_left_corner_calls [] = []
    collect_left_corner_calls (leaf h l ∷ es) =
        calls g l
        ++ elim (not (is_stop c g l) && element_nullable g block_nullable (leaf h l)) [ true ↦ collect_left_corner_calls es | false ↦ [] ]
    collect_left_corner_calls (block h b ∷ es) =
        block_corners b ++ elim (element_nullable g block_nullable (block h b)) [ true ↦ collect_left_corner_calls es | false ↦ [] ]

  unfoldable pub block_corners : (d : ℕ) → Block d → List ℕ
  block_corners zero b = absurd b
  block_corners (suc d) as' = each (λ a. collect_left_corner_calls (block_corners d) (block_is_nullable g d) a.elements) as'

  unfoldable pub left_corners : (d : ℕ) → List (Element (Block d)) → List ℕ
  left_corners d = collect_left_corner_calls (block_corners d) (block_is_nullable g d)

abbrev pub row_of : Corners → Grammar → (d : ℕ) → RuleOf (Block d) → Row
row_of c g d r = record { id = r.id; to = block_corners c g d r.body }

unfoldable pub left_corner_cycles : (c : Corners) (g : Grammar) (d : ℕ) → List (RuleOf (Block d)) → List (List ℕ)
left_corner_cycles c g d rs = cycles_from (reach (map (row_of c g d) rs)) (sorted (ids_of rs))

-- The last test of a plan.
module _ (c : Corners) (g : Grammar) (cycle : List ℕ) (hub : ℕ) (d : ℕ) where
  unfoldable pub is_recursive : List (Element (Block d)) → Bool
  is_recursive es = starts_with_hub_call g hub es && not (all (element_nullable g (block_is_nullable g d)) (drop 1 es))

  unfoldable pub is_primary : List (Element (Block d)) → Bool
  is_primary es = not (starts_with_hub_call g hub es || meet (left_corners c g d es) cycle)

  unfoldable pub is_fit : List (Element (Block d)) → Bool
  is_fit es = not (any (gives_hub_arguments g hub) es || all is_epsilon_only es) && (is_primary es || is_recursive es)

  unfoldable pub planned_hub_is_directly_rewritable : List (Planned d) → Bool
  planned_hub_is_directly_rewritable ps =
      all (λ p. is_fit p.elements) ps && (any (λ p. is_primary p.elements) ps && any (λ p. is_recursive p.elements) ps)

module _ (limits : Limits) (c : Corners) (g : Grammar) (d : ℕ) (rs : List (RuleOf (Block (suc d)))) (preserved cycle : List ℕ) where
  abbrev pub last_tests : ℕ → Substituted d → Decided (CyclePlan d)
  last_tests hub made =
      require no_steps (not (eqb made.steps 0)) λ _.
      require not_directly_rewritable (planned_hub_is_directly_rewritable c g cycle hub d made.alternatives) λ _.
      decided (plan_of d rs cycle g preserved hub made)

  abbrev pub substituting : ℕ → RuleOf (Block (suc d)) → Decided (CyclePlan d)
  substituting hub r =
      substitute d rs g cycle hub limits (substitution_budget d limits rs cycle) 0 (as_they_are r.body) and_then last_tests hub

  abbrev pub inlinable : ℕ → RuleOf (Block (suc d)) → Decided (CyclePlan d)
  inlinable hub r = require satellite_not_inlinable (all (satellite_is_inlinable d) (satellites d rs cycle hub)) λ _. substituting hub r

  abbrev pub with_rule : ℕ → RuleOf (Block (suc d)) → Decided (CyclePlan d)
  with_rule hub r = require hub_with_arguments (eqb (r.flags % 2) 0) λ _. inlinable hub r

  abbrev pub with_hub : ℕ → Decided (CyclePlan d)
  with_hub hub = found no_hub (rule_with_id rs hub) and_then with_rule hub

  unfoldable pub plan_cycle : Decided (CyclePlan d)
  plan_cycle = found no_hub (choose_hub g cycle d rs preserved) and_then with_hub

-- The run.
module _ (limits : Limits) (corners : Corners) (preserved : List ℕ) where
  unfoldable pub search_cycles : Grammar → List Rule → List (List ℕ) → Search
  search_cycles g rs [] = no_plan
  search_cycles g rs (cycle ∷ more) =
      elim (plan_cycle limits corners g inner_depth rs preserved cycle) [
        | decided plan ↦ planned cycle plan
        | declined c ↦ search_cycles g rs more
        | overfull ↦ too_large
      ]

  unfoldable pub find_plan : List Rule → Search
  find_plan rs =
      let g = grammar_of body_depth rs in
      search_cycles g rs (left_corner_cycles corners g body_depth rs)

  unfoldable pub eliminate_in_unit : (kind : ℕ) → ℕ → List Rule → Counters → ℕ → Run
  eliminate_in_unit kind zero rs c recorded = ended []
  eliminate_in_unit kind (suc turns) rs c recorded =
      elim (find_plan rs) [
        | no_plan ↦ ended []
        | too_large ↦ stopped [] plan_too_large
        | planned cycle plan ↦
            let after = apply_plan inner_depth rs plan c in
            elim (refusal_of kind preserved after recorded) [
              | suc n ↦ stopped [] (suc n)
              | zero ↦
                  preceded (record { before = rs; cycle = cycle; plan = plan; after = after })
                  (eliminate_in_unit kind turns after.node after.counters (recorded + length after.entries))
            ]
      ]

module _ (limits : Limits) (corners : Corners) where
  unfoldable pub eliminate_mutual_left_recursion : Sheet → Run
  eliminate_mutual_left_recursion s =
      elim (eqb s.kind parser) [
        | true ↦ eliminate_in_unit limits corners s.preserved s.kind (suc (length s.rules)) s.rules s.counters 0
        | false ↦ ended []
      ]

  unfoldable pub answer_reading : Reading → Answer
  answer_reading (refused n) = refusal n
  answer_reading (sheet s) = answer_run s (eliminate_mutual_left_recursion s)

  unfoldable pub outcome : (bs result trail work : List ℕ) → Outcome
  outcome bs result trail work =
      elim (is_length (length bs)) [
        | false ↦ untouched result trail work bad_length
        | true ↦
            elim (are_lent result trail work) [
              | false ↦ untouched result trail work short_buffer
              | true ↦ delivered result trail work (answer_reading (read bs))
            ]
      ]
