-- On sheets without end of input the run, and the outcome, are those of the definition before there was one.
use Prim.Native.Nat.{ℕ, zero, suc, ◌+◌, ◌%◌, ◌<◌}
use Rattle.std.specs.Prelude.{◌≡◌, true, false, ◌||◌, length, get_or, drop, eqb}
use Rattle.std.proofs.Math.Path.{refl, sym, ap, ap₂}
use Rattle.std.proofs.Common.{◌∙◌, subst}
use mathlib.Core.List.{List, [], ◌∷◌, Memᴰ}
use Rattle.std.proofs.Math.Bool.{◌&&◌, not}
use Rattle.grammar.specs.Form.{newest}
use Rattle.grammar.specs.Laws.Lists.{in_map}
use Rattle.grammar.specs.Laws.Codec.{accepted_valid}
use Rattle.grammar.specs.Lists.{all, any, meet}
use Rattle.grammar.specs.Numbers.{parser, bad_length, short_buffer}
use Rattle.grammar.specs.Tree.{Leaf, epsilon, action, predicate, call, token, terminal, end_of_input, Block, RuleOf, Rule, body_depth}
use Rattle.grammar.specs.Tree.{Counters, Sheet}
use Rattle.grammar.specs.Valid.{valid}
use Rattle.grammar.specs.Reading.{Reading, refused, sheet, is_length, read}
use Rattle.grammar.specs.Corners.{Corners}
use Rattle.language.specs.Shape.{OnBlock}
use Rattle.language.specs.Laws.Copies.{drop_leaf_id}
use Rattle.reference.specs.Walks.{is_epsilon_only, is_end}
use Rattle.reference.specs.Analysis.{Grammar, rule_with_id, grammar_of, left_corner_cycles}
use Rattle.reference.specs.Substitute.{no_hub, hub_with_arguments, satellite_not_inlinable, no_steps, not_directly_rewritable, decided}
use Rattle.reference.specs.Substitute.{declined}
use Rattle.reference.specs.Substitute.{overfull, require, found, Limits, Planned, Substituted, substitute, substitution_budget}
use Rattle.reference.specs.Plan.{choose_hub, satellite_is_inlinable, gives_hub_arguments, starts_with_hub_call, is_recursive, is_primary}
use Rattle.reference.specs.Plan.{is_fit}
use Rattle.reference.specs.Plan.{planned_hub_is_directly_rewritable, as_they_are, plan_cycle, satellites, plan_of, last_tests, substituting}
use Rattle.reference.specs.Plan.{with_rule, with_hub}
use Rattle.reference.specs.Apply.{apply_plan}
use Rattle.reference.specs.Run.{inner_depth, Stage, Search, no_plan, planned, too_large, Run, ended, preceded, search_cycles, find_plan}
use Rattle.reference.specs.Run.{refusal_of, eliminate_in_unit, eliminate_mutual_left_recursion, answer_run, answer_reading, answer_to}
use Rattle.reference.specs.Run.{are_lent}
use Rattle.reference.specs.Run.{Outcome, untouched, delivered, outcome}
use Rattle.laws.specs.Before
use Rattle.laws.specs.Demands.End.{NotEnd, NoEnd}
use Rattle.laws.specs.Lists.Lookup.{rule_with_id_lem}
use Rattle.laws.specs.Analysis.Without.{nullable_same, corners_same, cycles_same, grammar_same}
use Rattle.laws.specs.Planning.Decisions.{found_decided, require_same}
use Rattle.laws.specs.Planning.Turns.{Items, items_of, steps_move}
use Rattle.laws.specs.Planning.Loop.{substituted}
use Rattle.laws.specs.Planning.Everywhere.{On, OnAll, Copied, moves_on, start_on, left_on}
use Rattle.laws.specs.Running.Leaves.{Told}
use Rattle.laws.specs.Running.Stages.{known, valid_told, Happened, stage_made, stage_leaves, Rest, applying, turn, turns_once}
use Rattle.laws.specs.Running.OneStage.{stage_rules}
use Rattle.laws.specs.BothReadings.SameRun.{all_same, any_same, then_same}

-- Ids do not touch it, and a call is no end of input.
dropped_end : (l : Leaf) → is_end (drop_leaf_id l) ≡ is_end l
unfolding is_end
dropped_end epsilon = refl
dropped_end (action a) = refl
dropped_end (predicate p) = refl
dropped_end (call c) = refl
dropped_end (token n) = refl
dropped_end terminal = refl
dropped_end end_of_input = refl

not_end : Copied NotEnd
unfolding is_end
not_end =
    record {
      dropped = λ h l p. dropped_end l ∙ p;
      undropped = λ h l p. sym (dropped_end l) ∙ p;
      plain = λ h k. refl;
    }

behind_first : (d : ℕ) (es : Items d) → On NotEnd d es → On NotEnd d (drop 1 es)
behind_first d [] p = p
behind_first d (e ∷ es) p = p.1

module _ (c : Corners) (d : ℕ) (rs : List (RuleOf (Block (suc d)))) (g : Grammar)
    (all_on : (r : RuleOf (Block (suc d))) → Memᴰ r rs → OnBlock NotEnd (suc d) r.body) where
  -- The test of a planned list.
  module _ (cycle : List ℕ) (hub : ℕ) (ps : List (Planned d)) (p : OnAll NotEnd d (items_of d ps)) where
    items_on : (q : Planned d) → Memᴰ q ps → On NotEnd d q.elements
    items_on q m = p q.elements (in_map (λ q. q.elements) m)

    primary_same : (q : Planned d) → Memᴰ q ps
        → is_primary c g cycle hub d q.elements ≡ Before.is_primary c g cycle hub d q.elements
    unfolding is_primary Before.is_primary
    primary_same q m =
        ap (λ l. not (starts_with_hub_call g hub q.elements || meet l cycle)) (corners_same g c d q.elements (items_on q m))

    recursive_same : (q : Planned d) → Memᴰ q ps
        → is_recursive g hub d q.elements ≡ Before.is_recursive c g cycle hub d q.elements
    unfolding is_recursive Before.is_recursive
    recursive_same q m =
        ap (λ b. starts_with_hub_call g hub q.elements && not b)
        (nullable_same g d (drop 1 q.elements) (behind_first d q.elements (items_on q m)))

    test_same : planned_hub_is_directly_rewritable c g cycle hub d ps ≡ Before.planned_hub_is_directly_rewritable c g cycle hub d ps
    unfolding planned_hub_is_directly_rewritable is_fit Before.planned_hub_is_directly_rewritable Before.is_fit
    test_same =
        ap₂ ◌&&◌
        (all_same (λ q. is_fit c g cycle hub d q.elements) (λ q. Before.is_fit c g cycle hub d q.elements) ps
        (λ q m. ap₂ (λ a b. not (any (gives_hub_arguments g hub) q.elements || all is_epsilon_only q.elements) && (a || b))
        (primary_same q m) (recursive_same q m)))
        (ap₂ ◌&&◌
        (any_same (λ q. is_primary c g cycle hub d q.elements) (λ q. Before.is_primary c g cycle hub d q.elements) ps primary_same)
        (any_same (λ q. is_recursive g hub d q.elements) (λ q. Before.is_recursive c g cycle hub d q.elements) ps recursive_same))

  -- The plan for a cycle, from its last tests up.
  module _ (limits : Limits) (preserved cycle : List ℕ) where
    module _ (hub : ℕ) (r : RuleOf (Block (suc d))) (m : Memᴰ r rs) where
      tests_same : (made : Substituted d)
          → substitute d rs g cycle hub limits (substitution_budget d limits rs cycle) 0 (as_they_are r.body) ≡ decided made
          → last_tests limits c g d rs preserved cycle hub made ≡ Before.last_tests limits c g d rs preserved cycle hub made
      tests_same made s =
          let fuel = substitution_budget d limits rs cycle in
          let moves = steps_move d rs g cycle hub (substituted d rs g cycle hub limits fuel (as_they_are r.body) made s) in
          require_same no_steps (not (eqb made.steps 0)) _ _
          (ap (λ b. require not_directly_rewritable b λ _. decided (plan_of d rs cycle g preserved hub made))
          (test_same cycle hub made.alternatives (moves_on not_end all_on moves (start_on not_end d r (all_on r m)))))

      substituting_same : substituting limits c g d rs preserved cycle hub r ≡ Before.substituting limits c g d rs preserved cycle hub r
      substituting_same =
          then_same (substitute d rs g cycle hub limits (substitution_budget d limits rs cycle) 0 (as_they_are r.body))
          (last_tests limits c g d rs preserved cycle hub) (Before.last_tests limits c g d rs preserved cycle hub) tests_same

      rule_same : with_rule limits c g d rs preserved cycle hub r ≡ Before.with_rule limits c g d rs preserved cycle hub r
      rule_same =
          require_same hub_with_arguments (eqb (r.flags % 2) 0) _ _
          (require_same satellite_not_inlinable (all (satellite_is_inlinable d) (satellites d rs cycle hub)) _ _ substituting_same)

    plan_same : plan_cycle limits c g d rs preserved cycle ≡ Before.plan_cycle limits c g d rs preserved cycle
    unfolding plan_cycle Before.plan_cycle
    plan_same =
        then_same (found no_hub (choose_hub g cycle d rs preserved)) (with_hub limits c g d rs preserved cycle)
        (Before.with_hub limits c g d rs preserved cycle)
        (λ hub e.
        then_same (found no_hub (rule_with_id rs hub)) (with_rule limits c g d rs preserved cycle hub)
        (Before.with_rule limits c g d rs preserved cycle hub)
        (λ r f. rule_same hub r (rule_with_id_lem rs hub (found_decided no_hub (rule_with_id rs hub) f)).0))

-- The run.
module _ (limits : Limits) (corners : Corners) (preserved : List ℕ) where
  search_same : (g : Grammar) (rs : List Rule) → NoEnd body_depth rs → (cycles : List (List ℕ))
      → search_cycles limits corners preserved g rs cycles ≡ Before.search_cycles limits corners preserved g rs cycles
  unfolding search_cycles Before.search_cycles
  search_same g rs p [] = refl
  search_same g rs p (cycle ∷ cycles) =
      ap₂ (λ o s. elim o as (λ x. Search) [ decided plan ↦ planned cycle plan | declined c ↦ s | overfull ↦ too_large ])
      (plan_same corners inner_depth rs g p.everywhere limits preserved cycle)
      (search_same g rs p cycles)

  found_same : (rs : List Rule) → NoEnd body_depth rs → find_plan limits corners preserved rs ≡ Before.find_plan limits corners preserved rs
  unfolding find_plan Before.find_plan
  found_same rs p =
      let g = grammar_of body_depth rs in
      search_same g rs p (left_corner_cycles corners g body_depth rs)
      ∙ ap (Before.search_cycles limits corners preserved g rs) (cycles_same g corners body_depth rs p)
      ∙ ap (λ g. Before.search_cycles limits corners preserved g rs (Before.left_corner_cycles corners g body_depth rs))
      (grammar_same body_depth rs p)

  -- What a plan leaves has no end of input either.
  stage_without : {t : Stage} → Told t.before → Happened limits corners preserved t → NoEnd body_depth t.before
      → NoEnd body_depth t.after.node
  stage_without {t} k h p =
      subst (NoEnd body_depth) (stage_rules limits corners preserved k h)
      (record { everywhere = left_on not_end (known t.before k) (stage_made limits corners preserved h) h.counters p.everywhere })

  before_once : (kind turns : ℕ) (rs : List Rule) (c : Counters) (recorded : ℕ)
      → Before.eliminate_in_unit limits corners preserved kind (suc turns) rs c recorded
      ≡ turn limits corners kind preserved (Before.eliminate_in_unit limits corners preserved kind turns) rs c recorded
      (Before.find_plan limits corners preserved rs)
  unfolding Before.eliminate_in_unit
  before_once kind turns rs c recorded = refl

  run_same : (kind turns : ℕ) (rs : List Rule) → Told rs → NoEnd body_depth rs → (c : Counters) (recorded : ℕ)
      → eliminate_in_unit limits corners kind preserved turns rs c recorded
      ≡ Before.eliminate_in_unit limits corners preserved kind turns rs c recorded
  unfolding eliminate_in_unit Before.eliminate_in_unit
  run_same kind zero rs k p c recorded = refl
  run_same kind (suc turns) rs k p c recorded =
      turns_once limits corners kind preserved turns rs c recorded
      ∙ go (find_plan limits corners preserved rs) refl (run_same kind turns)
      ∙ ap (turn limits corners kind preserved was rs c recorded) (found_same rs p)
      ∙ sym (before_once kind turns rs c recorded)
    where
      is : Rest limits corners kind preserved
      is = eliminate_in_unit limits corners kind preserved turns

      was : Rest limits corners kind preserved
      was = Before.eliminate_in_unit limits corners preserved kind turns

      applied : (t : Stage) (n : ℕ) → is t.after.node t.after.counters (recorded + length t.after.entries)
          ≡ was t.after.node t.after.counters (recorded + length t.after.entries)
          → applying limits corners kind preserved is t recorded n ≡ applying limits corners kind preserved was t recorded n
      applied t zero e = ap (preceded t) e
      applied t (suc n) e = refl

      go : (o : Search) → find_plan limits corners preserved rs ≡ o
          → ((ks : List Rule) → Told ks → NoEnd body_depth ks → (c : Counters) (recorded : ℕ) → is ks c recorded ≡ was ks c recorded)
          → turn limits corners kind preserved is rs c recorded o ≡ turn limits corners kind preserved was rs c recorded o
      go no_plan f ih = refl
      go (planned cycle plan) f ih =
          let left = apply_plan inner_depth rs plan c in
          let t : Stage = record { before = rs; cycle = cycle; plan = plan; after = left } in
          let h : Happened limits corners preserved t = record { counters = c; found = f; left = refl } in
          applied t (refusal_of kind preserved left recorded)
          (ih left.node (stage_leaves limits corners preserved k h).told (stage_without k h p) left.counters
          (recorded + length left.entries))
      go too_large f ih = refl

-- The whole sheet.
sheet_same : (limits : Limits) (corners : Corners) (s : Sheet) → valid s ≡ true → NoEnd body_depth s.rules
    → eliminate_mutual_left_recursion limits corners s ≡ Before.eliminate_mutual_left_recursion limits corners s
unfolding eliminate_mutual_left_recursion Before.eliminate_mutual_left_recursion
sheet_same limits corners s v p =
    ap (λ r. elim (eqb s.kind parser) as (λ x. Run) [ true ↦ r | false ↦ ended [] ])
    (run_same limits corners s.preserved s.kind (suc (length s.rules)) s.rules (valid_told s v) p s.counters 0)

-- The whole outcome of a call, of bytes that hold such a sheet.
pub outcome_before : (limits : Limits) (corners : Corners) (bs result trail work : List ℕ) → ((i : ℕ) → get_or bs i 0 < 256)
    → ((s : Sheet) → read bs ≡ sheet s → NoEnd body_depth s.rules)
    → outcome limits corners bs result trail work ≡ Before.outcome limits corners bs result trail work
unfolding outcome answer_to answer_reading Before.outcome Before.answer_reading
outcome_before limits corners bs result trail work b p =
    ap (λ a. elim (is_length (length bs)) as (λ x. Outcome) [
      | false ↦ untouched result trail work bad_length
      | true ↦ elim (are_lent result trail work)
          [ false ↦ untouched result trail work short_buffer | true ↦ delivered result trail work a ]
    ])
    (go (read bs) refl)
  where
    go : (r : Reading) → read bs ≡ r → answer_reading limits corners r ≡ Before.answer_reading limits corners r
    go (refused n) e = refl
    go (sheet s) e = ap (answer_run s) (sheet_same limits corners s (accepted_valid newest bs b s e).0 (p s e))
