-- On sheets without a symbol of quantifier 1 to 4 both readings of left corners give the same run, and the same outcome.
use Prim.Native.Nat.{ℕ, zero, suc, ◌+◌, ◌%◌, ◌<◌}
use Rattle.std.specs.Prelude.{◌≡◌, Bool, true, false, length, get_or, eqb}
use Rattle.std.proofs.Math.Path.{refl, sym, ap, ap₂}
use Rattle.std.proofs.Common.{◌∙◌, subst, true≢false}
use mathlib.Core.List.{List, [], ◌∷◌, map, Memᴰ}
use Rattle.std.proofs.Math.Option.{Option, none, some}
use Rattle.std.proofs.Math.Bool.{◌&&◌, ◌||◌, not}
use Rattle.grammar.specs.Form.{newest}
use Rattle.grammar.specs.Laws.Lists.{in_map}
use Rattle.grammar.specs.Tree.{ElementHead, Leaf, epsilon, action, predicate, call, token, terminal, end_of_input, Block, RuleOf, Rule}
use Rattle.grammar.specs.Tree.{body_depth, Counters, Sheet}
use Rattle.grammar.specs.Lists.{all, any, meet, sorted}
use Rattle.grammar.specs.Valid.{valid}
use Rattle.grammar.specs.Reading.{Reading, refused, sheet, is_length, read}
use Rattle.language.specs.Shape.{Shape, Shapes, find, erase_rules, OnBlock}
use Rattle.grammar.specs.Corners.{Corners, rust, textbook}
use Rattle.language.specs.LeftCorners.{is_missing, is_token, is_terminal, unknown_name}
use Rattle.grammar.specs.Laws.Codec.{accepted_valid}
use Rattle.grammar.specs.Numbers.{parser, bad_length, short_buffer}
use Rattle.reference.specs.Walks.{is_epsilon_only}
use Rattle.reference.specs.Analysis.{Grammar, target, ids_of, rule_with_id, grammar_of, nullable_rules, reach, cycles_from, row_of}
use Rattle.reference.specs.Analysis.{left_corner_cycles}
use Rattle.reference.specs.Substitute.{no_hub, hub_with_arguments, satellite_not_inlinable, no_steps, not_directly_rewritable, Decided}
use Rattle.reference.specs.Substitute.{decided}
use Rattle.reference.specs.Substitute.{declined, overfull, ◌and_then◌, require, found, Limits, Planned, Substituted, substitute}
use Rattle.reference.specs.Substitute.{substitution_budget}
use Rattle.reference.specs.Plan.{CyclePlan, choose_hub, satellite_is_inlinable, gives_hub_arguments, starts_with_hub_call, is_recursive}
use Rattle.reference.specs.Plan.{is_primary}
use Rattle.reference.specs.Plan.{is_fit, planned_hub_is_directly_rewritable, as_they_are, plan_cycle}
use Rattle.reference.specs.Plan.{satellites, plan_of, last_tests, substituting, with_rule, with_hub}
use Rattle.reference.specs.Apply.{apply_plan}
use Rattle.reference.specs.Run.{inner_depth, Stage, Search, no_plan, planned, too_large, Run, ended, preceded, search_cycles, find_plan}
use Rattle.reference.specs.Run.{refusal_of, eliminate_in_unit, eliminate_mutual_left_recursion, answer_run, answer_reading, answer_to}
use Rattle.reference.specs.Run.{are_lent}
use Rattle.reference.specs.Run.{Outcome, untouched, delivered, outcome}
use Rattle.laws.specs.Demands.Shape.{NotOptional, NoOptionalSymbol}
use Rattle.laws.specs.Running.Leaves.{Told}
use Rattle.laws.specs.Analysis.Names.{is_unknown, looked, looked_alike}
use Rattle.laws.specs.Lists.Lookup.{rule_with_id_lem}
use Rattle.laws.specs.Planning.Decisions.{found_decided, require_same}
use Rattle.laws.specs.Planning.Turns.{items_of, steps_move}
use Rattle.laws.specs.Planning.Loop.{substituted}
use Rattle.laws.specs.Planning.Substituted.{Known}
use Rattle.laws.specs.Planning.Plans.{Made}
use Rattle.laws.specs.Planning.OnePlan.{gone, rules_left, left_closed, left_known}
use Rattle.laws.specs.Planning.Everywhere.{OnAll, moves_on, start_on, left_on}
use Rattle.laws.specs.BothReadings.Symbols.{OnCall, corners_same, left_same, block_both, block_called, not_optional}
use Rattle.laws.specs.Running.Stages.{known, valid_told, Happened, stage_made, stage_leaves, Rest, applying, turn, turns_once}
use Rattle.laws.specs.Running.OneStage.{stage_rules}

-- What is the same of each item is the same of the list.
module _ {A : Type 0} where
  pub map_same : {B : Type 0} (f k : A → B) (as' : List A) → ((a : A) → Memᴰ a as' → f a ≡ k a) → map f as' ≡ map k as'
  map_same f k [] h = refl
  map_same f k (a ∷ as') h = ap₂ ◌∷◌ (h a (Memᴰ.head refl)) (map_same f k as' (λ b m. h b (Memᴰ.tail m)))

  pub all_same : (f k : A → Bool) (as' : List A) → ((a : A) → Memᴰ a as' → f a ≡ k a) → all f as' ≡ all k as'
  unfolding all
  all_same f k [] h = refl
  all_same f k (a ∷ as') h = ap₂ ◌&&◌ (h a (Memᴰ.head refl)) (all_same f k as' (λ b m. h b (Memᴰ.tail m)))

  pub any_same : (f k : A → Bool) (as' : List A) → ((a : A) → Memᴰ a as' → f a ≡ k a) → any f as' ≡ any k as'
  unfolding any
  any_same f k [] h = refl
  any_same f k (a ∷ as') h = ap₂ ◌||◌ (h a (Memᴰ.head refl)) (any_same f k as' (λ b m. h b (Memᴰ.tail m)))

pub then_same : {A B : Type 0} (x : Decided A) (f k : A → Decided B) → ((a : A) → x ≡ decided a → f a ≡ k a)
    → (x and_then f) ≡ (x and_then k)
then_same (decided a) f k h = h a refl
then_same (declined c) f k h = refl
then_same overfull f k h = refl

module _ (d : ℕ) (rs : List (RuleOf (Block (suc d)))) (g : Grammar) (G : Shapes)
    (known : (n : ℕ) → is_missing (find G n) ≡ is_unknown (target g n))
    (all_on : (r : RuleOf (Block (suc d))) → Memᴰ r rs → OnBlock (NotOptional G) (suc d) r.body) where
  -- The cycles.
  cycles_same : left_corner_cycles rust g (suc d) rs ≡ left_corner_cycles textbook g (suc d) rs
  unfolding left_corner_cycles
  cycles_same =
      ap (λ rows. cycles_from (reach rows) (sorted (ids_of rs)))
      (map_same (row_of rust g (suc d)) (row_of textbook g (suc d)) rs
      (λ r m. ap (λ t. record { id = r.id; to = t }) (corners_same g G known (suc d) r.body (all_on r m))))

  -- The test of a planned list.
  module _ (cycle : List ℕ) (hub : ℕ) (ps : List (Planned d)) (p : OnAll (NotOptional G) d (items_of d ps)) where
    primary_same : (q : Planned d) → Memᴰ q ps
        → is_primary rust g cycle hub d q.elements ≡ is_primary textbook g cycle hub d q.elements
    unfolding is_primary
    primary_same q m =
        ap (λ l. not (starts_with_hub_call g hub q.elements || meet l cycle))
        (left_same g G known d q.elements (p q.elements (in_map (λ q. q.elements) m)))

    test_same : planned_hub_is_directly_rewritable rust g cycle hub d ps ≡ planned_hub_is_directly_rewritable textbook g cycle hub d ps
    unfolding planned_hub_is_directly_rewritable is_fit
    test_same =
        ap₂ (λ a b. a && (b && any (λ q. is_recursive g hub d q.elements) ps))
        (all_same (λ q. is_fit rust g cycle hub d q.elements) (λ q. is_fit textbook g cycle hub d q.elements) ps
        (λ q m. ap (λ b. not (any (gives_hub_arguments g hub) q.elements || all is_epsilon_only q.elements)
        && (b || is_recursive g hub d q.elements)) (primary_same q m)))
        (any_same (λ q. is_primary rust g cycle hub d q.elements) (λ q. is_primary textbook g cycle hub d q.elements) ps primary_same)

  -- The plan for a cycle, from its last tests up.
  module _ (limits : Limits) (preserved cycle : List ℕ) where
    module _ (hub : ℕ) (r : RuleOf (Block (suc d))) (m : Memᴰ r rs) where
      tests_same : (made : Substituted d)
          → substitute d rs g cycle hub limits (substitution_budget d limits rs cycle) 0 (as_they_are r.body) ≡ decided made
          → last_tests limits rust g d rs preserved cycle hub made ≡ last_tests limits textbook g d rs preserved cycle hub made
      tests_same made s =
          let fuel = substitution_budget d limits rs cycle in
          let moves = steps_move d rs g cycle hub (substituted d rs g cycle hub limits fuel (as_they_are r.body) made s) in
          require_same no_steps (not (eqb made.steps 0)) _ _
          (ap (λ b. require not_directly_rewritable b λ _. decided (plan_of d rs cycle g preserved hub made))
          (test_same cycle hub made.alternatives (moves_on (not_optional G) all_on moves (start_on (not_optional G) d r (all_on r m)))))

      substituting_same : substituting limits rust g d rs preserved cycle hub r ≡ substituting limits textbook g d rs preserved cycle hub r
      substituting_same =
          then_same (substitute d rs g cycle hub limits (substitution_budget d limits rs cycle) 0 (as_they_are r.body))
          (last_tests limits rust g d rs preserved cycle hub) (last_tests limits textbook g d rs preserved cycle hub) tests_same

      rule_same : with_rule limits rust g d rs preserved cycle hub r ≡ with_rule limits textbook g d rs preserved cycle hub r
      rule_same =
          require_same hub_with_arguments (eqb (r.flags % 2) 0) _ _
          (require_same satellite_not_inlinable (all (satellite_is_inlinable d) (satellites d rs cycle hub)) _ _ substituting_same)

    plan_same : plan_cycle limits rust g d rs preserved cycle ≡ plan_cycle limits textbook g d rs preserved cycle
    unfolding plan_cycle
    plan_same =
        then_same (found no_hub (choose_hub g cycle d rs preserved)) (with_hub limits rust g d rs preserved cycle)
        (with_hub limits textbook g d rs preserved cycle)
        (λ hub e.
        then_same (found no_hub (rule_with_id rs hub)) (with_rule limits rust g d rs preserved cycle hub)
        (with_rule limits textbook g d rs preserved cycle hub)
        (λ r f. rule_same hub r (rule_with_id_lem rs hub (found_decided no_hub (rule_with_id rs hub) f)).0))

-- What a plan leaves has no such symbol either.
module _ {c : Corners} {d : ℕ} {rs : List (RuleOf (Block (suc d)))} {g : Grammar} (k : Known (suc d) rs g) {preserved cycle : List ℕ}
    {plan : CyclePlan d}
    (x : Made c d rs g preserved cycle plan) (counters : Counters)
    (all_on : (r : RuleOf (Block (suc d))) → Memᴰ r rs → OnBlock (NotOptional (erase_rules (suc d) rs)) (suc d) r.body) where
  abbrev now : Shapes
  now = erase_rules (suc d) rs

  abbrev then : Shapes
  then = erase_rules (suc d) (rules_left k x counters)

  missing : (o p : Option Shape) → is_missing o ≡ is_missing p → o ≡ none → p ≡ none
  missing o none e f = refl
  missing o (some b) e f = absurd (true≢false (sym (ap is_missing f) ∙ e))

  still_plain : (h : ElementHead) (l : Leaf) → NotOptional now h l → OnCall (λ n. gone k x counters n ≡ false) h l → NotOptional then h l
  still_plain h epsilon p s y = elim y [ ]
  still_plain h (action a) p s y = elim y [ ]
  still_plain h (predicate q) p s y = elim y [ ]
  still_plain h (token n) p s is_token = p is_token
  still_plain h terminal p s is_terminal = p is_terminal
  still_plain h (call c) p s (unknown_name e) =
      p (unknown_name (missing (find then c.name) (find now c.name) (left_known k x counters c.name s) e))
  still_plain h end_of_input p s y = elim y [ ]

  left_plain : (q : RuleOf (Block (suc d))) → Memᴰ q (rules_left k x counters) → OnBlock (NotOptional then) (suc d) q.body
  left_plain q m =
      block_both still_plain (suc d) q.body (left_on (not_optional now) k x counters all_on q m)
      (block_called (λ n. gone k x counters n ≡ false) (suc d) q.body (left_closed k x counters m))

-- The run.
module _ (limits : Limits) (preserved : List ℕ) where
  names_known : (rs : List Rule) (n : ℕ)
      → is_missing (find (erase_rules body_depth rs) n) ≡ is_unknown (target (grammar_of body_depth rs) n)
  unfolding grammar_of
  names_known rs n = looked_alike (looked body_depth rs (nullable_rules body_depth rs) n)

  search_same : (rs : List Rule) → NoOptionalSymbol rs → (cycles : List (List ℕ))
      → search_cycles limits rust preserved (grammar_of body_depth rs) rs cycles
      ≡ search_cycles limits textbook preserved (grammar_of body_depth rs) rs cycles
  unfolding search_cycles
  search_same rs p [] = refl
  search_same rs p (cycle ∷ cycles) =
      ap₂ (λ o s. elim o as (λ x. Search) [ decided plan ↦ planned cycle plan | declined c ↦ s | overfull ↦ too_large ])
      (plan_same inner_depth rs (grammar_of body_depth rs) (erase_rules body_depth rs) (names_known rs) p.everywhere limits preserved cycle)
      (search_same rs p cycles)

  found_same : (rs : List Rule) → NoOptionalSymbol rs → find_plan limits rust preserved rs ≡ find_plan limits textbook preserved rs
  unfolding find_plan
  found_same rs p =
      search_same rs p (left_corner_cycles rust (grammar_of body_depth rs) body_depth rs)
      ∙ ap (search_cycles limits textbook preserved (grammar_of body_depth rs) rs)
      (cycles_same inner_depth rs (grammar_of body_depth rs) (erase_rules body_depth rs) (names_known rs) p.everywhere)

  stage_plain : {t : Stage} → Told t.before → Happened limits rust preserved t → NoOptionalSymbol t.before
      → NoOptionalSymbol t.after.node
  stage_plain {t} k h p =
      subst NoOptionalSymbol (stage_rules limits rust preserved k h)
      (record { everywhere = left_plain (known t.before k) (stage_made limits rust preserved h) h.counters p.everywhere })

  pub run_same : (kind turns : ℕ) (rs : List Rule) → Told rs → NoOptionalSymbol rs → (c : Counters) (recorded : ℕ)
      → eliminate_in_unit limits rust kind preserved turns rs c recorded
      ≡ eliminate_in_unit limits textbook kind preserved turns rs c recorded
  unfolding eliminate_in_unit
  run_same kind zero rs k p c recorded = refl
  run_same kind (suc turns) rs k p c recorded =
      turns_once limits rust kind preserved turns rs c recorded
      ∙ go (find_plan limits rust preserved rs) refl (run_same kind turns)
      ∙ ap (turn limits textbook kind preserved (after textbook) rs c recorded) (found_same rs p)
      ∙ sym (turns_once limits textbook kind preserved turns rs c recorded)
    where
      after : (o : Corners) → Rest limits o kind preserved
      after o = eliminate_in_unit limits o kind preserved turns

      applied : (t : Stage) (n : ℕ) → after rust t.after.node t.after.counters (recorded + length t.after.entries)
          ≡ after textbook t.after.node t.after.counters (recorded + length t.after.entries)
          → applying limits rust kind preserved (after rust) t recorded n
          ≡ applying limits textbook kind preserved (after textbook) t recorded n
      applied t zero e = ap (preceded t) e
      applied t (suc n) e = refl

      go : (o : Search) → find_plan limits rust preserved rs ≡ o
          → ((ks : List Rule) → Told ks → NoOptionalSymbol ks → (c : Counters) (recorded : ℕ)
          → after rust ks c recorded ≡ after textbook ks c recorded)
          → turn limits rust kind preserved (after rust) rs c recorded o
          ≡ turn limits textbook kind preserved (after textbook) rs c recorded o
      go no_plan f ih = refl
      go (planned cycle plan) f ih =
          let left = apply_plan inner_depth rs plan c in
          let t : Stage = record { before = rs; cycle = cycle; plan = plan; after = left } in
          let h : Happened limits rust preserved t = record { counters = c; found = f; left = refl } in
          applied t (refusal_of kind preserved left recorded)
          (ih left.node (stage_leaves limits rust preserved k h).told (stage_plain k h p) left.counters
          (recorded + length left.entries))
      go too_large f ih = refl

-- The whole sheet.
pub sheet_same : (limits : Limits) (s : Sheet) → valid s ≡ true → NoOptionalSymbol s.rules
    → eliminate_mutual_left_recursion limits rust s ≡ eliminate_mutual_left_recursion limits textbook s
unfolding eliminate_mutual_left_recursion
sheet_same limits s v p =
    ap (λ r. elim (eqb s.kind parser) as (λ x. Run) [ true ↦ r | false ↦ ended [] ])
    (run_same limits s.preserved s.kind (suc (length s.rules)) s.rules (valid_told s v) p s.counters 0)

-- The whole outcome of a call, of bytes that hold such a sheet.
pub outcome_same : (limits : Limits) (bs result trail work : List ℕ) → ((i : ℕ) → get_or bs i 0 < 256)
    → ((s : Sheet) → read bs ≡ sheet s → NoOptionalSymbol s.rules)
    → outcome limits rust bs result trail work ≡ outcome limits textbook bs result trail work
unfolding outcome answer_to answer_reading
outcome_same limits bs result trail work b p =
    ap (λ a. elim (is_length (length bs)) as (λ x. Outcome) [
      | false ↦ untouched result trail work bad_length
      | true ↦ elim (are_lent result trail work)
          [ false ↦ untouched result trail work short_buffer | true ↦ delivered result trail work a ]
    ])
    (go (read bs) refl)
  where
    go : (r : Reading) → read bs ≡ r → answer_reading limits rust r ≡ answer_reading limits textbook r
    go (refused n) e = refl
    go (sheet s) e = ap (answer_run s) (sheet_same limits s (accepted_valid newest bs b s e).0 (p s e))
