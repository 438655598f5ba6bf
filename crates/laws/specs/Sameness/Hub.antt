-- The hub that is chosen for a cycle, and what can be inlined into it, are the same under other names, told apart as before, and
-- other carried numbers.
use Prim.Native.Nat.{ℕ, suc}
use Rattle.std.specs.Prelude.{◌≡◌, ◌&&◌}
use Rattle.std.proofs.Math.Path.{refl, ap, ap₂, fun_ext}
use mathlib.Core.List.{List, [], ◌∷◌, ◌++◌, map}
use Rattle.std.proofs.Math.Option
use Rattle.std.proofs.Math.Option.{Option, none, some}
use Rattle.std.proofs.Math.Bool.{Bool, true, false, not}
use Rattle.std.proofs.Math.Dec.{eqb}
use Rattle.grammar.specs.Lists.{member, any, is_empty, keep, first}
use Rattle.grammar.specs.Numbers.{action_sort, predicate_sort}
use Rattle.grammar.specs.Tree.{ElementHead, Call, epsilon, action, predicate, call, token, terminal, end_of_input, Element, leaf, block}
use Rattle.grammar.specs.Tree.{Block, RuleOf}
use Rattle.reference.specs.Walks.{sort_of, is_one}
use Rattle.reference.specs.Analysis.{Grammar, target, rule_with_id}
use Rattle.reference.specs.Plan.{Corner, bare, outside_cycle, unusable, called_corner, classify_corner, corner_enters_cycle}
use Rattle.reference.specs.Plan.{externally_referenced, is_candidate, choose_hub, satellite_has_embedded_semantics, satellite_is_inlinable}
use Rattle.laws.specs.Lists.Mapped.{all_same, any_same}
use Rattle.laws.specs.Demands.Marks.{on_head, on_call, on_leaf, on_element, on_alternative, on_rule, on_block}
use Rattle.laws.specs.Sameness.Marked.{on_grammar, on_rules, target_on, bare_on}
use Rattle.laws.specs.Sameness.Steps.{rule_on}
use Rattle.laws.specs.Sameness.Ids.{block_ids_lem}
use Rattle.laws.specs.Sameness.Calls.{calls_kept_lem}

module _ (f r pr : ℕ → ℕ) (one : (a b : ℕ) → f a ≡ f b → a ≡ b) (d : ℕ) where
  module _ (g : Grammar) (cycle : List ℕ) where
    abbrev g' : Grammar
    g' = on_grammar f r pr one g

    -- The corner of an alternative.
    called_on : (h : ElementHead) (c : Call) (t : ℕ)
        → called_corner g' cycle (on_head f r pr h) (on_call f r pr c) t ≡ called_corner g cycle h c t
    unfolding called_corner
    called_on h c t =
        ap {B = Corner} (λ b. elim (member t cycle) as (λ x. Corner) [
          | true ↦ elim (is_one h && b) as (λ x. Corner) [ true ↦ bare | false ↦ unusable ]
          | false ↦ elim (member t g.nullable) as (λ x. Corner) [ true ↦ unusable | false ↦ outside_cycle ]
        ]) (bare_on f r pr one h c)

    classify_on : {B : Type 0} (on_b : B → B) (es : List (Element B))
        → classify_corner g' cycle (map (on_element f r pr on_b) es) ≡ classify_corner g cycle es
    unfolding classify_corner on_element on_leaf sort_of
    classify_on on_b [] = refl
    classify_on on_b (leaf h epsilon ∷ es) = classify_on on_b es
    classify_on on_b (leaf h (action a) ∷ es) = classify_on on_b es
    classify_on on_b (leaf h (predicate p) ∷ es) = classify_on on_b es
    classify_on on_b (leaf h (call c) ∷ es) =
        rw (target_on f r pr one g c.name, classify_corner)
        (ap {B = Corner} (λ (at : ℕ → Corner). elim (target g c.name) as (λ o. Corner) [ none ↦ outside_cycle | some t ↦ at t ])
        (fun_ext (called_on h c)))
    classify_on on_b (leaf h (token n) ∷ es) = refl
    classify_on on_b (leaf h terminal ∷ es) = refl
    classify_on on_b (leaf h end_of_input ∷ es) = refl
    classify_on on_b (block h b ∷ es) = refl

    enters_on : {B : Type 0} (on_b : B → B) (es : List (Element B))
        → corner_enters_cycle g' cycle (map (on_element f r pr on_b) es) ≡ corner_enters_cycle g cycle es
    unfolding corner_enters_cycle
    enters_on on_b es =
        ap {B = Bool} (λ c. elim c as (λ x. Bool) [ bare ↦ true | outside_cycle ↦ false | unusable ↦ true ]) (classify_on on_b es)

    module _ (rs : List (RuleOf (Block (suc d)))) where
      abbrev rs' : List (RuleOf (Block (suc d)))
      rs' = on_rules f r pr one (suc d) rs

      -- Who is called from outside, who is a candidate, and so who is the hub.
      external_on : externally_referenced g' cycle d rs' ≡ externally_referenced g cycle d rs
      unfolding externally_referenced
      external_on = calls_kept_lem f r pr one g (suc d) (λ q. not (member q.id cycle)) (λ q. refl) rs

      candidate_on : (i : ℕ) → is_candidate g' cycle d rs' i ≡ is_candidate g cycle d rs i
      unfolding is_candidate on_block
      candidate_on i = rw (rule_on f r pr one d rs i, is_candidate) (go (rule_with_id rs i))
        where
          -- Whether one of a rule's alternatives does not enter the cycle.
          leaves : Grammar → RuleOf (Block (suc d)) → Bool
          leaves g q = any (λ a. not (corner_enters_cycle g cycle a.elements)) q.body

          go : (x : Option (RuleOf (Block (suc d))))
              → ◌≡◌ {A = Bool}
              (elim (Option.map (on_rule f r pr (on_block f r pr (suc d))) x) as (λ y. Bool) [ none ↦ false | some q ↦ leaves g' q ])
              (elim x as (λ y. Bool) [ none ↦ false | some q ↦ leaves g q ])
          go none = refl
          go (some q) =
              any_same (on_alternative f r pr (on_block f r pr d)) (λ a. not (corner_enters_cycle g' cycle a.elements))
              (λ a. not (corner_enters_cycle g cycle a.elements)) (λ a. ap not (enters_on (on_block f r pr d) a.elements)) q.body

      pub hub_on : (preserved : List ℕ)
          → choose_hub (on_grammar f r pr one g) cycle d (on_rules f r pr one (suc d) rs) preserved ≡ choose_hub g cycle d rs preserved
      unfolding choose_hub
      hub_on preserved =
          ap₂ {C = Option ℕ} (λ (ext : List ℕ) (test : ℕ → Bool).
          let external = ext ++ preserved in
          let candidates = keep test cycle in
          elim (first (λ i. member i external) candidates) as (λ o. Option ℕ) [ some i ↦ some i | none ↦ first (λ i. true) candidates ])
          external_on (fun_ext candidate_on)

  -- A satellite can be inlined where it could.
  pub inlinable_on : (q : RuleOf (Block (suc d)))
      → satellite_is_inlinable d (on_rule f r pr (on_block f r pr (suc d)) q) ≡ satellite_is_inlinable d q
  unfolding satellite_is_inlinable satellite_has_embedded_semantics on_block
  inlinable_on q =
      ap₂ (λ a b. eqb q.flags 0 && (a && not (not (is_empty b))))
      (all_same (on_alternative f r pr (on_block f r pr d)) (λ a. eqb a.flag 0) (λ a. eqb a.flag 0) (λ a. refl) q.body)
      (ap₂ ◌++◌ (block_ids_lem f r pr action_sort (suc d) q.body) (block_ids_lem f r pr predicate_sort (suc d) q.body))
