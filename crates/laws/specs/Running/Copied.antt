-- Calls are copied: what holds of each call of a grammar holds of each call of what a run leaves of it.
use Rattle.std.specs.Prelude.{ℕ, zero, suc, ◌≡◌, refl, not}
use Rattle.std.proofs.Common.{sym, ap, ap₂, ◌∙◌, subst}
use mathlib.Core.List.Memᴰ
use mathlib.Core.List.{List, [], ◌∷◌, ◌++◌, map, flat_map, Memᴰ}
use Rattle.grammar.specs.Lists.{member, keep}
use Rattle.grammar.specs.Numbers.{alternative_sort}
use Rattle.grammar.specs.Tree.{Call, Leaf, epsilon, action, predicate, call, token, terminal, end_of_input, Element, leaf, block}
use Rattle.grammar.specs.Tree.{AlternativeOf, Block, RuleOf, Rule, Counters, Sheet}
use Rattle.grammar.specs.Corners.{Corners}
use Rattle.grammar.specs.Laws.Parse.{either}
use Rattle.reference.specs.Substitute.{Limits, plain, Planned}
use Rattle.reference.specs.Plan.{CyclePlan}
use Rattle.reference.specs.Apply.{Fresh, fresh_each, past, renumber_head, renumber_leaf, renumber_element, renumber_elements}
use Rattle.reference.specs.Apply.{renumber_alternative, renumber_block, apply_alternative, with_body, apply_plan}
use Rattle.reference.specs.Run.{inner_depth, Stage, ended, eliminate_mutual_left_recursion}
use Rattle.graph.specs.Members.{in_keep}
use Rattle.laws.specs.Demands.Conversion.{leaf_calls, element_calls, alternative_calls, block_calls, calls_in, CallsCopied}
use Rattle.laws.specs.Lists.Flat.{in_flat, flat_in}
use Rattle.laws.specs.Planning.Applied.{Alternative-holds, plan_holds}
use Rattle.laws.specs.Planning.Bodied.{Bodied, is_hub, is_other, bodied}
use Rattle.laws.specs.Planning.Chain.{FromHub, from_hub}
use Rattle.laws.specs.Running.Stages.{rules_after, sheet_after_lem, sheet_ends, stages_chain, stage_made, Chain, last, next}
use Rattle.laws.specs.Validity.Parts.{fresh_in}

-- Copies have the calls of what they copy.
flat_kept : {A B : Type 0} (g : A → Counters → Fresh A) (f : A → List B) → ((a : A) (c : Counters) → f (g a c).node ≡ f a)
    → (as' : List A) (c : Counters)
    → flat_map f (fresh_each g as' c).node ≡ flat_map f as'
unfolding fresh_each flat_map
flat_kept g f h [] c = refl
flat_kept g f h (a ∷ as') c = ap₂ ◌++◌ (h a c) (flat_kept g f h as' (g a c).counters)

copied_leaf : (l : Leaf) (c : Counters) → leaf_calls (renumber_leaf l c).node ≡ leaf_calls l
unfolding renumber_leaf leaf_calls
copied_leaf epsilon c = refl
copied_leaf (action a) c = refl
copied_leaf (predicate p) c = refl
copied_leaf (call k) c = refl
copied_leaf (token n) c = refl
copied_leaf terminal c = refl
copied_leaf end_of_input c = refl

module _ {B : Type 0} (renumber : B → Counters → Fresh B) (of_b : B → List Call)
    (h : (b : B) (c : Counters) → of_b (renumber b c).node ≡ of_b b) where
  copied_element : (e : Element B) (c : Counters) → element_calls of_b (renumber_element renumber e c).node ≡ element_calls of_b e
  unfolding renumber_element element_calls
  copied_element (leaf x l) c = copied_leaf l (renumber_head x c).counters
  copied_element (block x b) c = h b (renumber_head x c).counters

  copied_elements : (es : List (Element B)) (c : Counters)
      → flat_map (element_calls of_b) (renumber_elements renumber es c).node ≡ flat_map (element_calls of_b) es
  unfolding renumber_elements
  copied_elements = flat_kept (renumber_element renumber) (element_calls of_b) copied_element

  copied_alternative : (a : AlternativeOf B) (c : Counters)
      → alternative_calls of_b (renumber_alternative renumber a c).node ≡ alternative_calls of_b a
  unfolding renumber_alternative
  copied_alternative a c = copied_elements a.elements (past alternative_sort c)

copied_block : (d : ℕ) (b : Block d) (c : Counters) → block_calls d (renumber_block d b c).node ≡ block_calls d b
unfolding renumber_block block_calls
copied_block zero b c = absurd b
copied_block (suc d) as' c =
    flat_kept (renumber_alternative (renumber_block d)) (alternative_calls (block_calls d))
    (copied_alternative (renumber_block d) (block_calls d) (copied_block d)) as' c

-- A plan makes no calls.
module _ (P : Call → Type 0) where
  abbrev AllCalls : List Call → Type 0
  AllCalls cs = (c : Call) → Memᴰ c cs → P c

  module _ (d : ℕ) where
    abbrev Part : Element (Block d) → Type 0
    Part e = AllCalls (element_calls (block_calls d) e)

    plain_part : (e : Element (Block d)) → Part e → Part (plain e)
    unfolding plain element_calls
    plain_part (leaf h l) p = p
    plain_part (block h b) p = p

    abbrev calls_of : List (RuleOf (Block (suc d))) → List Call
    calls_of = flat_map λ r. block_calls (suc d) r.body

    module _ (rs : List (RuleOf (Block (suc d)))) (k : AllCalls (calls_of rs)) (plan : CyclePlan d) (f : FromHub d rs plan)
        (counters : Counters) where
      abbrev Fine : AlternativeOf (Block d) → Type 0
      Fine = Alternative-holds d (λ i j. Unit {0}) (λ i. Unit {0}) (λ o. Unit {0}) Part

      given : (r : RuleOf (Block (suc d))) → Memᴰ r rs → (a : AlternativeOf (Block d)) → Memᴰ a r.body → Fine a
      unfolding block_calls
      given r m a n =
          record {
            slot = tt;
            origin = tt;
            options = λ o l. tt;
            elements =
                λ e l c x. k c (in_flat (λ r. block_calls (suc d) r.body) m
                (in_flat (alternative_calls (block_calls d)) n (in_flat (element_calls (block_calls d)) l x)));
          }

      planned : (p : Planned d) → Memᴰ p plan.alternatives → AllCalls (flat_map (element_calls (block_calls d)) p.elements)
      planned p m c n =
          let (e, l, x) = flat_in (element_calls (block_calls d)) p.elements n in
          (plan_holds d (λ i j. Unit {0}) (λ i. Unit {0}) (λ o. Unit {0}) Part plain_part rs given f.there f.chain p m).elements e l c x

      made : (p : Planned d) (c : Counters)
          → alternative_calls (block_calls d) (apply_alternative d p c).node ≡ flat_map (element_calls (block_calls d)) p.elements
      unfolding apply_alternative
      made p c =
          either p.verbatim
          (λ t. rw (t, apply_alternative))
          (λ u. rw (u, apply_alternative) (copied_elements (renumber_block d) (block_calls d) (copied_block d) p.elements
          (past alternative_sort c)))

      abbrev body : Block (suc d)
      body = (fresh_each (apply_alternative d) plan.alternatives counters).node

      body_calls : AllCalls (block_calls (suc d) body)
      unfolding block_calls
      body_calls c m =
          let (a, n, x) = flat_in (alternative_calls (block_calls d)) body m in
          let (p, c₁, l, e) = fresh_in (apply_alternative d) plan.alternatives counters n in
          planned p l c (subst (Memᴰ c) (ap (alternative_calls (block_calls d)) (sym e) ∙ made p c₁) x)

      rule_calls : {r q : RuleOf (Block (suc d))} → Memᴰ r rs → Bodied d plan.hub body r q → AllCalls (block_calls (suc d) q.body)
      rule_calls m (is_hub e) c x = body_calls c x
      rule_calls {r} m is_other c x = k c (in_flat (λ r. block_calls (suc d) r.body) m x)

      plan_calls : AllCalls (calls_of (apply_plan d rs plan counters).node)
      unfolding apply_plan
      plan_calls c m =
          let joined = map (with_body d plan.hub body) rs in
          let kept = keep (λ r. not (member r.id plan.removable)) joined in
          let (q, n, x) = flat_in (λ r. block_calls (suc d) r.body) kept m in
          let (l, t) = in_keep (λ r. not (member r.id plan.removable)) joined n in
          let (r, here, e) = Memᴰ.of_map (with_body d plan.hub body) rs l in
          rule_calls here (subst (Bodied d plan.hub body r) e (bodied d plan.hub body r)) c x

  chain_calls : (limits : Limits) (corners : Corners) (preserved : List ℕ) {rs : List Rule} {ts : List Stage}
      → Chain limits corners preserved rs ts → AllCalls (calls_in rs) → AllCalls (calls_in (rules_after rs ts))
  chain_calls limits corners preserved last k = k
  chain_calls limits corners preserved (next {t = t} e h c) k =
      let f = from_hub inner_depth t.before (stage_made limits corners preserved h) in
      chain_calls limits corners preserved c
      (subst (λ x. AllCalls (calls_in x.node)) (sym h.left)
      (plan_calls inner_depth t.before (subst (λ rs. AllCalls (calls_in rs)) (sym e) k) t.plan f h.counters))

pub calls_copied_lem : (limits : Limits) (corners : Corners) (s : Sheet) (ts : List Stage)
    → eliminate_mutual_left_recursion limits corners s ≡ ended ts → CallsCopied s ts
calls_copied_lem limits corners s ts run =
    record {
      copied = λ c m.
          chain_calls (λ c. Memᴰ c (calls_in s.rules)) limits corners s.preserved
          (stages_chain limits corners s.kind s.preserved (sheet_ends limits corners s ts run).0) (λ c n. n) c
          (subst (λ rs. Memᴰ c (calls_in rs)) (sheet_after_lem s ts) m);
    }
