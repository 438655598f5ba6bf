-- One applied plan keeps a grammar valid: its new ids are fresh, and nothing else is new.
use Rattle.std.specs.Prelude.{ℕ, suc, ◌+◌, ◌≤◌, ◌<◌, ◌≡◌, true, not, length, leb, ltb, eqb}
use Rattle.std.proofs.Math.Path.{refl, subst}
use Rattle.std.proofs.Common.{sym, ap, ◌∙◌, ⊎_elim, arith, ltb-true, ltb-false}
use mathlib.Core.List.Memᴰ
use mathlib.Core.List.{List, ◌∷◌, ◌++◌, map, Memᴰ}
use Rattle.std.proofs.lemmas.List.{length-map}
use Rattle.std.proofs.lemmas.Bool.{and_from}
use Rattle.std.specs.Cmp.{first_so, second_so}
use Rattle.grammar.specs.Laws.Lists.{in_map}
use Rattle.grammar.specs.Tree.{Element, AlternativeOf, Block, RuleOf, Counters}
use Rattle.grammar.specs.Lists.{each, member, distinct, only, all, keep}
use Rattle.grammar.specs.Ids.{element_ids, alternative_ids, block_ids}
use Rattle.grammar.specs.Read.{is_name}
use Rattle.grammar.specs.Valid.{ok_option, ok_element, ok_alternative, ok_rule, ok_block, ok_alternative_in, ok_block_in}
use Rattle.grammar.specs.Laws.Parse.{either}
use Rattle.grammar.specs.Numbers.{word_end, rule_limit, most_rule_flags, most_alternative_flag, alternative_sort}
use Rattle.language.specs.Laws.Copies.{map_unseen}
use Rattle.reference.specs.Substitute.{Planned}
use Rattle.reference.specs.Plan.{CyclePlan}
use Rattle.reference.specs.Apply.{Fresh, fresh_each, past, renumber_elements, renumber_block, apply_alternative, with_body, apply_plan}
use Rattle.laws.specs.Lists.Lookup.{all_in}
use Rattle.graph.specs.Members.{in_keep, in_each, one_with, keep_is_part, part_map, each_in}
use Rattle.graph.specs.Fixpoint.{part_length}
use Rattle.laws.specs.Lists.Every.{in_all}
use Rattle.laws.specs.Lists.Count.{count, count_in, distinct_count, between, between_most, between_low, between_high}
use Rattle.laws.specs.Lists.Count.{part_distinct}
use Rattle.laws.specs.Demands.Applied.{Sort, of_alternative, number, counter_at}
use Rattle.laws.specs.Provenance.Trail.{Trail, t_end, t_rule, trail_append, trail_up, trail_count}
use Rattle.laws.specs.Planning.Bodied.{Bodied, is_hub, is_other, bodied, with_id, with_name}
use Rattle.laws.specs.Planning.Chain.{FromHub}
use Rattle.laws.specs.Validity.Wordy.{option_words, element_words, alternative_words, block_words}
use Rattle.laws.specs.Validity.Kept.{ok_elements, ok_block_lem, words_elements, words_block}
use Rattle.laws.specs.Planning.Applied.{Planned-holds, Alternative-holds, plan_holds, plan_untouched, Planned-below, applied_trail}
use Rattle.laws.specs.Planning.Applied.{applied_ids}
use Rattle.laws.specs.Validity.Parts.{ids_in, keep_count, one_hub, fresh_in, Slot, Choice, Part, plain_part}

-- A valid grammar whose copied numbers are words.
pub record Sound (d : ℕ) (c : Counters) (rs : List (RuleOf (Block d))) : Type 0 where
  pub few : length rs ≤ rule_limit
  pub ids : distinct (map (λ r. r.id) rs) ≡ true
  pub names : distinct (map (λ r. r.name) rs) ≡ true
  pub rules : all (ok_rule (ok_block d)) rs ≡ true
  pub once : (s : Sort) (x : ℕ) → count x (ids_in d (number s) rs) ≤ 1
  pub under : (s : Sort) (x : ℕ) → counter_at s c ≤ x → count x (ids_in d (number s) rs) ≡ 0
  pub rule_words : (r : RuleOf (Block d)) → Memᴰ r rs → r.id < word_end
  pub body_words : (r : RuleOf (Block d)) → Memᴰ r rs → (w : ℕ) → Memᴰ w (block_words d r.body) → w < word_end

pub sound_below : {d : ℕ} {c : Counters} {rs : List (RuleOf (Block d))} → Sound d c rs → (s : Sort) (i : ℕ)
    → Memᴰ i (ids_in d (number s) rs) → i < counter_at s c
sound_below {c = c} h s i m =
    either (ltb i (counter_at s c)) (ltb-true i (counter_at s c))
    (λ f. let e = h.under s i (ltb-false i (counter_at s c) f) in let k = count_in i m in absurd (omega arith))

module _ (d : ℕ) (c : Counters) where
  -- All that is known of a planned alternative.
  abbrev Fine : Planned d → Type 0
  Fine = Planned-holds d Slot (λ i. i < c.alternative) Choice (Part d c)

  alternative_fine : (a : AlternativeOf (Block d)) → ok_alternative (ok_block d) a ≡ true
      → ((w : ℕ) → Memᴰ w (alternative_words (block_words d) a) → w < word_end)
      → ((s : Sort) (i : ℕ) → Memᴰ i (alternative_ids (number s) (block_ids (number s) d) a) → i < counter_at s c)
      → Alternative-holds d Slot (λ i. i < c.alternative) Choice (Part d c) a
  unfolding ok_alternative_in alternative_words alternative_ids
  alternative_fine a t w i =
      let u = second_so (leb a.flag most_alternative_flag) _ t in
      record {
        slot = (first_so (leb a.flag most_alternative_flag) _ t, w a.carried (Memᴰ.head refl));
        origin = i of_alternative a.id (Memᴰ.head refl);
        options = λ o m. (
          all_in ok_option (first_so (all ok_option a.options) _ u) m,
          w o.value (Memᴰ.tail (Memᴰ.append_left (each (element_words (block_words d)) a.elements) (in_map (λ o. o.value) m))),
        );
        elements = λ e m. record {
          ok = all_in (ok_element (ok_block d)) (second_so (all ok_option a.options) _ u) m;
          words = λ x k. w x (Memᴰ.tail (Memᴰ.append_right (option_words a.options) (in_each (element_words (block_words d)) m k)));
          ids =
              λ s x k. i s x (Memᴰ.append_right (only (eqb (number s) alternative_sort) a.id)
              (in_each (element_ids (number s) (block_ids (number s) d)) m k));
        };
      }

  module _ (p : Planned d) (h : Fine p) where
    -- Its elements.
    elements_ok : all (ok_element (ok_block d)) p.elements ≡ true
    elements_ok = in_all (ok_element (ok_block d)) p.elements λ e m. (h.elements e m).ok

    elements_words : (w : ℕ) → Memᴰ w (each (element_words (block_words d)) p.elements) → w < word_end
    elements_words w m = let (e, k, l) = each_in (element_words (block_words d)) p.elements m in (h.elements e k).words w l

    fine_below : Planned-below d c p
    fine_below =
        record {
          origin = h.origin;
          inside =
              λ s i m. let (e, k, l) = each_in (element_ids (number s) (block_ids (number s) d)) p.elements m in (h.elements e k).ids s i
              l;
        }

    -- The alternative that it becomes.
    made_ok : (c₁ : Counters) → ok_alternative (ok_block d) (apply_alternative d p c₁).node ≡ true
    unfolding apply_alternative ok_alternative_in
    made_ok c₁ =
        let o = in_all ok_option p.options λ o m. (h.options o m).0 in
        either p.verbatim
        (λ t. rw (t, apply_alternative) (and_from _ _ h.slot.0 (and_from _ _ o elements_ok)))
        (λ f. rw (f, apply_alternative) (and_from _ _ h.slot.0
        (and_from _ _ o (ok_elements (renumber_block d) (ok_block d) (ok_block_lem d) p.elements (past alternative_sort c₁)
        ∙ elements_ok))))

    parts_words : (es : List (Element (Block d)))
        → each (element_words (block_words d)) es ≡ each (element_words (block_words d)) p.elements
        → (w : ℕ) → Memᴰ w (p.carried ∷ (option_words p.options ++ each (element_words (block_words d)) es)) → w < word_end
    parts_words es e w (Memᴰ.head q) = let x = h.slot.1 in omega arith
    parts_words es e w (Memᴰ.tail m) =
        ⊎_elim (λ n. let (o, k, q) = Memᴰ.of_map (λ o. o.value) p.options n in let x = (h.options o k).1 in omega arith)
        (λ n. elements_words w (subst (Memᴰ w) e n))
        (Memᴰ.append_cases (option_words p.options) m)

    made_words : (c₁ : Counters) (w : ℕ) → Memᴰ w (alternative_words (block_words d) (apply_alternative d p c₁).node) → w < word_end
    unfolding apply_alternative alternative_words
    made_words c₁ w =
        either p.verbatim
        (λ t. rw (t, apply_alternative) (parts_words p.elements refl w))
        (λ f. rw (f, apply_alternative) (parts_words (renumber_elements (renumber_block d) p.elements (past alternative_sort c₁)).node
        (words_elements (renumber_block d) (block_words d) (words_block d) p.elements (past alternative_sort c₁)) w))

module _ (d : ℕ) (c : Counters) (rs : List (RuleOf (Block (suc d)))) (h : Sound (suc d) c rs) (plan : CyclePlan d)
    (f : FromHub d rs plan) where
  given : (r : RuleOf (Block (suc d))) → Memᴰ r rs → (a : AlternativeOf (Block d)) → Memᴰ a r.body
      → Alternative-holds d Slot (λ i. i < c.alternative) Choice (Part d c) a
  unfolding ok_rule ok_block_in block_words block_ids
  given r m a k =
      let t =
      second_so (leb r.flags most_rule_flags) _ (second_so (is_name r.name) _ (all_in (ok_rule (ok_block (suc d))) h.rules m)) in
      alternative_fine d c a (all_in (ok_alternative (ok_block d)) t k)
      (λ w l. h.body_words r m w (in_each (alternative_words (block_words d)) k l))
      (λ s i l. sound_below h s i (in_each (λ r. block_ids (number s) (suc d) r.body) m
      (in_each (alternative_ids (number s) (block_ids (number s) d)) k l)))

  planned : (p : Planned d) → Memᴰ p plan.alternatives → Fine d c p
  planned = plan_holds d Slot (λ i. i < c.alternative) Choice (Part d c) (plain_part d c) rs given f.there f.chain

  abbrev made : Fresh (List (AlternativeOf (Block d)))
  made = fresh_each (apply_alternative d) plan.alternatives c

  made_trail : Trail c made.entries made.counters
  made_trail = applied_trail d plan.alternatives c (λ p m. fine_below d c p (planned p m))

  body_ok : ok_block (suc d) made.node ≡ true
  unfolding ok_block_in
  body_ok =
      in_all (ok_alternative (ok_block d)) made.node λ a m.
      let (p, c₁, k, e) = fresh_in (apply_alternative d) plan.alternatives c m in
      subst (λ x. ok_alternative (ok_block d) x ≡ true) e (made_ok d c p (planned p k) c₁)

  body_words_lem : (w : ℕ) → Memᴰ w (block_words (suc d) made.node) → w < word_end
  unfolding block_words
  body_words_lem w m =
      let (a, k, l) = each_in (alternative_words (block_words d)) made.node m in
      let (p, c₁, n, e) = fresh_in (apply_alternative d) plan.alternatives c k in
      made_words d c p (planned p n) c₁ w (subst (λ x. Memᴰ w (alternative_words (block_words d) x)) (sym e) l)

  -- The ids of the new body: some of the hub's, and fresh ones.
  body_count : (s : Sort) (x : ℕ) → count x (block_ids (number s) (suc d) made.node)
      ≤ count x (block_ids (number s) (suc d) f.rule.body) + between (counter_at s c) (counter_at s made.counters) x
  body_count s x =
      let a = applied_ids d (number s) x plan.alternatives c in
      let b = plan_untouched d rs (number s) x f.rule.body f.chain in
      let e = trail_count made_trail s x in
      omega arith

  -- The rules after the plan, before and after removal.
  abbrev joined : List (RuleOf (Block (suc d)))
  joined = map (with_body d plan.hub made.node) rs

  abbrev result : List (RuleOf (Block (suc d)))
  result = keep (λ r. not (member r.id plan.removable)) joined

  result_count : (s : Sort) (x : ℕ) → count x (ids_in (suc d) (number s) result) ≤ count x (ids_in (suc d) (number s) rs)
      + between (counter_at s c) (counter_at s made.counters) x
  result_count s x =
      let a = keep_count (λ r. not (member r.id plan.removable)) (λ r. block_ids (number s) (suc d) r.body) x joined in
      let b =
      one_hub d plan.hub made.node (number s) x (between (counter_at s c) (counter_at s made.counters) x) rs
      (distinct_count (map (λ r. r.id) rs) h.ids plan.hub)
      (λ r m e. subst (λ q. count x (block_ids (number s) (suc d) made.node) ≤ count x (block_ids (number s) (suc d) q.body)
      + between (counter_at s c) (counter_at s made.counters) x) (one_with (λ r. r.id) rs h.ids f.there m (f.id ∙ sym e))
      (body_count s x)) in
      omega arith

  result_in : {q : RuleOf (Block (suc d))} → Memᴰ q result
      → (r : RuleOf (Block (suc d))) × Memᴰ r rs × Bodied d plan.hub made.node r q
  result_in m =
      let (k, t) = in_keep (λ r. not (member r.id plan.removable)) joined m in
      let (r, n, e) = Memᴰ.of_map (with_body d plan.hub made.node) rs k in
      (r, n, subst (Bodied d plan.hub made.node r) e (bodied d plan.hub made.node r))

  rule_ok : {r q : RuleOf (Block (suc d))} → Memᴰ r rs → Bodied d plan.hub made.node r q → ok_rule (ok_block (suc d)) q ≡ true
  unfolding ok_rule
  rule_ok {r} m (is_hub e) =
      let t = all_in (ok_rule (ok_block (suc d))) h.rules m in
      let u = second_so (is_name r.name) _ t in
      and_from _ _ (first_so (is_name r.name) _ t) (and_from _ _ (first_so (leb r.flags most_rule_flags) _ u) body_ok)
  rule_ok m is_other = all_in (ok_rule (ok_block (suc d))) h.rules m

  rule_word : {r q : RuleOf (Block (suc d))} → Memᴰ r rs → Bodied d plan.hub made.node r q → q.id < word_end
  rule_word {r} m (is_hub e) = h.rule_words r m
  rule_word {r} m is_other = h.rule_words r m

  rule_words_lem : {r q : RuleOf (Block (suc d))} → Memᴰ r rs → Bodied d plan.hub made.node r q → (w : ℕ)
      → Memᴰ w (block_words (suc d) q.body) → w < word_end
  rule_words_lem m (is_hub e) w k = body_words_lem w k
  rule_words_lem {r} m is_other w k = h.body_words r m w k

  result_sound : Sound (suc d) made.counters result
  result_sound =
      let part = keep_is_part (λ r. not (member r.id plan.removable)) joined in
      record {
        few = (let a = part_length part in let b = length-map rs (with_body d plan.hub made.node) in let k = h.few in omega arith);
        ids =
            part_distinct (part_map (λ r. r.id) part)
            (ap distinct (map_unseen (with_body d plan.hub made.node) (λ r. r.id) (with_id d plan.hub made.node) rs) ∙ h.ids);
        names =
            part_distinct (part_map (λ r. r.name) part)
            (ap distinct (map_unseen (with_body d plan.hub made.node) (λ r. r.name) (with_name d plan.hub made.node) rs)
            ∙ h.names);
        rules = in_all (ok_rule (ok_block (suc d))) result λ q m. let (r, k, e) = result_in m in rule_ok k e;
        once = λ s x.
            let a = result_count s x in
            either (ltb x (counter_at s c))
            (λ t. let b = h.once s x in let e = between_low (counter_at s c) (counter_at s made.counters) x
            (ltb-true x (counter_at s c) t) in omega arith)
            (λ u. let b = h.under s x (ltb-false x (counter_at s c) u) in let e = between_most (counter_at s c)
            (counter_at s made.counters) x in omega arith);
        under = λ s x l.
            let a = result_count s x in
            let up = trail_up made_trail s in
            let b = h.under s x (omega arith) in
            let e = between_high (counter_at s c) (counter_at s made.counters) x l in
            omega arith;
        rule_words = λ q m. let (r, k, e) = result_in m in rule_word k e;
        body_words = λ q m w l. let (r, k, e) = result_in m in rule_words_lem k e w l;
      }

  -- A plan applied to a valid grammar leaves a valid one.
  pub applied_sound : Sound (suc d) (apply_plan d rs plan c).counters (apply_plan d rs plan c).node
  unfolding apply_plan
  applied_sound = result_sound

  -- And its entries are a trail.
  pub applied_trace : Trail c (apply_plan d rs plan c).entries (apply_plan d rs plan c).counters
  unfolding apply_plan
  applied_trace = trail_append made_trail (t_rule plan.hub (subst (λ i. i < word_end) f.id (h.rule_words f.rule f.there)) t_end)
