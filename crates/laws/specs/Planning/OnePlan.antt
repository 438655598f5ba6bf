-- One plan applied: the hub's body is replaced by what derives the same, and what is removed is not called.
use Prim.Native.Nat.{ℕ, suc}
use Rattle.std.specs.Prelude.{◌≡◌, refl, ◌⊎◌, ◌↔◌, Bool, true, false, ◌||◌, eqb}
use Rattle.std.proofs.Common.{sym, ap, ◌∙◌, subst, inl, inr, ⊎_elim, true≢false, eqb-true, eq-eqb, ne_eqb}
use Rattle.std.proofs.Math.Path.{ap₂}
use mathlib.Core.Logic.Iff
use mathlib.Core.List.Memᴰ
use mathlib.Core.List.{List, [], ◌∷◌, ◌++◌, map, map-map, Memᴰ}
use Rattle.std.proofs.Math.Option.{Option, none, some}
use Rattle.std.proofs.Math.Bool.{not}
use Rattle.std.proofs.Math.Decide.{ℕ_discrete}
use Rattle.std.proofs.lemmas.Bool.{eqb-false, not-true}
use Rattle.grammar.specs.Laws.Lists.{member_in, in_map}
use Rattle.grammar.specs.Tree.{Block, RuleOf, Counters}
use Rattle.grammar.specs.Lists.{each, member, distinct, keep}
use Rattle.grammar.specs.Corners.{Corners}
use Rattle.language.specs.LeftCorners.{is_missing, Corner}
use Rattle.language.specs.Shape.{Shape, alts, Shapes, find, erase_block, erase_rules, EachCall}
use Rattle.grammar.specs.Laws.Parse.{either}
use Rattle.language.specs.Laws.Cover.{Alike, Same, same_trans, SameStrings, alike_replaced, replace_body, replaced_others, replaced_found}
use Rattle.language.specs.Laws.Copies.{map_unseen}
use Rattle.language.specs.Laws.Removal.{AlikeOn, removal, without, without_found}
use Rattle.language.specs.Laws.Corner.{same_corner, removal_corner}
use Rattle.language.specs.Laws.Rules.{rule_found, found_rule}
use Rattle.reference.specs.Analysis.{Grammar, ids_of, target, collect_calls_into, collect_calls_in_elements}
use Rattle.reference.specs.Plan.{CyclePlan, calls_kept, removable_satellites, as_it_is, as_they_are}
use Rattle.reference.specs.Apply.{fresh_each, apply_alternative, with_body, apply_plan}
use Rattle.laws.specs.Lists.Count.{distinct_keep}
use Rattle.grammar.specs.Laws.Lists.{member_in}
use Rattle.graph.specs.Members.{in_keep, keep_in, in_each, one_with}
use Rattle.laws.specs.Lists.Lookup.{not_in, rule_target}
use Rattle.laws.specs.Planning.Turns.{items_of}
use Rattle.laws.specs.Planning.Substituted.{Known, shape_of, body_of, moves_alike}
use Rattle.laws.specs.Planning.Calls.{each_call_map, CallsIn, block_calls, items_calls}
use Rattle.laws.specs.Planning.Bodied.{with_id, with_name, with_hub, with_other}
use Rattle.laws.specs.Planning.Removed.{removable_uncalled, removable_satellite}
use Rattle.laws.specs.Planning.Renumber.{applied_shape}
use Rattle.laws.specs.Planning.Plans.{Made}
use Rattle.laws.specs.Planning.Erased.{erase_replaced, erase_kept}

-- A body as the planned list starts with it.
pub as_they_are_lem : (d : ℕ) (as' : Block (suc d)) → erase_block (suc d) as' ≡ body_of d (items_of d (as_they_are as'))
unfolding erase_block as_they_are
as_they_are_lem d as' =
    ap alts (sym (ap (map (shape_of d)) (map-map (λ p. p.elements) as_it_is as') ∙ map-map (shape_of d) (λ a. a.elements) as'))

pub each_map : {A B : Type 0} (f : B → List ℕ) (h : A → B) (as' : List A) → each f (map h as') ≡ each (λ a. f (h a)) as'
each_map f h [] = refl
each_map f h (a ∷ as') = ap (λ l. f (h a) ++ l) (each_map f h as')

-- Whether the rule that is called is among those removed.
abbrev pub is_gone : List ℕ → Option ℕ → Bool
is_gone xs none = false
is_gone xs (some t) = member t xs

module _ {c : Corners} {d : ℕ} {rs : List (RuleOf (Block (suc d)))} {g : Grammar} (k : Known (suc d) rs g) {preserved cycle : List ℕ}
    {plan : CyclePlan d}
    (x : Made c d rs g preserved cycle plan) (counters : Counters) where
  abbrev pub new_body : Block (suc d)
  new_body = (fresh_each (apply_alternative d) plan.alternatives counters).node

  abbrev pub gone_ids : List ℕ
  gone_ids = removable_satellites g d rs x.hub.id plan.alternatives cycle preserved

  -- A name whose rule is removed.
  abbrev pub gone : ℕ → Bool
  gone n = is_gone gone_ids (target g n)

  -- The rules with the hub's new body, and without those removed.
  abbrev pub replaced_rules : List (RuleOf (Block (suc d)))
  replaced_rules = map (with_body d x.hub.id new_body) rs

  abbrev pub rules_left : List (RuleOf (Block (suc d)))
  rules_left = keep (λ r. not (member r.id gone_ids)) replaced_rules

  pub applied_rules : (apply_plan d rs plan counters).node ≡ rules_left
  unfolding apply_plan
  applied_rules = ap₂ (λ h xs. keep (λ r. not (member r.id xs)) (map (with_body d h new_body) rs)) (sym x.is_hub) x.removed

  abbrev pub G : Shapes
  G = erase_rules (suc d) rs

  abbrev pub K : Shapes
  K = erase_rules (suc d) replaced_rules

  abbrev pub L : Shapes
  L = erase_rules (suc d) rules_left

  replaced_ids : ids_of replaced_rules ≡ ids_of rs
  replaced_ids = map_unseen (with_body d x.hub.id new_body) (λ r. r.id) (with_id d x.hub.id new_body) rs

  replaced_names : map (λ r. r.name) replaced_rules ≡ map (λ r. r.name) rs
  replaced_names = map_unseen (with_body d x.hub.id new_body) (λ r. r.name) (with_name d x.hub.id new_body) rs

  -- No two rules left share an id or a name.
  pub left_ids : distinct (ids_of rules_left) ≡ true
  left_ids = distinct_keep (λ r. r.id) (λ r. not (member r.id gone_ids)) replaced_rules (ap distinct replaced_ids ∙ k.ids)

  pub left_names : distinct (map (λ r. r.name) rules_left) ≡ true
  left_names = distinct_keep (λ r. r.name) (λ r. not (member r.id gone_ids)) replaced_rules (ap distinct replaced_names ∙ k.names)

  -- A rule left is a rule of before, by id and name; the hub with its new body, each other with its own.
  pub record Stems (q : RuleOf (Block (suc d))) : Type 0 where
    pub rule : RuleOf (Block (suc d))
    pub is_rule : Memᴰ rule rs
    pub id : q.id ≡ rule.id
    pub name : q.name ≡ rule.name
    pub body : ((rule.id ≡ x.hub.id) × (q.body ≡ new_body)) ⊎ ((rule.id ≡ x.hub.id → ⊥) × (q ≡ rule))

  replaced_stems : {q : RuleOf (Block (suc d))} → Memᴰ q replaced_rules → Stems q
  replaced_stems {q} m =
      let r = Memᴰ.of_map (with_body d x.hub.id new_body) rs m in
      record {
        rule = r.0;
        is_rule = r.1;
        id = ap (λ q. q.id) (sym r.2) ∙ with_id d x.hub.id new_body r.0;
        name = ap (λ q. q.name) (sym r.2) ∙ with_name d x.hub.id new_body r.0;
        body = either (eqb r.0.id x.hub.id)
            (λ t. let e = eqb-true r.0.id x.hub.id t in inl
            (e, ap (λ q. q.body) (sym r.2) ∙ with_hub d x.hub.id new_body r.0 e))
            (λ f. let ne = eqb-false r.0.id x.hub.id f in inr (ne, sym r.2 ∙ with_other d x.hub.id new_body r.0 ne));
      }

  pub left_stems : {q : RuleOf (Block (suc d))} → Memᴰ q rules_left → Stems q
  left_stems m = replaced_stems (in_keep (λ r. not (member r.id gone_ids)) replaced_rules m).0

  pub gone_name : {r : RuleOf (Block (suc d))} → Memᴰ r rs → gone r.name ≡ member r.id gone_ids
  gone_name m = ap (is_gone gone_ids) (rule_target rs g k.named k.names m)

  gone_replaced : {q : RuleOf (Block (suc d))} → Memᴰ q replaced_rules → gone q.name ≡ member q.id gone_ids
  gone_replaced m = let s = replaced_stems m in ap gone s.name ∙ gone_name s.is_rule ∙ ap (λ i. member i gone_ids) (sym s.id)

  -- The name of a rule left is not gone.
  pub left_stays : {q : RuleOf (Block (suc d))} → Memᴰ q rules_left → gone q.name ≡ false
  left_stays {q} m =
      let y = in_keep (λ r. not (member r.id gone_ids)) replaced_rules m in gone_replaced y.0 ∙ not-true (member q.id gone_ids) y.1

  -- A rule of before is left, or its id is gone.
  pub left_in : {r : RuleOf (Block (suc d))} → Memᴰ r rs → member r.id gone_ids ≡ false → Memᴰ r.id (ids_of rules_left)
  left_in {r} m f =
      let e = with_id d x.hub.id new_body r in
      let y =
      keep_in (λ r. not (member r.id gone_ids)) (Memᴰ.map (with_body d x.hub.id new_body) m)
      (ap (λ i. not (member i gone_ids)) e ∙ ap not f) in
      subst (λ i. Memᴰ i (ids_of rules_left)) e (in_map (λ r. r.id) y)

  pub hub_left : member x.hub.id gone_ids ≡ false
  hub_left =
      either (member x.hub.id gone_ids)
      (λ t.
      let s = removable_satellite g d rs x.hub.id plan.alternatives cycle preserved (member_in gone_ids t) in
      absurd (true≢false (sym (ap (λ b. b || member x.hub.id preserved) (eq-eqb x.hub.id x.hub.id refl)) ∙ s.1)))
      (λ f. f)

  pub hub_found : find G x.hub.name ≡ some (body_of d (items_of d (as_they_are x.hub.body)))
  hub_found = rule_found (suc d) (λ r. r.name) rs k.names x.is_rule ∙ ap some (as_they_are_lem d x.hub.body)

  -- The new body may stand for the old.
  pub replaced_erased : K ≡ replace_body x.hub.name (erase_block (suc d) new_body) G
  replaced_erased = erase_replaced d x.hub.id new_body x.hub.name rs same
    where
      same : (r : RuleOf (Block (suc d))) → Memᴰ r rs → eqb r.id x.hub.id ≡ eqb r.name x.hub.name
      same r m =
          either (eqb r.id x.hub.id)
          (λ t.
          let e = one_with (λ r. r.id) rs k.ids m x.is_rule (eqb-true r.id x.hub.id t) in
          t ∙ sym (eq-eqb r.name x.hub.name (ap (λ r. r.name) e)))
          (λ f.
          f
          ∙ sym (ne_eqb r.name x.hub.name
          (λ e. eqb-false r.id x.hub.id f (ap (λ r. r.id) (one_with (λ r. r.name) rs k.names m x.is_rule e)))))

  pub replaced_same : SameStrings G K
  replaced_same =
      let b = erase_block (suc d) new_body in
      subst (SameStrings G) (sym replaced_erased)
      (alike_replaced (replaced_others x.hub.name b G) hub_found (replaced_found x.hub.name b G hub_found)
      (subst (Alike x.hub.name G (body_of d (items_of d (as_they_are x.hub.body))))
      (sym (applied_shape d plan.alternatives counters)) (moves_alike k cycle x.is_rule x.moves)))

  left_erased : L ≡ without gone K
  left_erased = erase_kept (suc d) gone gone_ids replaced_rules (λ q m. gone_replaced m)

  -- What is called from what stays, stays.
  stays : (n : ℕ) → CallsIn g (calls_kept g d rs x.hub.id plan.alternatives gone_ids) n → gone n ≡ false
  stays n h = go (target g n) h
    where
      go : (o : Option ℕ) → ((t : ℕ) → o ≡ some t → Memᴰ t (calls_kept g d rs x.hub.id plan.alternatives gone_ids))
          → is_gone gone_ids o ≡ false
      go none f = refl
      go (some t) f =
          either (member t gone_ids)
          (λ y.
          absurd
          (not_in t (calls_kept g d rs x.hub.id plan.alternatives gone_ids)
          (removable_uncalled g d rs x.hub.id plan.alternatives cycle preserved (member_in gone_ids y)) (f t refl)))
          (λ n. n)

  -- Every call in a rule left is of one left, or unknown.
  replaced_closed : {q : RuleOf (Block (suc d))} → Memᴰ q replaced_rules → member q.id gone_ids ≡ false
      → EachCall (λ n. gone n ≡ false) (erase_block (suc d) q.body)
  unfolding calls_kept
  replaced_closed {q} m left = go (replaced_stems m)
    where
      kept : List ℕ
      kept = calls_kept g d rs x.hub.id plan.alternatives gone_ids

      others : List ℕ
      others = each (λ r. collect_calls_into g (suc d) r.body) (keep (λ r. not (member r.id gone_ids || eqb r.id x.hub.id)) rs)

      go : Stems q → EachCall (λ n. gone n ≡ false) (erase_block (suc d) q.body)
      go s =
          ⊎_elim
          (λ h.
          subst (EachCall (λ n. gone n ≡ false)) (sym (ap (erase_block (suc d)) h.1 ∙ applied_shape d plan.alternatives counters))
          (each_call_map stays (body_of d (items_of d plan.alternatives))
          (items_calls g kept d (items_of d plan.alternatives)
          (λ t n. Memᴰ.append_left others
          (subst (λ l. Memᴰ t l) (each_map (collect_calls_in_elements g d) (λ p. p.elements) plan.alternatives) n)))))
          (λ o.
          subst (λ r. EachCall (λ n. gone n ≡ false) (erase_block (suc d) r.body)) (sym o.1)
          (each_call_map stays (erase_block (suc d) s.rule.body)
          (block_calls g kept (suc d) s.rule.body
          (λ t n.
          Memᴰ.append_right (each (λ p. collect_calls_in_elements g d p.elements) plan.alternatives)
          (in_each (λ r. collect_calls_into g (suc d) r.body)
          (keep_in (λ r. not (member r.id gone_ids || eqb r.id x.hub.id)) s.is_rule
          (passes s.rule (ap (λ i. member i gone_ids) (sym s.id) ∙ left) o.0)) n)))))
          s.body
        where
          passes : (r : RuleOf (Block (suc d))) → member r.id gone_ids ≡ false → (r.id ≡ x.hub.id → ⊥)
              → not (member r.id gone_ids || eqb r.id x.hub.id) ≡ true
          passes r f ne = rw (f, ne_eqb r.id x.hub.id ne)

  pub left_closed : {q : RuleOf (Block (suc d))} → Memᴰ q rules_left → EachCall (λ n. gone n ≡ false) (erase_block (suc d) q.body)
  left_closed {q} m =
      let y = in_keep (λ r. not (member r.id gone_ids)) replaced_rules m in replaced_closed y.0
      (not-true (member q.id gone_ids) y.1)

  pub left_alike : AlikeOn (λ n. gone n ≡ false) K L
  left_alike =
      record {
        found = λ n p. subst (λ l. find l n ≡ find K n) (sym left_erased) (without_found gone K n p);
        calls = λ n b p e.
            let r = found_rule (suc d) (λ r. r.name) replaced_rules n e in
            subst (EachCall (λ n. gone n ≡ false)) r.3
            (replaced_closed r.1 (sym (gone_replaced r.1) ∙ ap gone r.2 ∙ p));
      }

  -- What calls only rules left, or unknown names, derives the same before and after.
  pub left_same : (s : Shape) → EachCall (λ n. gone n ≡ false) s → Same G s L s
  left_same s p = same_trans (replaced_same s) (removal left_alike s p)

  -- The same names are rules' before and after the replacement.
  replaced_known : (n : ℕ) → is_missing (find K n) ≡ is_missing (find G n)
  replaced_known n =
      let b = erase_block (suc d) new_body in
      elim (ℕ_discrete n x.hub.name) [
        | yes p ↦
            ap is_missing (ap (find K) p ∙ ap (λ l. find l x.hub.name) replaced_erased ∙ replaced_found x.hub.name b G hub_found)
            ∙ sym (ap is_missing (ap (find G) p ∙ hub_found))
        | no ne ↦ ap is_missing (ap (λ l. find l n) replaced_erased ∙ (replaced_others x.hub.name b G).others n ne)
      ]

  -- Of what calls only rules left, or unknown names, the left corners are the same before and after.
  pub left_corner : (o : Corners) (s : Shape) {n : ℕ} → EachCall (λ n. gone n ≡ false) s → Corner o G s n ↔ Corner o L s n
  left_corner o s p = Iff.trans (same_corner replaced_same replaced_known s) (removal_corner left_alike s p)

  -- The hub as the plan leaves it.
  abbrev pub hub_after : RuleOf (Block (suc d))
  hub_after = with_body d x.hub.id new_body x.hub

  pub hub_id_lem : hub_after.id ≡ x.hub.id
  hub_id_lem = with_id d x.hub.id new_body x.hub

  pub hub_name : hub_after.name ≡ x.hub.name
  hub_name = with_name d x.hub.id new_body x.hub

  pub hub_body : hub_after.body ≡ new_body
  hub_body = with_hub d x.hub.id new_body x.hub refl

  pub hub_in : Memᴰ hub_after rules_left
  hub_in =
      keep_in (λ r. not (member r.id gone_ids)) (Memᴰ.map (with_body d x.hub.id new_body) x.is_rule)
      (ap (λ i. not (member i gone_ids)) hub_id_lem ∙ ap not hub_left)

  pub body_closed : EachCall (λ n. gone n ≡ false) (erase_block (suc d) new_body)
  body_closed = subst (λ b. EachCall (λ n. gone n ≡ false) (erase_block (suc d) b)) hub_body (left_closed hub_in)

  -- A name called from what stays is a rule's before exactly where it is after.
  pub left_known : (n : ℕ) → gone n ≡ false → is_missing (find L n) ≡ is_missing (find G n)
  left_known n p = ap is_missing (left_alike.found n p) ∙ replaced_known n
