-- What a run of plans leaves of a grammar: the same strings, no call of a rule removed. True of one plan, and of plans in a row.
use Rattle.std.specs.Prelude.{ℕ, suc, ◌≡◌, refl, ◌↔◌, true, false}
use Rattle.std.proofs.Common.{sym, ap, ◌∙◌, subst, subst₂, ⊎_elim, true≢false}
use mathlib.Core.List.Memᴰ
use mathlib.Core.List.{List, map, Memᴰ}
use Rattle.grammar.specs.Laws.Lists.{member_in, in_map}
use Rattle.grammar.specs.Tree.{Block, RuleOf, Rule, Counters}
use Rattle.grammar.specs.Lists.{member, distinct}
use Rattle.grammar.specs.Corners.{Corners}
use Rattle.language.specs.Shape.{Word, call_of, erase_block, erase_rules, EachCall}
use Rattle.language.specs.Derive.{Der, RuleDerives}
use Rattle.grammar.specs.Laws.Parse.{either}
use Rattle.language.specs.Laws.Cover.{Same, same_refl, same_trans}
use Rattle.language.specs.Laws.Rules.{rule_derives}
use Rattle.reference.specs.Analysis.{Grammar, ids_of, grammar_of}
use Rattle.reference.specs.Plan.{CyclePlan}
use Rattle.reference.specs.Apply.{apply_plan}
use Rattle.graph.specs.Members.{one_with}
use Rattle.laws.specs.Demands.Shape.{Removed}
use Rattle.laws.specs.Lists.Lookup.{not_in}
use Rattle.laws.specs.Planning.Substituted.{Known}
use Rattle.laws.specs.Planning.Calls.{each_call_map, moves_calls}
use Rattle.laws.specs.Planning.Renumber.{applied_shape}
use Rattle.laws.specs.Planning.Plans.{Made}
use Rattle.laws.specs.Planning.OnePlan.{as_they_are_lem, gone_ids, gone, rules_left, applied_rules, left_ids, left_names, left_stems}
use Rattle.laws.specs.Planning.OnePlan.{left_stays, left_closed, left_same, gone_name, left_in}

-- Rules are told apart by their ids and by their names: all that is asked of a sheet here, and a valid one has it.
pub record Told {B : Type 0} (rs : List (RuleOf B)) : Type 0 where
  pub ids : distinct (ids_of rs) ≡ true
  pub names : distinct (map (λ r. r.name) rs) ≡ true

-- The id of a rule that is removed is no rule's.
pub no_id : (r : Rule) (after : List Rule) → Removed r after → member r.id (ids_of after) ≡ false
no_id r after h =
    either (member r.id (ids_of after))
    (λ u. let (q, n, e) = Memᴰ.of_map (λ (r : Rule). r.id) after (member_in (ids_of after) u) in absurd (h q n e))
    (λ f. f)

-- Rules told apart, and the grammar that is made of them.
pub known_by : (d : ℕ) (rs : List (RuleOf (Block d))) → Told rs → Known d rs (grammar_of d rs)
unfolding grammar_of
known_by d rs t = record { named = refl; ids = t.ids; names = t.names }

module _ (d : ℕ) where
  abbrev pub Rules : Type 0
  Rules = List (RuleOf (Block d))

  -- No rule of a grammar calls a name.
  abbrev pub Uncalled : ℕ → Rules → Type 0
  Uncalled n rs = (r : RuleOf (Block d)) → Memᴰ r rs → EachCall (λ m. m ≡ n → ⊥) (erase_block d r.body)

  pub record Leaves (rs ks : Rules) : Type 0 where
    pub told : Told ks
    -- A rule left has the id and the name of a rule of before.
    pub stems : (q : RuleOf (Block d)) → Memᴰ q ks → (r : RuleOf (Block d)) × Memᴰ r rs × (q.id ≡ r.id) × (q.name ≡ r.name)
    -- It derives the same.
    pub same : (q : RuleOf (Block d)) → Memᴰ q ks → Same (erase_rules d rs) (call_of q.name) (erase_rules d ks) (call_of q.name)
    -- No rule removed is called.
    pub closed : (r : RuleOf (Block d)) → Memᴰ r rs → member r.id (ids_of ks) ≡ false → Uncalled r.name ks
    -- What is not called stays so.
    pub uncalled : (n : ℕ) → Uncalled n rs → Uncalled n ks

  pub leaves_refl : (rs : Rules) → Told rs → Leaves rs rs
  leaves_refl rs t =
      record {
        told = t;
        stems = λ q m. (q, m, refl, refl);
        same = λ q m. same_refl (erase_rules d rs) (call_of q.name);
        closed = λ r m f. absurd (not_in r.id (ids_of rs) f (in_map (λ r. r.id) m));
        uncalled = λ n u. u;
      }

  pub leaves_trans : {rs ks ls : Rules} → Told rs → Leaves rs ks → Leaves ks ls → Leaves rs ls
  leaves_trans {rs} {ks} {ls} t x y =
      record {
        told = y.told;
        stems = λ q m.
            let k = y.stems q m in
            let r = x.stems k.0 k.1 in
            (r.0, r.1, k.2 ∙ r.2, k.3 ∙ r.3);
        same = λ q m.
            let k = y.stems q m in
            same_trans (subst (λ n. Same (erase_rules d rs) (call_of n) (erase_rules d ks) (call_of n)) (sym k.3) (x.same k.0 k.1))
            (y.same q m);
        closed = λ r m f.
            either (member r.id (ids_of ks))
            (λ u.
            let i = Memᴰ.of_map (λ r. r.id) ks (member_in (ids_of ks) u) in
            let s = x.stems i.0 i.1 in
            let e : s.0 ≡ r = one_with (λ r. r.id) rs t.ids s.1 m (sym s.2 ∙ i.2) in
            subst (λ n. Uncalled n ls) (s.3 ∙ ap (λ r. r.name) e) (y.closed i.0 i.1 (ap (λ j. member j (ids_of ls)) i.2 ∙ f)))
            (λ u. y.uncalled r.name (x.closed r m u));
        uncalled = λ n u. y.uncalled n (x.uncalled n u);
      }

  -- A rule kept, known by its id, derives the same strings.
  pub leaves_derives : {rs ks : Rules} → Told rs → Leaves rs ks → (i : ℕ) → member i (ids_of ks) ≡ true → (w : Word)
      → RuleDerives d rs i w ↔ RuleDerives d ks i w
  leaves_derives {rs} {ks} t x i u w =
      let q = Memᴰ.of_map (λ r. r.id) ks (member_in (ids_of ks) u) in
      let r = x.stems q.0 q.1 in
      let before : RuleDerives d rs i w ↔ Der (erase_rules d rs) (call_of q.0.name) w =
      subst₂ (λ j n. RuleDerives d rs j w ↔ Der (erase_rules d rs) (call_of n) w) (sym r.2 ∙ q.2) (sym r.3)
      (rule_derives d rs t.ids t.names r.1 w) in
      let after : RuleDerives d ks i w ↔ Der (erase_rules d ks) (call_of q.0.name) w =
      subst (λ j. RuleDerives d ks j w ↔ Der (erase_rules d ks) (call_of q.0.name) w) q.2
      (rule_derives d ks x.told.ids x.told.names q.1 w) in
      let s = x.same q.0 q.1 in
      (λ y. after.1 (s.to w (before.0 y)), λ y. before.1 (s.back w (after.0 y)))

-- One plan.
module _ {c : Corners} {d : ℕ} {rs : Rules (suc d)} {g : Grammar} (k : Known (suc d) rs g) {preserved cycle : List ℕ} {plan : CyclePlan d}
    (x : Made c d rs g preserved cycle plan) (counters : Counters) where
  left_uncalled : (n : ℕ) → Uncalled (suc d) n rs → Uncalled (suc d) n (rules_left k x counters)
  left_uncalled n u q m =
      let s = left_stems k x counters m in
      ⊎_elim
      (λ h.
      subst (EachCall (λ m. m ≡ n → ⊥)) (sym (ap (erase_block (suc d)) h.1 ∙ applied_shape d plan.alternatives counters))
      (moves_calls (λ m. m ≡ n → ⊥) u x.moves
      (subst (EachCall (λ m. m ≡ n → ⊥)) (as_they_are_lem d x.hub.body) (u x.hub x.is_rule))))
      (λ o. subst (λ r. EachCall (λ m. m ≡ n → ⊥) (erase_block (suc d) r.body)) (sym o.1) (u s.rule s.is_rule))
      s.body

  pub plan_leaves : Leaves (suc d) rs (apply_plan d rs plan counters).node
  plan_leaves =
      subst (Leaves (suc d) rs) (sym (applied_rules k x counters))
      (record {
        told = record { ids = left_ids k x counters; names = left_names k x counters };
        stems = λ q m. let s = left_stems k x counters m in (s.rule, s.is_rule, s.id, s.name);
        same = λ q m. left_same k x counters (call_of q.name) (left_stays k x counters m);
        closed = λ r m f q n.
            let away : gone k x counters r.name ≡ true = removed r m f in
            each_call_map (λ y p e. true≢false (sym away ∙ ap (gone k x counters) (sym e) ∙ p)) (erase_block (suc d) q.body)
            (left_closed k x counters n);
        uncalled = left_uncalled;
      })
    where
      removed : (r : RuleOf (Block (suc d))) → Memᴰ r rs → member r.id (ids_of (rules_left k x counters)) ≡ false
          → gone k x counters r.name ≡ true
      removed r m f =
          gone_name k x counters m
          ∙ either (member r.id (gone_ids k x counters)) (λ t. t)
          (λ n. absurd (not_in r.id (ids_of (rules_left k x counters)) f (left_in k x counters m n)))

  -- A rule left that is not the hub is a rule of before.
  pub plan_stands : {q : RuleOf (Block (suc d))} → Memᴰ q (apply_plan d rs plan counters).node → (q.id ≡ plan.hub → ⊥)
      → Memᴰ q rs
  plan_stands {q} m ne =
      let s = left_stems k x counters (subst (Memᴰ q) (applied_rules k x counters) m) in
      ⊎_elim (λ u. absurd (ne (s.id ∙ u.0 ∙ x.is_hub))) (λ u. subst (λ r. Memᴰ r rs) (sym u.1) s.is_rule) s.body
