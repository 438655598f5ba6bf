-- What plans leave of what is found out about a grammar: between any rules that are told apart and what plans make of them.
use Rattle.std.specs.Prelude.{ℕ, suc, ◌≡◌, false, ◌&&◌, eqb}
use Rattle.std.proofs.Math.Path.{refl, ap, subst}
use Rattle.std.proofs.Common.{sym, ◌∙◌}
use mathlib.Core.List.Memᴰ
use mathlib.Core.List.{List, [], ◌∷◌, map, Memᴰ}
use Rattle.std.proofs.Math.Option.{Option, none, some, none-ne-some}
use Rattle.std.proofs.lemmas.Bool.{eqb-false, or_parts, and_from}
use Rattle.std.specs.Cmp.{first_so, second_so, both_ways}
use Rattle.grammar.specs.Lists.{member}
use Rattle.grammar.specs.Tree.{Rule, RuleOf, Block, body_depth, Counters}
use Rattle.grammar.specs.Corners.{Corners}
use Rattle.grammar.specs.Laws.Lists.{in_member, member_in, in_map}
use Rattle.grammar.specs.Laws.Parse.{either}
use Rattle.language.specs.Shape.{erase_block, EachCall}
use Rattle.language.specs.Laws.Removal.{each_any}
use Rattle.language.specs.Laws.Rules.{found_rule, same_can_be_empty}
use Rattle.reference.specs.Analysis.{Grammar, ids_of, target, collect_calls_into, nullable_rules, grammar_of}
use Rattle.reference.specs.Substitute.{Limits, decided}
use Rattle.reference.specs.Plan.{CyclePlan, plan_cycle}
use Rattle.reference.specs.Apply.{apply_plan}
use Rattle.reference.specs.Run.{Stage}
use Rattle.graph.specs.Members.{one_with}
use Rattle.laws.specs.Demands.Facts.{FactsStay}
use Rattle.laws.specs.Lists.Lookup.{target_rule, target_name, rule_target}
use Rattle.laws.specs.Analysis.Nullable.{is_null, named}
use Rattle.laws.specs.Analysis.Empty.{rule_empty}
use Rattle.laws.specs.Planning.Substituted.{Known}
use Rattle.laws.specs.Planning.Calls.{each_call_map, CallsIn, block_calls}
use Rattle.laws.specs.Planning.Named.{block_named}
use Rattle.laws.specs.Planning.Agreed.{Agree, BlockAlike, block_alike}
use Rattle.laws.specs.Planning.Plans.{plan_made}
use Rattle.laws.specs.Running.Leaves.{Told, known_by, Rules, Leaves, leaves_refl, leaves_trans, leaves_derives, plan_leaves}
use Rattle.laws.specs.Running.Leaves.{plan_stands}
use Rattle.laws.specs.Running.Stages.{rules_after, Chain, chain_leaves}
use Rattle.laws.specs.Running.Stay.{chain_stands}

module _ (d : ℕ) {rs ks : Rules d} (told : Told rs) (x : Leaves d rs ks) where
  abbrev g : Grammar
  g = grammar_of d rs

  abbrev h : Grammar
  h = grammar_of d ks

  abbrev before : Known d rs g
  before = known_by d rs told

  abbrev after : Known d ks h
  after = known_by d ks x.told

  nullable_left : (i : ℕ) → member i (nullable_rules d ks) ≡ (member i (ids_of ks) && member i (nullable_rules d rs))
  nullable_left i =
      let was = rule_empty d rs told.ids told.names i in
      let is = rule_empty d ks x.told.ids x.told.names i in
      both_ways (member i (nullable_rules d ks)) (member i (ids_of ks) && member i (nullable_rules d rs))
      (λ y.
      let s = is.0 y in
      let (q, m, e, b) = found_rule d (λ r. r.id) ks i s.derives.found in
      let u = in_member (subst (λ j. Memᴰ j (ids_of ks)) e (in_map (λ r. r.id) m)) in
      and_from (member i (ids_of ks)) (member i (nullable_rules d rs)) u
      (was.1 (same_can_be_empty (λ w. (leaves_derives d told x i u w).1) s)))
      (λ y.
      let u = first_so (member i (ids_of ks)) (member i (nullable_rules d rs)) y in
      is.1 (same_can_be_empty (λ w. (leaves_derives d told x i u w).0)
      (was.0 (second_so (member i (ids_of ks)) (member i (nullable_rules d rs)) y))))

  -- What a rule left calls, if the grammar before knows it, is left.
  calls_left : (q : RuleOf (Block d)) → Memᴰ q ks → EachCall (CallsIn g (ids_of ks)) (erase_block d q.body)
  unfolding collect_calls_into
  calls_left q m =
      block_calls g (ids_of ks) d q.body
      (λ t c.
      let (n, e, _) = block_named g (λ n. Unit {0}) t d q.body (each_any (erase_block d q.body)) c in
      let (r, there, name, id) = target_rule rs g before.named n e in
      subst (λ i. Memᴰ i (ids_of ks)) id
      (called r there (subst (λ i. Memᴰ i (collect_calls_into g d q.body)) (sym id) c)))
    where
      called : (r : RuleOf (Block d)) → Memᴰ r rs → Memᴰ r.id (collect_calls_into g d q.body) → Memᴰ r.id (ids_of ks)
      called r there c =
          either (member r.id (ids_of ks)) (member_in (ids_of ks))
          (λ f.
          let (n, e, other) = block_named g (λ n. n ≡ r.name → ⊥) r.id d q.body (x.closed r there f q m) c in
          absurd (other (sym (target_name rs g before.named told.ids there n e))))

  -- Such a name means in both grammars the same rule.
  means_same : (n : ℕ) → CallsIn g (ids_of ks) n → target h n ≡ target g n
  means_same n c = go (target g n) refl
    where
      unknown : (o : Option ℕ) → target h n ≡ o → target g n ≡ none → o ≡ none
      unknown none e f = refl
      unknown (some t) e f =
          let (q, m, name, id) = target_rule ks h after.named n e in
          let (r, k, i, w) = x.stems q m in
          absurd (none-ne-some r.id (sym f ∙ ap (target g) (sym name ∙ w) ∙ rule_target rs g before.named told.names k))

      go : (o : Option ℕ) → target g n ≡ o → target h n ≡ o
      go none e = unknown (target h n) refl e
      go (some t) e =
          let (q, m, id) = Memᴰ.of_map (λ r. r.id) ks (c t e) in
          let (r, k, i, w) = x.stems q m in
          let name = w ∙ target_name rs g before.named told.ids k n (e ∙ ap some (sym id ∙ i)) in
          ap (target h) (sym name) ∙ rule_target ks h after.named x.told.names m ∙ ap some id

  agree : (n : ℕ) → CallsIn g (ids_of ks) n → Agree h g n
  unfolding named grammar_of
  agree n c = record { means = means_same n c; empty = ap (is_null h) (means_same n c) ∙ go (target g n) refl }
    where
      go : (o : Option ℕ) → target g n ≡ o → is_null h o ≡ is_null g o
      go none e = refl
      go (some t) e = nullable_left t ∙ ap (λ b. b && member t (nullable_rules d rs)) (in_member (c t e))

  -- The body of a rule left calls names on which both grammars agree.
  left_alike : (q : RuleOf (Block d)) → Memᴰ q ks → BlockAlike h g d q.body
  left_alike q m = block_alike h g d q.body (each_call_map agree (erase_block d q.body) (calls_left q m))

-- Rules handed in, and those that plans, none or several, have left so far; `joined` are the hubs.
pub record Since (d : ℕ) (first : Rules d) (joined : List ℕ) (now : Rules d) : Type 0 where
  pub told : Told first
  pub leaves : Leaves d first now
  pub stands : (r : RuleOf (Block d)) → Memᴰ r now → member r.id joined ≡ false → Memᴰ r first

pub since_start : (d : ℕ) (rs : Rules d) → Told rs → Since d rs [] rs
since_start d rs t = record { told = t; leaves = leaves_refl d rs t; stands = λ r m f. m }

-- One plan more, whatever the cycle for which it was decided, and whether or not a refusal follows.
pub since_plan : (d : ℕ) {first rs : Rules (suc d)} {joined : List ℕ} → Since (suc d) first joined rs
    → (limits : Limits) (c : Corners) (preserved cycle : List ℕ) (plan : CyclePlan d) (counters : Counters)
    → plan_cycle limits c (grammar_of (suc d) rs) d rs preserved cycle ≡ decided plan
    → Since (suc d) first (plan.hub ∷ joined) (apply_plan d rs plan counters).node
unfolding member
since_plan d {rs = rs} {joined = joined} s limits c preserved cycle plan counters e =
    let k = known_by (suc d) rs s.leaves.told in
    let x = plan_made c d rs (grammar_of (suc d) rs) preserved cycle limits plan e in
    record {
      told = s.told;
      leaves = leaves_trans (suc d) s.told s.leaves (plan_leaves k x counters);
      stands = λ r m f.
          let (other, free) = or_parts (eqb r.id plan.hub) (member r.id joined) f in
          s.stands r (plan_stands k x counters m (eqb-false r.id plan.hub other)) free;
    }

pub since_facts : (d : ℕ) {first now : Rules d} {joined : List ℕ} → Since d first joined now → FactsStay d first joined now
since_facts d {first} {now} {joined} s =
    let alike : (r : RuleOf (Block d)) → Memᴰ r now → BlockAlike (grammar_of d now) (grammar_of d first) d r.body =
    left_alike d s.told s.leaves in
    record {
      rules = λ r f. (
        λ m. (s.stands r m f, in_member (in_map (λ r. r.id) m)),
        λ (m, u).
            let (q, n, w) = Memᴰ.of_map (λ r. r.id) now (member_in (ids_of now) u) in
            let was = s.stands q n (ap (λ i. member i joined) w ∙ f) in
            subst (λ r. Memᴰ r now) (one_with (λ r. r.id) first s.told.ids was m w) n,
      );
      nullable = nullable_left d s.told s.leaves;
      calls = λ r m. (alike r m).calls;
      empty = λ r m. (alike r m).empty;
      corners = λ c r m. (alike r m).corners c;
    }

-- One plan alone.
pub plan_facts : (d : ℕ) (rs : Rules (suc d)) → Told rs
    → (limits : Limits) (c : Corners) (preserved cycle : List ℕ) (plan : CyclePlan d) (counters : Counters)
    → plan_cycle limits c (grammar_of (suc d) rs) d rs preserved cycle ≡ decided plan
    → FactsStay (suc d) rs (plan.hub ∷ []) (apply_plan d rs plan counters).node
plan_facts d rs t limits c preserved cycle plan counters e =
    since_facts (suc d) (since_plan d (since_start (suc d) rs t) limits c preserved cycle plan counters e)

-- The stages of a run.
pub chain_facts : (limits : Limits) (c : Corners) (preserved : List ℕ) {rs : List Rule} {ts : List Stage} → Told rs
    → Chain limits c preserved rs ts
    → FactsStay body_depth rs (map (λ t. t.plan.hub) ts) (rules_after rs ts)
chain_facts limits c preserved t chain =
    since_facts body_depth (record {
      told = t;
      leaves = chain_leaves limits c preserved t chain;
      stands = chain_stands limits c preserved t chain;
    })
