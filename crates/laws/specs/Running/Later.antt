-- No later cycle: a joined rule that cannot be empty reaches nothing that reaches it, but itself.
use Rattle.std.specs.Prelude.{ℕ, suc, ◌≤◌, ◌≡◌, refl, ◌⊎◌, true, length, ltb}
use Rattle.std.proofs.Common.{sym, ap, ◌∙◌, subst, subst₂, inl, inr, ⊎_elim, arith, ltb-true}
use mathlib.Core.List.{List, [], ◌∷◌, Memᴰ}
use Rattle.std.proofs.Math.Decide.{ℕ_discrete}
use Rattle.std.specs.Cmp.{first_so}
use Rattle.grammar.specs.Laws.Lists.{in_member}
use Rattle.grammar.specs.Tree.{ElementHead, Call, call, leaf, AlternativeOf, Block, Rule, body_depth}
use Rattle.grammar.specs.Lists.{member, rising}
use Rattle.language.specs.Shape.{call_of, erase_block, Shapes, erase_rules}
use Rattle.language.specs.Derive.{CanBeEmpty, RuleCanBeEmpty}
use Rattle.grammar.specs.Corners.{Corners}
use Rattle.language.specs.LeftCorners.{Corner, c_call, c_first, c_later, Leads, Reaches, r_last, r_more}
use Rattle.grammar.specs.Laws.Parse.{either}
use Rattle.grammar.specs.Numbers.{once}
use Rattle.language.specs.Laws.Corner.{reaches_trans}
use Rattle.language.specs.Laws.Rules.{found_rule, rule_can_be_empty}
use Rattle.reference.specs.Analysis.{grammar_of, left_corner_cycles}
use Rattle.reference.specs.Substitute.{Limits}
use Rattle.reference.specs.Run.{inner_depth, Stage}
use Rattle.laws.specs.Demands.Shape.{NoCorner, JoinedShape, NoLaterCycle}
use Rattle.graph.specs.Members.{one_with}
use Rattle.laws.specs.Analysis.Cycles.{reaches_found, cycles_exact}
use Rattle.laws.specs.Planning.Turns.{Items}
use Rattle.laws.specs.Planning.Substituted.{shape_of, call_plain}
use Rattle.laws.specs.Running.Skipped.{corner_one}
use Rattle.laws.specs.Running.Leaves.{Told, Leaves}
use Rattle.laws.specs.Running.Stages.{Happened, Chain, last, next, rules_after, stage_cycle, stage_made, stage_leaves, chain_leaves}
use Rattle.laws.specs.Running.OneStage.{stage_shape, stage_reaches}

module _ {c : Corners} {G : Shapes} where
  -- The alternative of a body with the left corner.
  pub body_corner : (d : ℕ) (as' : Block (suc d)) {m : ℕ} → Corner c G (erase_block (suc d) as') m
      → (a : AlternativeOf (Block d)) × Memᴰ a as' × Corner c G (shape_of d a.elements) m
  unfolding erase_block
  body_corner d as' k = corner_one c G d (λ a. a.elements) as' k

  called : {n m : ℕ} → Corner c G (call_of n) m → m ≡ n
  called (c_call e) = refl

  -- What starts with a plain call has no other left corner, unless the rule called can be empty.
  starts_corner : (d : ℕ) (h : ElementHead) (k : Call) {n : ℕ} (rest : Items d) → h.quantifier ≡ once → k.name ≡ n
      → {m : ℕ} → Corner c G (shape_of d (leaf h (call k) ∷ rest)) m → (m ≡ n) ⊎ CanBeEmpty G (call_of n)
  starts_corner d h k rest q e {m} (c_first j) =
      inl (called (subst (λ s. Corner c G s m) (call_plain (erase_block d) h k q ∙ ap call_of e) j))
  starts_corner d h k rest q e (c_later o j) =
      inr (subst (CanBeEmpty G) (call_plain (erase_block d) h k q ∙ ap call_of e) o.empty)

module _ (limits : Limits) (corners : Corners) (preserved : List ℕ) {t : Stage} (told : Told t.before)
    (h : Happened limits corners preserved t) where
  abbrev before : List Rule
  before = t.before

  abbrev after : List Rule
  after = t.after.node

  abbrev G : Shapes
  G = erase_rules body_depth before

  abbrev K : Shapes
  K = erase_rules body_depth after

  abbrev leaves : Leaves body_depth before after
  leaves = stage_leaves limits corners preserved told h

  abbrev shape : JoinedShape (NoCorner corners after t.cycle) after t.plan.hub
  shape = stage_shape limits corners preserved told h

  abbrev H : ℕ
  H = shape.rule.name

  pub hub_in_cycle : member t.plan.hub t.cycle ≡ true
  hub_in_cycle =
      let x = stage_made limits corners preserved h in subst (λ i. member i t.cycle ≡ true) x.is_hub (in_member x.in_cycle)

  -- A rule left that reaches the hub and is reached from it is in the cycle replaced.
  pub back_in_cycle : (q : Rule) → Memᴰ q after → Reaches corners K H q.name → Reaches corners K q.name H
      → member q.id t.cycle ≡ true
  back_in_cycle q m r b =
      let cyc = (cycles_exact corners body_depth before told.ids told.names t.cycle).0 (stage_cycle limits corners preserved h) in
      let (u, i, e, n) = leaves.stems shape.rule shape.is_left in
      let (v, j, f, p) = leaves.stems q m in
      let there = subst₂ (Reaches corners G) n p (stage_reaches limits corners preserved told h corners r) in
      let back = subst₂ (Reaches corners G) p n (stage_reaches limits corners preserved told h corners b) in
      subst (λ k. member k t.cycle ≡ true) (sym f)
      (cyc.largest t.plan.hub v.id hub_in_cycle
      (record { source = u; source_stands = i; source_id = sym e ∙ shape.is_hub; goal = v; goal_stands = j; goal_id = refl; path = there })
      (record { source = v; source_stands = j; source_id = refl; goal = u; goal_stands = i; goal_id = sym e ∙ shape.is_hub; path = back }))

  module _ (full : RuleCanBeEmpty body_depth after t.plan.hub → ⊥) where
    not_empty : CanBeEmpty K (call_of H) → ⊥
    not_empty o =
        full
        (subst (RuleCanBeEmpty body_depth after) shape.is_hub
        ((rule_can_be_empty body_depth after leaves.told.ids leaves.told.names shape.is_left).1 o))

    first_step : {m : ℕ} → Leads corners K H m → Reaches corners K m H → m ≡ H
    first_step {m} l b =
        let (q, i, e, w) = found_rule body_depth (λ r. r.name) after H l.found in
        let same : q ≡ shape.rule = one_with (λ r. r.name) after leaves.told.names i shape.is_left e in
        let j : Corner corners K (erase_block body_depth shape.rule.body) m =
        subst (λ s. Corner corners K s m) (sym w ∙ ap (λ q. erase_block body_depth q.body) same) l.corner in
        let (a, n, k) = body_corner inner_depth shape.rule.body j in
        let (x, y) = reaches_found b in
        let (p, o, f, z) = found_rule body_depth (λ r. r.name) after m y in
        ⊎_elim
        (λ s.
        ⊎_elim (λ u. u) (λ u. absurd (not_empty u))
        (starts_corner inner_depth s.head s.site s.rest s.plain s.called
        (subst (λ es. Corner corners K (shape_of inner_depth es) m) {x = a.elements} s.starts k)))
        (λ s.
        absurd
        (s.none p o (back_in_cycle p o (subst (Reaches corners K H) (sym f) (r_last l)) (subst (λ n. Reaches corners K n H) (sym f) b))
        (subst (λ n. Corner corners K (shape_of inner_depth a.elements) n) (sym f) k)))
        (shape.every a n)

    -- The joined rule stands in no circle with another.
    pub alone : {n m : ℕ} → Reaches corners K n m → n ≡ H → Reaches corners K m H → m ≡ H
    alone {n} {m} (r_last l) e b = first_step (subst (λ n. Leads corners K n m) e l) b
    alone {n} {m} (r_more {m = x} l r) e b =
        alone r (first_step (subst (λ n. Leads corners K n x) e l) (reaches_trans r b)) b

-- Another member of a cycle.
pub another : (i : ℕ) (cycle : List ℕ) → 2 ≤ length cycle → rising cycle ≡ true → (j : ℕ) × (member j cycle ≡ true) × (j ≡ i → ⊥)
unfolding rising member
another i [] s r = absurd (omega arith)
another i (x ∷ []) s r = absurd (omega arith)
another i (x ∷ y ∷ ys) s r =
    let l = ltb-true x y (first_so (ltb x y) (rising (y ∷ ys)) r) in
    elim (ℕ_discrete x i) [
      | yes p ↦ (y, in_member {x = y} {xs = x ∷ y ∷ ys} (Memᴰ.tail (Memᴰ.head refl)), λ q. omega arith)
      | no ne ↦ (x, in_member {x = x} {xs = x ∷ y ∷ ys} (Memᴰ.head refl), ne)
    ]

module _ (limits : Limits) (corners : Corners) (preserved : List ℕ) where
  -- Reach shrinks over any number of stages.
  pub chain_reaches : (o : Corners) {rs : List Rule} {ts : List Stage} → Told rs → Chain limits corners preserved rs ts → {n m : ℕ}
      → Reaches o (erase_rules body_depth (rules_after rs ts)) n m → Reaches o (erase_rules body_depth rs) n m
  chain_reaches o k last r = r
  chain_reaches o k (next {t = t} e h c) {n} {m} r =
      let b = subst Told (sym e) k in
      subst (λ l. Reaches o (erase_rules body_depth l) n m) e
      (stage_reaches limits corners preserved b h o (chain_reaches o (stage_leaves limits corners preserved b h).told c r))

  module _ {t : Stage} (told : Told t.before) (h : Happened limits corners preserved t) {ts : List Stage}
      (c : Chain limits corners preserved t.after.node ts) where
    abbrev pub later : List Rule
    later = rules_after t.after.node ts

    abbrev pub joined : JoinedShape (NoCorner corners t.after.node t.cycle) t.after.node t.plan.hub
    joined = stage_shape limits corners preserved told h

    abbrev here : Told t.after.node
    here = (stage_leaves limits corners preserved told h).told

    abbrev pub onward : Leaves body_depth t.after.node later
    onward = chain_leaves limits corners preserved here c

    -- The rule with the hub's id has the hub's name.
    pub hub_later : (q : Rule) → Memᴰ q later → q.id ≡ t.plan.hub → q.name ≡ joined.rule.name
    hub_later q m e =
        let (r, i, f, n) = onward.stems q m in
        n ∙ ap (λ r. r.name) (one_with (λ r. r.id) t.after.node here.ids i joined.is_left (sym f ∙ e ∙ sym joined.is_hub))

    -- In no later grammar does it stand in a circle with another.
    pub no_circle : (RuleCanBeEmpty body_depth t.after.node t.plan.hub → ⊥) → {m : ℕ}
        → Reaches corners (erase_rules body_depth later) joined.rule.name m
        → Reaches corners (erase_rules body_depth later) m joined.rule.name → m ≡ joined.rule.name
    no_circle full r b = alone limits corners preserved told h full (chain_reaches corners here c r) refl (chain_reaches corners here c b)

    pub no_later : NoLaterCycle corners t later
    no_later =
        record {
          free = λ full cycle m. either (member t.plan.hub cycle) (λ y. absurd (none full cycle m y)) (λ n. n);
        }
      where
        none : (RuleCanBeEmpty body_depth t.after.node t.plan.hub → ⊥) → (cycle : List ℕ)
            → Memᴰ cycle (left_corner_cycles corners (grammar_of body_depth later) body_depth later) → member t.plan.hub cycle ≡ true
            → ⊥
        none full cycle m y =
            let cyc = (cycles_exact corners body_depth later onward.told.ids onward.told.names cycle).0 m in
            let (j, i, ne) = another t.plan.hub cycle cyc.several cyc.rises in
            let a = cyc.joined t.plan.hub j y i in
            let b = cyc.joined j t.plan.hub i y in
            let q = hub_later a.source a.source_stands a.source_id in
            let p = hub_later b.goal b.goal_stands b.goal_id in
            let same =
            one_with (λ r. r.id) later onward.told.ids b.source_stands a.goal_stands (b.source_id ∙ sym a.goal_id) in
            let e : a.goal.name ≡ joined.rule.name =
            no_circle full (subst (λ n. Reaches corners (erase_rules body_depth later) n a.goal.name) q a.path)
            (subst₂ (Reaches corners (erase_rules body_depth later)) (ap (λ r. r.name) same) p b.path) in
            let one = one_with (λ r. r.name) later onward.told.names a.source_stands a.goal_stands (q ∙ sym e) in
            ne (sym a.goal_id ∙ ap (λ r. r.id) (sym one) ∙ a.source_id)
