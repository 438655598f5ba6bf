-- A rule is the hub of at most one plan: as its plan leaves it, nothing in it is left to substitute in any later cycle.
use Rattle.std.specs.Prelude.{ℕ, suc, ◌≤◌, ◌≡◌, true, length}
use Rattle.std.proofs.Math.Path.{refl, ap, subst}
use Rattle.std.proofs.Common.{sym, ◌∙◌, subst₂, ⊎_elim, arith}
use mathlib.Core.List.Memᴰ
use mathlib.Core.List.{List, [], ◌∷◌, ◌++◌, map, Memᴰ}
use Rattle.std.proofs.Math.Option.{some, some-injective}
use Rattle.std.proofs.Math.Bool.{not}
use Rattle.std.proofs.lemmas.Bool.{false≢true, and_from}
use Rattle.std.proofs.lemmas.List.{length-map}
use Rattle.grammar.specs.Laws.Lists.{in_member, member_in, in_map}
use Rattle.grammar.specs.Lists.{AllOf, member, distinct}
use Rattle.grammar.specs.Tree.{ElementHead, Call, call, Element, leaf, Block, RuleOf, Rule, body_depth}
use Rattle.language.specs.Shape.{find, erase_block, erase_rules}
use Rattle.grammar.specs.Corners.{Corners}
use Rattle.language.specs.LeftCorners.{Corner, Reaches}
use Rattle.grammar.specs.Laws.Parse.{either}
use Rattle.language.specs.Laws.Rules.{rule_found}
use Rattle.reference.specs.Walks.{sort_of, is_epsilon_only}
use Rattle.reference.specs.Analysis.{Grammar, ids_of, target, grammar_of}
use Rattle.reference.specs.Substitute.{Limits}
use Rattle.reference.specs.Run.{inner_depth, Stage}
use Rattle.laws.specs.Demands.Step.{CornerAt}
use Rattle.laws.specs.Demands.Shape.{Continues, NoCorner, JoinedShape}
use Rattle.graph.specs.Members.{one_with}
use Rattle.grammar.specs.Laws.Few.{no_more}
use Rattle.laws.specs.Lists.Lookup.{target_rule, rule_target}
use Rattle.laws.specs.Analysis.Cycles.{cycles_exact}
use Rattle.laws.specs.Planning.Turns.{Items, as_they_were, Turn, split, splice, Moved, here, later, Moves, still, onward}
use Rattle.laws.specs.Planning.Substituted.{shape_of}
use Rattle.laws.specs.Running.Skipped.{at_corner}
use Rattle.laws.specs.Running.Leaves.{Told, Leaves, leaves_refl, leaves_trans}
use Rattle.laws.specs.Running.Stages.{known, Happened, Chain, last, next, rules_after, stage_cycle, stage_made, stage_leaves}
use Rattle.laws.specs.Running.OneStage.{stage_shape, stage_reaches, stage_stands}
use Rattle.laws.specs.Running.Later.{back_in_cycle}

-- The first turn of a substitution that makes a step.
module _ {d : ℕ} {rs : List (RuleOf (Block (suc d)))} {g : Grammar} {cycle : List ℕ} {hub : ℕ} where
  moved_turn : {ps qs : List (Items d)} → Moved d rs g cycle hub ps qs
      → (es : Items d) × Memᴰ es ps × (news : List (Items d)) × Turn d rs g cycle hub es news
  moved_turn (here {es = es} {news = news} t) = (es, Memᴰ.head refl, news, t)
  moved_turn (later x) = let (es, m, news, t) = moved_turn x in (es, Memᴰ.tail m, news, t)

  first_turn : {ps qs : List (Items d)} {n : ℕ} → Moves d rs g cycle hub ps n qs → (n ≡ 0 → ⊥)
      → (es : Items d) × Memᴰ es ps × (news : List (Items d)) × Turn d rs g cycle hub es news
  first_turn still ne = absurd (ne refl)
  first_turn (onward x y) ne = moved_turn x

-- A list that starts with a call has its corner there.
corner_starts : {B : Type 0} {g : Grammar} {cycle : List ℕ} {es : List (Element B)} {i t : ℕ} (x : CornerAt g cycle es i t)
    (h : ElementHead) (c : Call) (rest : List (Element B))
    → es ≡ leaf h (call c) ∷ rest → (x.head ≡ h) × (x.site ≡ c)
unfolding is_epsilon_only sort_of
corner_starts {B} x h c rest e = go x.front x.silent (x.whole ∙ e)
  where
    go : (front : List (Element B)) → AllOf (λ e. is_epsilon_only e ≡ true) front
        → front ++ (leaf x.head (call x.site) ∷ x.rest) ≡ leaf h (call c) ∷ rest → (x.head ≡ h) × (x.site ≡ c)
    go [] s w = (cc, cc)
    go (f ∷ front) s w =
        let p : f ≡ leaf h (call c) = cc in
        absurd (false≢true (sym (ap is_epsilon_only p) ∙ s.0))

module _ (limits : Limits) (corners : Corners) (preserved : List ℕ) {t : Stage} (told : Told t.before)
    (h : Happened limits corners preserved t) where
  abbrev after : List Rule
  after = t.after.node

  abbrev here_told : Told after
  here_told = (stage_leaves limits corners preserved told h).told

  abbrev shape : JoinedShape (NoCorner corners after t.cycle) after t.plan.hub
  shape = stage_shape limits corners preserved told h

  -- What later grammars have in common with the one left: they stem from it, reach no further, and have the hub as it was left.
  pub record Follows (ks : List Rule) : Type 0 where
    pub leaves : Leaves body_depth after ks
    pub reach : (n m : ℕ) → Reaches corners (erase_rules body_depth ks) n m → Reaches corners (erase_rules body_depth after) n m
    pub stands : (q : Rule) → Memᴰ q ks → q.id ≡ t.plan.hub → Memᴰ q after

  module _ {u : Stage} (f : Follows u.before) (i : Happened limits corners preserved u) (same : u.plan.hub ≡ t.plan.hub) where
    abbrev g : Grammar
    g = grammar_of body_depth u.before

    abbrev here_known : Told u.before
    here_known = f.leaves.told

    -- The hub's rule is the one left.
    hub_stands : (stage_made limits corners preserved i).hub ≡ shape.rule
    hub_stands =
        let x = stage_made limits corners preserved i in
        one_with (λ r. r.id) after here_told.ids (f.stands x.hub x.is_rule (x.is_hub ∙ same)) shape.is_left
        (x.is_hub ∙ same ∙ sym shape.is_hub)

    one_name : {q v : Rule} → Memᴰ q u.before → Memᴰ v u.before → q.id ≡ v.id → q.name ≡ v.name
    one_name w z e = ap (λ r. r.name) (one_with (λ r. r.id) u.before here_known.ids w z e)

    -- A corner in the later cycle is one in the cycle replaced.
    corner_back : {B : Type 0} {es : List (Element B)} {j k : ℕ} (y : CornerAt g u.cycle es j k)
        → (p : Rule) × Memᴰ p after × (p.name ≡ y.site.name) × (member p.id t.cycle ≡ true)
    corner_back y =
        let cyc =
        (cycles_exact corners body_depth u.before here_known.ids here_known.names u.cycle).0
        (stage_cycle limits corners preserved i) in
        let x = stage_made limits corners preserved i in
        let (r, m, n, e) = target_rule u.before g (known u.before here_known).named y.site.name y.known in
        let (p, o, pe, pn) = f.leaves.stems r m in
        let hub = in_member x.in_cycle in
        let a = cyc.joined x.hub.id r.id hub (subst (λ k. member k u.cycle ≡ true) (sym e) y.in_cycle) in
        let b = cyc.joined r.id x.hub.id (subst (λ k. member k u.cycle ≡ true) (sym e) y.in_cycle) hub in
        let there =
        subst₂ (Reaches corners (erase_rules body_depth u.before))
        (one_name a.source_stands x.is_rule a.source_id ∙ ap (λ r. r.name) hub_stands)
        (one_name a.goal_stands m a.goal_id ∙ pn) a.path in
        let back =
        subst₂ (Reaches corners (erase_rules body_depth u.before)) (one_name b.source_stands m b.source_id ∙ pn)
        (one_name b.goal_stands x.is_rule b.goal_id ∙ ap (λ r. r.name) hub_stands) b.path in
        (p, o, sym pn ∙ n, back_in_cycle limits corners preserved told h p o (f.reach _ _ there) (f.reach _ _ back))

    -- Neither sort of alternative is in need of work.
    none_continues : {es : Items inner_depth} {news : List (Items inner_depth)}
        → Turn inner_depth u.before g u.cycle (stage_made limits corners preserved i).hub.id es news
        → Continues after shape.rule.name es → ⊥
    none_continues (split x q) c =
        let e = corner_starts x c.head c.site c.rest c.starts in
        let z : ◌≡◌ {A = ℕ} 1 0 = sym q ∙ ap (λ h. h.quantifier) e.0 ∙ c.plain in
        omega arith
    none_continues (splice x q ne r m k) c =
        let e = corner_starts x c.head c.site c.rest c.starts in
        let y = stage_made limits corners preserved i in
        let w = rule_target u.before g (known u.before here_known).named here_known.names y.is_rule in
        ne (some-injective _ _ (sym x.known
        ∙ ap (target g) (ap (λ k. k.name) e.1 ∙ c.called ∙ ap (λ r. r.name) (sym hub_stands)) ∙ w))

    turn_corner : {es : Items inner_depth} {news : List (Items inner_depth)}
        → Turn inner_depth u.before g u.cycle (stage_made limits corners preserved i).hub.id es news
        → (j : ℕ) × (k : ℕ) × CornerAt g u.cycle es j k
    turn_corner (split {i = j} {t = k} x q) = (j, k, x)
    turn_corner (splice {i = j} {t = k} x q ne r m e) = (j, k, x)

    none_without : {es : Items inner_depth} {j k : ℕ} → CornerAt g u.cycle es j k → NoCorner corners after t.cycle es → ⊥
    none_without {es} y c =
        let (p, o, n, m) = corner_back y in
        let f = rule_found body_depth (λ r. r.name) after here_told.names o in
        let G = erase_rules body_depth after in
        c.none p o m
        (subst (Corner corners G (shape_of inner_depth es)) (sym n)
        (at_corner corners G inner_depth y (subst (λ n. find G n ≡ some (erase_block body_depth p.body)) n f)))

    pub not_again : ⊥
    not_again =
        let x = stage_made limits corners preserved i in
        let (es, m, news, w) = first_turn x.moves x.some_steps in
        let (a, n, e) = as_they_were inner_depth x.hub.body m in
        let b = subst (λ r. Memᴰ a r.body) hub_stands n in
        ⊎_elim
        (λ c. none_continues w (subst (Continues after shape.rule.name) e c))
        (λ c. let (j, k, y) = turn_corner w in none_without y (subst (NoCorner corners after t.cycle) e c))
        (shape.every a b)

  -- Along the stages that follow.
  follows_next : {u : Stage} → Follows u.before → Happened limits corners preserved u → Follows u.after.node
  follows_next {u} f i =
      record {
        leaves = leaves_trans body_depth here_told f.leaves (stage_leaves limits corners preserved f.leaves.told i);
        reach = λ n m r. f.reach n m (stage_reaches limits corners preserved f.leaves.told i corners r);
        stands = λ q m e. f.stands q (stage_stands limits corners preserved f.leaves.told i q m (λ w. not_again f i (sym w ∙ e))) e;
      }

  pub follows_all : {ks : List Rule} {us : List Stage} → Follows ks → Chain limits corners preserved ks us
      → Follows (rules_after ks us) × ((i : ℕ) → Memᴰ i (map (λ u. u.plan.hub) us) → i ≡ t.plan.hub → ⊥)
  follows_all f last = (f, λ i m. absurd (Memᴰ.not-nil m))
  follows_all f (next {t = u} e i c) =
      let b = subst Follows (sym e) f in
      let (x, y) = follows_all (follows_next b i) c in
      (x, λ j m w. ⊎_elim (λ z. not_again b i (sym z ∙ w)) (λ n. y j n w) (Memᴰ.cases_cons m))

  pub follows_here : Follows after
  follows_here = record { leaves = leaves_refl body_depth after here_told; reach = λ n m r. r; stands = λ q m e. m }

-- Each rule is the hub of at most one stage.
module _ (limits : Limits) (corners : Corners) (preserved : List ℕ) where
  abbrev pub hubs : List Stage → List ℕ
  hubs = map λ t. t.plan.hub

  pub hubs_distinct : {rs : List Rule} {ts : List Stage} → Told rs → Chain limits corners preserved rs ts → distinct (hubs ts) ≡ true
  unfolding distinct
  hubs_distinct k last = refl
  hubs_distinct k (next {t = t} {ts = ts} e h c) =
      let b = subst Told (sym e) k in
      let (x, y) = follows_all limits corners preserved b h (follows_here limits corners preserved b h) c in
      and_from (not (member t.plan.hub (hubs ts))) (distinct (hubs ts))
      (either (member t.plan.hub (hubs ts)) (λ m. absurd (y t.plan.hub (member_in (hubs ts) m) refl)) (λ n. ap not n))
      (hubs_distinct (stage_leaves limits corners preserved b h).told c)

  -- A hub is a rule of the grammar that the run starts with.
  pub hubs_rules : {rs : List Rule} {ts : List Stage} → Told rs → Chain limits corners preserved rs ts → {i : ℕ} → Memᴰ i (hubs ts)
      → Memᴰ i (ids_of rs)
  hubs_rules k last m = absurd (Memᴰ.not-nil m)
  hubs_rules {rs} k (next {t = t} {ts = ts} e h c) {i} m =
      let b = subst Told (sym e) k in
      let l = stage_leaves limits corners preserved b h in
      let x = stage_made limits corners preserved h in
      subst (λ rs. Memᴰ i (ids_of rs)) e
      (⊎_elim
      (λ z. subst (λ j. Memᴰ j (ids_of t.before)) (x.is_hub ∙ sym z) (in_map (λ r. r.id) x.is_rule))
      (λ n.
      let (q, o, w) = Memᴰ.of_map (λ r. r.id) t.after.node (hubs_rules l.told c n) in
      let (r, p, f, _) = l.stems q o in
      subst (λ j. Memᴰ j (ids_of t.before)) (sym f ∙ w) (in_map (λ r. r.id) p))
      (Memᴰ.cases_cons m))

  -- So stages never outnumber rules.
  pub chain_few : {rs : List Rule} {ts : List Stage} → Told rs → Chain limits corners preserved rs ts → length ts ≤ length rs
  chain_few {rs} {ts} k c =
      subst₂ ◌≤◌ (length-map ts (λ t. t.plan.hub)) (length-map rs (λ r. r.id))
      (no_more (hubs ts) (ids_of rs) (hubs_distinct k c) (λ i m. hubs_rules k c m))
