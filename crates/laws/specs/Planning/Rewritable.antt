-- A planned list passes the rewriting test exactly if it has the shape that Demands.Rewritable tells.
use Rattle.std.specs.Prelude.{ℕ, suc, ◌≡◌, ◌↔◌, ◌⊎◌, ◌||◌, eqb}
use Rattle.std.proofs.Math.Path.{refl, sym, ap, subst}
use Rattle.std.proofs.Common.{◌∙◌, ⊎_elim}
use Rattle.std.proofs.Math.Logic.{inl, inr, ⊎_map}
use mathlib.Core.List.{List, [], ◌∷◌, Memᴰ}
use Rattle.std.proofs.Math.Option.{Option, none, some}
use Rattle.std.proofs.Math.Bool.{Bool, true, false, not, true≢false, false≢true}
use borrow.Author.Tests.{eqb-true, eq-eqb, not-true, not-false}
use Rattle.std.proofs.lemmas.Bool.{or_right, or_parts, and_from}
use Rattle.std.specs.Cmp.{first_so, second_so}
use Rattle.grammar.specs.Lists.{member, all, any, meet}
use Rattle.grammar.specs.Laws.Lists.{in_member}
use Rattle.grammar.specs.Laws.Parse.{either}
use Rattle.grammar.specs.Tree.{ElementHead, Call, epsilon, action, predicate, call, token, terminal, end_of_input, Element, leaf, block}
use Rattle.grammar.specs.Tree.{Block, RuleOf, Rule, body_depth}
use Rattle.grammar.specs.Corners.{Corners}
use Rattle.reference.specs.Walks.{sort_of, is_epsilon_only}
use Rattle.reference.specs.Analysis.{Grammar, target, calls, grammar_of, element_nullable, block_is_nullable, left_corners}
use Rattle.reference.specs.Analysis.{collect_left_corner_calls}
use Rattle.reference.specs.Substitute.{Planned}
use Rattle.reference.specs.Run.{inner_depth}
use Rattle.reference.specs.Plan.{hub_call, is_hub_call, gives_hub_arguments, starts_with_hub_call, is_recursive, is_primary, is_fit}
use Rattle.reference.specs.Plan.{planned_hub_is_directly_rewritable}
use Rattle.laws.specs.Demands.Rewritable.{Silent, is_epsilon, is_action, is_predicate, Rewritable}
use Rattle.laws.specs.Demands.Shape.{Continues}
use Rattle.laws.specs.Lists.Lookup.{all_in, any_in, any_false, target_name, rule_target}
use Rattle.laws.specs.Lists.Every.{in_all, not_all}
use Rattle.laws.specs.Analysis.Empty.{elements_empty}
use Rattle.laws.specs.Analysis.LeftCorners.{left_corners_lem}
use Rattle.laws.specs.Planning.Turns.{Items}
use Rattle.laws.specs.Planning.Substituted.{Known}
use Rattle.laws.specs.Planning.Collisions.{in_any}
use Rattle.laws.specs.Planning.Sorts.{hub_call_lem, Recursive, Primary, primary_before, recursive_before}

silent_only : {B : Type 0} {e : Element B} → Silent e → is_epsilon_only e ≡ true
unfolding is_epsilon_only sort_of
silent_only is_epsilon = refl
silent_only is_action = refl
silent_only is_predicate = refl

only_silent : {B : Type 0} (e : Element B) → is_epsilon_only e ≡ true → Silent e
unfolding is_epsilon_only sort_of
only_silent (leaf h epsilon) t = is_epsilon
only_silent (leaf h (action a)) t = is_action
only_silent (leaf h (predicate p)) t = is_predicate
only_silent (leaf h (call c)) t = absurd (false≢true t)
only_silent (leaf h (token n)) t = absurd (false≢true t)
only_silent (leaf h terminal) t = absurd (false≢true t)
only_silent (leaf h end_of_input) t = absurd (false≢true t)
only_silent (block h b) t = absurd (false≢true t)

module _ (c : Corners) {d : ℕ} {rs : List (RuleOf (Block (suc d)))} (k : Known (suc d) rs (grammar_of (suc d) rs))
    (cycle : List ℕ) {hub : RuleOf (Block (suc d))} (is_rule : Memᴰ hub rs) (in_cycle : member hub.id cycle ≡ true) where
  abbrev g : Grammar
  g = grammar_of (suc d) rs

  -- A call of the hub's name with quantifier 0 is the hub's call.
  calls_hub : (h : ElementHead) (s : Call) → s.name ≡ hub.name → h.quantifier ≡ 0
      → hub_call g hub.id {B = Block d} (leaf h (call s)) ≡ some s
  unfolding hub_call sort_of
  calls_hub h s e q =
      let t : target g s.name ≡ some hub.id = ap (target g) e ∙ rule_target rs g k.named k.names is_rule in
      rw (t, hub_call) (rw (eq-eqb h.quantifier 0 q, eq-eqb hub.id hub.id refl))

  no_arguments_lem : (es : Items d) → (any (gives_hub_arguments g hub.id) es ≡ false)
      ↔ ((h : ElementHead) (s : Call) → Memᴰ (leaf h (call s)) es → s.name ≡ hub.name → h.quantifier ≡ 0 → s.arguments ≡ 0)
  unfolding gives_hub_arguments
  no_arguments_lem es = (
    λ f h s m e q.
        let u = any_false (gives_hub_arguments g hub.id) f m in
        eqb-true s.arguments 0 (not-false (eqb s.arguments 0) (rw (calls_hub h s e q, gives_hub_arguments) at u)),
    λ none_has.
        either (any (gives_hub_arguments g hub.id) es)
        (λ t. let (e, m, u) = any_in (gives_hub_arguments g hub.id) es t in absurd (go none_has e m (hub_call g hub.id e) refl u))
        (λ f. f),
  )
    where
      go : ((h : ElementHead) (s : Call) → Memᴰ (leaf h (call s)) es → s.name ≡ hub.name → h.quantifier ≡ 0 → s.arguments ≡ 0)
          → (e : Element (Block d)) → Memᴰ e es → (o : Option Call) → hub_call g hub.id e ≡ o
          → (elim o as (λ x. Bool) [ none ↦ false | some s ↦ not (eqb s.arguments 0) ]) ≡ true
          → ⊥
      go h e m none w u = false≢true u
      go h e m (some s) w u =
          let x = hub_call_lem g hub.id e w in
          let n = sym (target_name rs g k.named k.ids is_rule s.name x.known) in
          let a = h x.head s (subst (λ e. Memᴰ e es) x.is m) n x.plain in
          true≢false (sym (eq-eqb s.arguments 0 a) ∙ not-true (eqb s.arguments 0) u)

  before_recursive : (es : Items d) → Recursive d rs hub.name es → is_recursive g hub.id d es ≡ true
  unfolding is_recursive starts_with_hub_call is_hub_call
  before_recursive es x =
      subst (λ l. is_recursive g hub.id d l ≡ true) (sym x.starts)
      (and_from (is_hub_call g hub.id (leaf x.head (call x.site))) _
      (rw (calls_hub x.head x.site x.called x.plain, is_hub_call))
      (either (all (element_nullable g (block_is_nullable g d)) x.rest)
      (λ t. absurd (x.goes_on ((elements_empty (suc d) rs k.ids k.names d x.rest).0 t)))
      (λ f. ap not f)))

  -- A list that starts with the hub's call has the hub among its left corners.
  starts_corner : (es : Items d) → starts_with_hub_call g hub.id es ≡ true → Memᴰ hub.id (left_corners c g d es)
  unfolding starts_with_hub_call is_hub_call left_corners collect_left_corner_calls calls sort_of
  starts_corner [] t = absurd (false≢true t)
  starts_corner (e ∷ es) t = go (hub_call g hub.id e) refl t
    where
      go : (o : Option Call) → hub_call g hub.id e ≡ o → (elim o as (λ x. Bool) [ none ↦ false | some s ↦ true ]) ≡ true
          → Memᴰ hub.id (left_corners c g d (e ∷ es))
      go none w u = absurd (false≢true u)
      go (some s) w u =
          let x = hub_call_lem g hub.id e w in
          subst (λ e. Memᴰ hub.id (left_corners c g d (e ∷ es))) (sym x.is) (rw (x.known, calls) (Memᴰ.head refl))

  before_primary : (es : Items d) → Primary d rs c cycle es → is_primary c g cycle hub.id d es ≡ true
  unfolding is_primary meet
  before_primary es x =
      let corners = left_corners c g d es in
      let apart : meet corners cycle ≡ false =
      either (meet corners cycle)
      (λ t.
      let (i, m, u) = any_in (λ y. member y cycle) corners t in
      let r = (left_corners_lem c (suc d) rs k.ids k.names d es i).0 (in_member m) in
      absurd (x r.rule r.there (ap (λ j. member j cycle) r.id ∙ u) r.corner))
      (λ f. f) in
      let unstarted : starts_with_hub_call g hub.id es ≡ false =
      either (starts_with_hub_call g hub.id es)
      (λ t. absurd (true≢false (sym (in_any (λ y. member y cycle) (starts_corner es t) in_cycle) ∙ apart)))
      (λ f. f) in
      rw unstarted (rw apart)

  significant : (es : Items d) → (all is_epsilon_only es ≡ false) ↔ ((e : Element (Block d)) × Memᴰ e es × (Silent e → ⊥))
  significant es = (
    λ f. let (e, m, u) = not_all is_epsilon_only es f in (e, m, λ s. true≢false (sym (silent_only s) ∙ u)),
    λ x.
        either (all is_epsilon_only es) (λ t. absurd (x.2 (only_silent x.0 (all_in is_epsilon_only t x.1)))) (λ f. f),
  )

  -- One turn of the test.
  pub record Fits (es : Items d) : Type 0 where
    pub without : (h : ElementHead) (s : Call) → Memᴰ (leaf h (call s)) es → s.name ≡ hub.name → h.quantifier ≡ 0
        → s.arguments ≡ 0
    pub some_there : (e : Element (Block d)) × Memᴰ e es × (Silent e → ⊥)
    pub sort : Recursive d rs hub.name es ⊎ Primary d rs c cycle es

  fits_told : (es : Items d) → (is_fit c g cycle hub.id d es ≡ true) ↔ Fits es
  unfolding is_fit
  fits_told es = (
    λ t.
        let f = not-true (any (gives_hub_arguments g hub.id) es || all is_epsilon_only es) (first_so _ _ t) in
        let (without, only) = or_parts (any (gives_hub_arguments g hub.id) es) (all is_epsilon_only es) f in
        record {
          without = (no_arguments_lem es).0 without;
          some_there = (significant es).0 only;
          sort =
              either (is_primary c g cycle hub.id d es)
              (λ y. inr (primary_before c k cycle is_rule es y))
              (λ n. inl (recursive_before c k cycle is_rule es
              (rw n at (second_so (not (any (gives_hub_arguments g hub.id) es || all is_epsilon_only es)) _ t)) without));
        },
    λ x.
        and_from (not (any (gives_hub_arguments g hub.id) es || all is_epsilon_only es)) (is_primary c g cycle hub.id d es
        || is_recursive g hub.id d es)
        (rw ((no_arguments_lem es).1 x.without) (rw ((significant es).1 x.some_there)))
        (⊎_elim
        (λ y. or_right (is_primary c g cycle hub.id d es) _ (before_recursive es y))
        (λ y. ap (λ b. b || is_recursive g hub.id d es) (before_primary es y))
        x.sort),
  )

  -- Of the whole list.
  pub record Passes (ps : List (Planned d)) : Type 0 where
    pub every : (p : Planned d) → Memᴰ p ps → Fits p.elements
    pub one_primary : (p : Planned d) × Memᴰ p ps × Primary d rs c cycle p.elements
    pub one_recursive : (p : Planned d) × Memᴰ p ps × Recursive d rs hub.name p.elements

  passes_told : (ps : List (Planned d)) → (planned_hub_is_directly_rewritable c g cycle hub.id d ps ≡ true) ↔ Passes ps
  unfolding planned_hub_is_directly_rewritable
  passes_told ps = (
    λ t.
        let fit = first_so (all fits ps) _ t in
        let both = second_so (all fits ps) _ t in
        let (p, m, u) = any_in primary ps (first_so (any primary ps) _ both) in
        let (q, n, w) = any_in recursive ps (second_so (any primary ps) _ both) in
        let every : (p : Planned d) → Memᴰ p ps → Fits p.elements = λ p m. (fits_told p.elements).0 (all_in fits fit m) in
        record {
          every = every;
          one_primary = (p, m, primary_before c k cycle is_rule p.elements u);
          one_recursive = (q, n, recursive_before c k cycle is_rule q.elements w ((no_arguments_lem q.elements).1 (every q n).without));
        },
    λ x.
        and_from (all fits ps) _ (in_all fits ps (λ p m. (fits_told p.elements).1 (x.every p m)))
        (and_from (any primary ps) _
        (in_any primary x.one_primary.1 (before_primary x.one_primary.0.elements x.one_primary.2))
        (in_any recursive x.one_recursive.1 (before_recursive x.one_recursive.0.elements x.one_recursive.2))),
  )
    where
      fits : Planned d → Bool
      fits p = is_fit c g cycle hub.id d p.elements

      primary : Planned d → Bool
      primary p = is_primary c g cycle hub.id d p.elements

      recursive : Planned d → Bool
      recursive p = is_recursive g hub.id d p.elements

-- The same in the words of the demands.
pub rewritable_told_lem : (c : Corners) (rules : List Rule) → Known body_depth rules (grammar_of body_depth rules)
    → (cycle : List ℕ) (hub : Rule)
    → Memᴰ hub rules → member hub.id cycle ≡ true → (ps : List (Planned inner_depth))
    → (planned_hub_is_directly_rewritable c (grammar_of body_depth rules) cycle hub.id inner_depth ps ≡ true)
    ↔ Rewritable c rules cycle hub ps
rewritable_told_lem c rules k cycle hub m i ps =
    let (to, from) = passes_told c k cycle m i ps in (
      λ t.
          let x = to t in
          record {
            no_arguments = λ p n. (x.every p n).without;
            significant = λ p n. (x.every p n).some_there;
            every = λ p n. ⊎_map continues (λ y. record { none = y }) (x.every p n).sort;
            one_continues = let (p, n, y) = x.one_recursive in (p, n, continues y);
            one_without = let (p, n, y) = x.one_primary in (p, n, record { none = y });
          },
      λ x.
          from (record {
            every = λ p n.
                record {
                  without = x.no_arguments p n;
                  some_there = x.significant p n;
                  sort = ⊎_map recursive (λ y. y.none) (x.every p n);
                };
            one_recursive = let (p, n, y) = x.one_continues in (p, n, recursive y);
            one_primary = let (p, n, y) = x.one_without in (p, n, y.none);
          }),
    )
  where
    continues : {es : Items inner_depth} → Recursive inner_depth rules hub.name es → Continues rules hub.name es
    continues y =
        record {
          head = y.head;
          site = y.site;
          rest = y.rest;
          starts = y.starts;
          called = y.called;
          plain = y.plain;
          bare = y.bare;
          goes_on = y.goes_on;
        }

    recursive : {es : Items inner_depth} → Continues rules hub.name es → Recursive inner_depth rules hub.name es
    recursive y =
        record {
          head = y.head;
          site = y.site;
          rest = y.rest;
          starts = y.starts;
          called = y.called;
          plain = y.plain;
          bare = y.bare;
          goes_on = y.goes_on;
        }
