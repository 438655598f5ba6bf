-- The two sorts of planned alternatives (SPECIFICATION 9.3 and 9.4), as the rewriting test finds them.
use Rattle.std.specs.Prelude.{ℕ, suc, ◌≡◌, Bool, ◌&&◌, ◌||◌, drop, eqb}
use Rattle.std.proofs.Math.Path.{refl, sym, ap, subst}
use Rattle.std.proofs.Common.{◌∙◌}
use mathlib.Core.List.{List, [], ◌∷◌, Memᴰ}
use Rattle.std.proofs.Math.Option.{Option, none, some, some-injective, none-ne-some}
use Rattle.std.proofs.Math.Bool.{true, false, not, true≢false}
use Rattle.std.proofs.lemmas.Bool.{false≢true, or_parts}
use Rattle.std.specs.Cmp.{first_so, second_so}
use borrow.Author.Tests.{eqb-true, not-true, not-false}
use Rattle.grammar.specs.Laws.Lists.{member_in}
use Rattle.grammar.specs.Tree.{ElementHead, Call, epsilon, action, predicate, call, token, terminal, end_of_input, Element, leaf, block}
use Rattle.grammar.specs.Tree.{Block, RuleOf}
use Rattle.grammar.specs.Lists.{member, all, any, meet}
use Rattle.language.specs.Shape.{erase_rules}
use Rattle.language.specs.Derive.{CanBeEmpty}
use Rattle.grammar.specs.Corners.{Corners}
use Rattle.language.specs.LeftCorners.{Corner}
use Rattle.grammar.specs.Laws.Parse.{either}
use Rattle.grammar.specs.Numbers.{once}
use Rattle.reference.specs.Walks.{sort_of, is_one}
use Rattle.reference.specs.Analysis.{Grammar, target, grammar_of, element_nullable, block_is_nullable, left_corners}
use Rattle.reference.specs.Plan.{hub_call, is_hub_call, gives_hub_arguments, starts_with_hub_call, is_recursive, is_primary}
use Rattle.graph.specs.Members.{one_with}
use Rattle.laws.specs.Lists.Lookup.{any_false, target_rule}
use Rattle.laws.specs.Analysis.Empty.{elements_empty}
use Rattle.laws.specs.Analysis.LeftCorners.{left_corners_lem}
use Rattle.laws.specs.Planning.Turns.{Items}
use Rattle.laws.specs.Planning.Substituted.{Known, shape_of}

-- A call of the hub with quantifier 0.
module _ (g : Grammar) (hub : ℕ) {B : Type 0} where
  pub record HubCall (e : Element B) (c : Call) : Type 0 where
    pub head : ElementHead
    pub is : e ≡ leaf head (call c)
    pub known : target g c.name ≡ some hub
    pub plain : head.quantifier ≡ once

  hub_tested : (h : ElementHead) (c : Call) (o : Option ℕ) → target g c.name ≡ o → {b : Call}
      → (elim o as (λ x. Option Call) [ none ↦ none | some t ↦ elim (is_one h && eqb t hub) [ true ↦ some c | false ↦ none ] ]) ≡ some b
      → HubCall (leaf h (call c)) b
  hub_tested h c none k {b} e = absurd (none-ne-some b e)
  hub_tested h c (some t) k {b} e =
      either (is_one h && eqb t hub)
      (λ y.
      subst (HubCall (leaf h (call c))) (some-injective c b (rw y at e))
      (record {
        head = h;
        is = refl;
        known = k ∙ ap some (eqb-true t hub (second_so (is_one h) (eqb t hub) y));
        plain = eqb-true h.quantifier once (first_so (is_one h) (eqb t hub) y);
      }))
      (λ f. absurd (none-ne-some b (rw f at e)))

  pub hub_call_lem : (e : Element B) {c : Call} → hub_call g hub e ≡ some c → HubCall e c
  unfolding hub_call sort_of
  hub_call_lem (leaf h epsilon) {c} e = absurd (none-ne-some c e)
  hub_call_lem (leaf h (action a)) {c} e = absurd (none-ne-some c e)
  hub_call_lem (leaf h (predicate p)) {c} e = absurd (none-ne-some c e)
  hub_call_lem (leaf h (call k)) e = hub_tested h k (target g k.name) refl e
  hub_call_lem (leaf h (token n)) {c} e = absurd (none-ne-some c e)
  hub_call_lem (leaf h terminal) {c} e = absurd (none-ne-some c e)
  hub_call_lem (leaf h end_of_input) {c} e = absurd (none-ne-some c e)
  hub_call_lem (block h b) {c} e = absurd (none-ne-some c e)

  -- The first element is such a call, and no such call has arguments.
  pub hub_starts : (es : List (Element B)) → starts_with_hub_call g hub es ≡ true → any (gives_hub_arguments g hub) es ≡ false
      → (e : Element B) × (rest : List (Element B)) × (es ≡ e ∷ rest) × (c : Call) × HubCall e c × (c.arguments ≡ 0)
  unfolding starts_with_hub_call is_hub_call gives_hub_arguments any
  hub_starts [] t f = absurd (false≢true t)
  hub_starts (e ∷ rest) t f =
      let (c, h, n) = go (hub_call g hub e) refl t (any_false (gives_hub_arguments g hub) f (Memᴰ.head {xs = rest} refl)) in
      (e, rest, refl, c, h, n)
    where
      go : (o : Option Call) → hub_call g hub e ≡ o → (elim o as (λ x. Bool) [ none ↦ false | some c ↦ true ]) ≡ true
          → (elim o as (λ x. Bool) [ none ↦ false | some c ↦ not (eqb c.arguments 0) ]) ≡ false
          → (c : Call) × HubCall e c × (c.arguments ≡ 0)
      go none k t f = absurd (false≢true t)
      go (some c) k t f = (c, hub_call_lem e k, eqb-true c.arguments 0 (not-false (eqb c.arguments 0) f))

module _ (d : ℕ) (G : List (RuleOf (Block (suc d)))) where
  -- It starts with the plain call of a rule, without arguments, and goes on with something that cannot be empty.
  pub record Recursive (name : ℕ) (es : Items d) : Type 0 where
    pub head : ElementHead
    pub site : Call
    pub rest : Items d
    pub starts : es ≡ leaf head (call site) ∷ rest
    pub called : site.name ≡ name
    pub plain : head.quantifier ≡ once
    pub bare : site.arguments ≡ 0
    pub goes_on : CanBeEmpty (erase_rules (suc d) G) (shape_of d rest) → ⊥

  -- It has no left corner in the cycle.
  abbrev pub Primary : Corners → List ℕ → Items d → Type 0
  Primary c cycle es =
      (q : RuleOf (Block (suc d))) → Memᴰ q G → member q.id cycle ≡ true
      → Corner c (erase_rules (suc d) G) (shape_of d es) q.name → ⊥

module _ (c : Corners) {d : ℕ} {rs : List (RuleOf (Block (suc d)))} (k : Known (suc d) rs (grammar_of (suc d) rs))
    (cycle : List ℕ) {hub : RuleOf (Block (suc d))} (is_rule : Memᴰ hub rs) where
  abbrev g : Grammar
  g = grammar_of (suc d) rs

  -- Before the plan, of planned elements.
  pub primary_before : (es : Items d) → is_primary c g cycle hub.id d es ≡ true → Primary d rs c cycle es
  unfolding is_primary meet
  primary_before es t q m i h =
      let f = not-true (starts_with_hub_call g hub.id es || meet (left_corners c g d es) cycle) t in
      let n : meet (left_corners c g d es) cycle ≡ false = (or_parts (starts_with_hub_call g hub.id es) _ f).1 in
      let j = (left_corners_lem c (suc d) rs k.ids k.names d es q.id).1 (record { rule = q; there = m; id = refl; corner = h }) in
      true≢false (sym i ∙ any_false (λ y. member y cycle) n (member_in (left_corners c g d es) j))

  pub recursive_before : (es : Items d) → is_recursive g hub.id d es ≡ true → any (gives_hub_arguments g hub.id) es ≡ false
      → Recursive d rs hub.name es
  unfolding is_recursive
  recursive_before es t f =
      let tail = all (element_nullable g (block_is_nullable g d)) (drop 1 es) in
      let a = first_so (starts_with_hub_call g hub.id es) (not tail) t in
      let b = not-true tail (second_so (starts_with_hub_call g hub.id es) (not tail) t) in
      let (e, rest, w, site, h, bare) = hub_starts g hub.id es a f in
      let r = target_rule rs g k.named site.name h.known in
      let same = one_with (λ r. r.id) rs k.ids r.1 is_rule r.3 in
      record {
        head = h.head;
        site = site;
        rest = rest;
        starts = w ∙ ap (λ y. y ∷ rest) h.is;
        called = sym r.2 ∙ ap (λ r. r.name) same;
        plain = h.plain;
        bare = bare;
        goes_on = λ o.
            true≢false
            (sym ((elements_empty (suc d) rs k.ids k.names d rest).1 o)
            ∙ subst (λ l. all (element_nullable g (block_is_nullable g d)) (drop 1 l) ≡ false) w b);
      }
