-- What planned_corner finds: where the call of a member of the cycle stands, and whether work is left there.
use Rattle.std.specs.Prelude.{ℕ, zero, suc, Bool, ◌&&◌, length, take, drop, eqb}
use Rattle.std.proofs.Math.Path.{◌≡◌, refl}
use Rattle.std.proofs.Common.{sym, ap, ◌∙◌, subst, take_at, drop_at}
use mathlib.Core.List.{List, [], ◌∷◌, ◌++◌}
use Rattle.std.proofs.Math.Option.{Option, none, some}
use Rattle.std.proofs.Math.Bool.{true, false, true≢false}
use Rattle.std.proofs.lemmas.Bool.{false≢true, and_from}
use Rattle.std.specs.Cmp.{first_so, second_so}
use native.Mathlib.Omega.{arith}
use borrow.Author.Tests.{eqb-true, eq-eqb}
use Rattle.grammar.specs.Lists.{AllOf, member}
use Rattle.grammar.specs.Tree.{ElementHead, Call, epsilon, action, predicate, call, token, terminal, end_of_input, Element, leaf, block}
use Rattle.grammar.specs.Laws.Parse.{either}
use Rattle.grammar.specs.Numbers.{once, optional_greedy}
use Rattle.reference.specs.Walks.{Sort, silent, consuming, calling, sort_of, is_epsilon_only, is_one, bare_reference}
use Rattle.reference.specs.Analysis.{Grammar, target}
use Rattle.reference.specs.Substitute.{PlannedCorner, optional, satellite, blocked, settled, further, member_corner, planned_corner}
use Rattle.laws.specs.Demands.Step.{CornerAt, Work}

module _ (g : Grammar) (cycle : List ℕ) (hub : ℕ) where
  -- What the answer of planned_corner says.
  abbrev pub Means : {B : Type 0} → List (Element B) → PlannedCorner → Type 0
  Means es (optional i t) = (x : CornerAt g cycle es i t) × (x.head.quantifier ≡ optional_greedy)
  Means es (satellite i t) = (x : CornerAt g cycle es i t) × (x.head.quantifier ≡ once) × (t ≡ hub → ⊥)
  Means es blocked = (i : ℕ) × (t : ℕ) × CornerAt g cycle es i t
  Means es settled = Unit {0}

  -- Settled is what has no work left.
  member_work : (h : ElementHead) (c : Call) (t : ℕ) → member_corner hub h c t ≡ settled → (t ≡ hub) × (h.quantifier ≡ once)
  unfolding member_corner
  member_work h c t e =
      either (eqb h.quantifier optional_greedy && bare_reference h c)
      (λ o. let f : optional 0 t ≡ settled = rw (o, member_corner) at e in absurd (let z : ◌≡◌ {A = ℕ} 0 1 = cc in omega arith))
      (λ o.
      either (eqb t hub && is_one h)
      (λ s. (eqb-true t hub (first_so (eqb t hub) (is_one h) s), eqb-true h.quantifier once (second_so (eqb t hub) (is_one h) s)))
      (λ s. let f = rw (o, member_corner) at e in let k = rw s at f in absurd (last (is_one h && bare_reference h c) k)))
    where
      last : (b : Bool) → (elim b as (λ x. PlannedCorner) [ true ↦ satellite 0 t | false ↦ blocked ]) ≡ settled → ⊥
      last true k = let z : ◌≡◌ {A = ℕ} 0 1 = cc in omega arith
      last false k = let z : ◌≡◌ {A = ℕ} 0 1 = cc in omega arith

  further_settled : (c : PlannedCorner) → further c ≡ settled → c ≡ settled
  unfolding further
  further_settled (optional i t) e = absurd (let z : ◌≡◌ {A = ℕ} 0 1 = cc in omega arith)
  further_settled (satellite i t) e = absurd (let z : ◌≡◌ {A = ℕ} 0 1 = cc in omega arith)
  further_settled blocked e = absurd (let z : ◌≡◌ {A = ℕ} 0 1 = cc in omega arith)
  further_settled settled e = refl

  module _ {B : Type 0} where
    corner_further : {es : List (Element B)} {i t : ℕ} (e : Element B) → is_epsilon_only e ≡ true → CornerAt g cycle es i t
        → CornerAt g cycle (e ∷ es) (suc i) t
    corner_further e s x =
        record {
          front = e ∷ x.front;
          head = x.head;
          site = x.site;
          rest = x.rest;
          whole = ap (λ l. e ∷ l) x.whole;
          place = ap suc x.place;
          silent = (s, x.silent);
          known = x.known;
          in_cycle = x.in_cycle;
        }

    means_further : (es : List (Element B)) (e : Element B) → is_epsilon_only e ≡ true → (c : PlannedCorner) → Means es c
        → Means (e ∷ es) (further c)
    unfolding further corner_further
    means_further es e s (optional i t) x = (corner_further e s x.0, x.1)
    means_further es e s (satellite i t) x = (corner_further e s x.0, x.1, x.2)
    means_further es e s blocked x = (suc x.0, x.1, corner_further e s x.2)
    means_further es e s settled x = tt

    member_means : (es : List (Element B)) (h : ElementHead) (c : Call) (t : ℕ) → target g c.name ≡ some t → member t cycle ≡ true
        → Means (leaf h (call c) ∷ es) (member_corner hub h c t)
    unfolding member_corner
    member_means es h c t k m =
        either (eqb h.quantifier optional_greedy && bare_reference h c)
        (λ o. rw (o, member_corner) (
          here,
          eqb-true h.quantifier optional_greedy
              (first_so (eqb h.quantifier optional_greedy) (bare_reference h c) o),
        ))
        (λ o.
        either (eqb t hub && is_one h)
        (λ s. rw (o, member_corner) (rw s tt))
        (λ s.
        either (is_one h && bare_reference h c)
        (λ b.
        let one = first_so (is_one h) (bare_reference h c) b in
        rw (o, member_corner) (rw (s, b)
        (here, eqb-true h.quantifier once one, λ p. true≢false (sym (and_from (eqb t hub) (is_one h) (eq-eqb t hub p) one) ∙ s))))
        (λ b. rw (o, member_corner) (rw (s, b) (0, t, here)))))
      where
        here : CornerAt g cycle (leaf h (call c) ∷ es) 0 t
        here = record { front = []; head = h; site = c; rest = es; whole = refl; place = refl; silent = tt; known = k; in_cycle = m }

    call_means : (es : List (Element B)) (h : ElementHead) (c : Call) (o : Option ℕ) → target g c.name ≡ o
        → Means (leaf h (call c) ∷ es) (elim o as (λ x. PlannedCorner)
        [ none ↦ settled | some t ↦ elim (member t cycle) [ true ↦ member_corner hub h c t | false ↦ settled ] ])
    call_means es h c none k = tt
    call_means es h c (some t) k = either (member t cycle) (λ m. rw m (member_means es h c t k m)) (λ m. rw m tt)

    pub corner_means : (es : List (Element B)) → Means es (planned_corner g cycle hub es)
    unfolding planned_corner sort_of is_epsilon_only
    corner_means [] = tt
    corner_means (leaf h epsilon ∷ es) = means_further es (leaf h epsilon) refl (planned_corner g cycle hub es) (corner_means es)
    corner_means (leaf h (action a) ∷ es) = means_further es (leaf h (action a)) refl (planned_corner g cycle hub es) (corner_means es)
    corner_means (leaf h (predicate p) ∷ es) =
        means_further es (leaf h (predicate p)) refl (planned_corner g cycle hub es) (corner_means es)
    corner_means (leaf h (call c) ∷ es) = call_means es h c (target g c.name) refl
    corner_means (leaf h (token n) ∷ es) = tt
    corner_means (leaf h terminal ∷ es) = tt
    corner_means (leaf h end_of_input ∷ es) = tt
    corner_means (block h b ∷ es) = tt

    settled_behind : (front es : List (Element B)) → AllOf (λ e. is_epsilon_only e ≡ true) front
        → planned_corner g cycle hub (front ++ es) ≡ settled
        → planned_corner g cycle hub es ≡ settled
    unfolding planned_corner is_epsilon_only
    settled_behind [] es s e = e
    settled_behind (leaf x l ∷ front) es s e = go (sort_of l) refl s.0 (settled_behind front es s.1)
      where
        go : (o : Sort) → sort_of l ≡ o → (elim o as (λ x. Bool) [ silent ↦ true | consuming ↦ false | calling k ↦ false ]) ≡ true
            → (planned_corner g cycle hub (front ++ es) ≡ settled → planned_corner g cycle hub es ≡ settled)
            → planned_corner g cycle hub es ≡ settled
        go silent k t ih = ih (further_settled (planned_corner g cycle hub (front ++ es)) (rw (k, planned_corner) at e))
        go consuming k t ih = absurd (false≢true t)
        go (calling c) k t ih = absurd (false≢true t)
    settled_behind (block x b ∷ front) es s e = absurd (false≢true s.0)

    pub work_unsettled : {es : List (Element B)} → Work g cycle hub es → planned_corner g cycle hub es ≡ settled → ⊥
    unfolding planned_corner sort_of
    work_unsettled {es} w e =
        let x = w.corner in
        let at =
        settled_behind x.front (leaf x.head (call x.site) ∷ x.rest) x.silent
        (ap (planned_corner g cycle hub) x.whole ∙ e) in
        let here : member_corner hub x.head x.site w.rule ≡ settled = rw x.in_cycle at (rw (x.known, planned_corner) at at) in
        let (same, one) = member_work x.head x.site w.rule here in
        w.unsettled same one

-- The elements in front of the call, and those behind it.
module _ {A : Type 0} (front : List A) (x : A) (rest : List A) where
  pub take_front : {es : List A} {i : ℕ} → front ++ (x ∷ rest) ≡ es → length front ≡ i → take i es ≡ front
  take_front {i = i} w p = subst (λ l. take i l ≡ front) w (take_at front (x ∷ rest) i p)

  pub drop_front : {es : List A} {i : ℕ} → front ++ (x ∷ rest) ≡ es → length front ≡ i → drop i es ≡ x ∷ rest
  drop_front {i = i} w p = subst (λ l. drop i l ≡ x ∷ rest) w (drop_at front (x ∷ rest) i p)

  pub drop_behind : {es : List A} {i : ℕ} → front ++ (x ∷ rest) ≡ es → length front ≡ i → drop (suc i) es ≡ rest
  drop_behind {es} {i} w p = sym (drop_more es i) ∙ ap (drop 1) (drop_front w p)
    where
      drop_more : (l : List A) (n : ℕ) → drop 1 (drop n l) ≡ drop (suc n) l
      drop_more [] zero = refl
      drop_more (y ∷ l) zero = refl
      drop_more [] (suc n) = refl
      drop_more (y ∷ l) (suc n) = drop_more l n
