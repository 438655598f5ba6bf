-- What planned_corner finds at a call of a member of the cycle is what the table of SPECIFICATION 8.2 says.
use Rattle.std.specs.Prelude.{ℕ, suc, ◌≡◌, ◌↔◌, Bool, ◌&&◌, length, eqb}
use Rattle.std.proofs.Math.Path.{refl}
use Rattle.std.proofs.Common.{sym, ap, ◌∙◌, subst, subst₂, arith}
use mathlib.Core.List.{List, [], ◌∷◌, ◌++◌}
use Rattle.std.proofs.Math.Option.{some}
use Rattle.std.proofs.Math.Bool.{true, false, true≢false}
use Rattle.std.proofs.lemmas.Bool.{false≢true, and_from}
use Rattle.std.specs.Cmp.{first_so, second_so}
use borrow.Author.Tests.{eqb-true, eq-eqb}
use Rattle.grammar.specs.Lists.{AllOf, member, is_empty}
use Rattle.grammar.specs.Tree.{OptionDecl, Label, unlabelled, labelled, ElementHead, Call, call, Element, leaf, block}
use Rattle.grammar.specs.Laws.Parse.{either}
use Rattle.grammar.specs.Numbers.{optional_greedy}
use Rattle.reference.specs.Walks.{Sort, silent, consuming, calling, sort_of, is_epsilon_only, is_one, bare_reference}
use Rattle.reference.specs.Analysis.{Grammar, target}
use Rattle.reference.specs.Substitute.{PlannedCorner, optional, satellite, blocked, settled, further, member_corner, planned_corner}
use Rattle.laws.specs.Demands.Step.{CornerAt, Work}
use Rattle.laws.specs.Demands.Declines.{Bare, Splits, Settles, Splices, Blocks, CornersTold}
use Rattle.laws.specs.Planning.Corner.{Means, corner_means, work_unsettled}

bare_told : (h : ElementHead) (c : Call) → (bare_reference h c ≡ true) ↔ Bare h c
unfolding bare_reference
bare_told h c = (
  go h.label refl,
  λ b. rw (b.no_label, bare_reference) (and_from (eqb c.arguments 0) (is_empty h.options)
      (eq-eqb c.arguments 0 b.no_arguments) (ap is_empty b.no_options)),
)
  where
    none_there : (os : List OptionDecl) → is_empty os ≡ true → os ≡ []
    none_there [] e = refl
    none_there (o ∷ os) e = absurd (false≢true e)

    go : (l : Label) → h.label ≡ l
        → (elim l as (λ x. Bool) [ unlabelled ↦ eqb c.arguments 0 && is_empty h.options | labelled i n ↦ false ]) ≡ true
        → Bare h c
    go unlabelled k e =
        record {
          no_label = k;
          no_options = none_there h.options (second_so (eqb c.arguments 0) (is_empty h.options) e);
          no_arguments = eqb-true c.arguments 0 (first_so (eqb c.arguments 0) (is_empty h.options) e);
        }
    go (labelled i n) k e = absurd (false≢true e)

-- What the four lines say of a call with so many elements in front.
data Line (hub : ℕ) (h : ElementHead) (c : Call) (t n : ℕ) : PlannedCorner → Type 0 where
  split_line : Splits hub h c t → Line hub h c t n (optional n t)
  hub_line : Settles hub h c t → Line hub h c t n settled
  splice_line : Splices hub h c t → Line hub h c t n (satellite n t)
  block_line : Blocks hub h c t → Line hub h c t n blocked

module _ (hub : ℕ) (h : ElementHead) (c : Call) (t : ℕ) where
  line_of : Line hub h c t 0 (member_corner hub h c t)
  unfolding member_corner
  line_of =
      either (eqb h.quantifier optional_greedy && bare_reference h c)
      (λ o. rw (o, member_corner) (split_line (record {
        quantifier = eqb-true h.quantifier 1 (first_so (eqb h.quantifier optional_greedy) (bare_reference h c) o);
        bare = (bare_told h c).0 (second_so (eqb h.quantifier optional_greedy) (bare_reference h c) o);
      })))
      (λ o.
      either (eqb t hub && is_one h)
      (λ s. rw (o, member_corner) (rw s (hub_line (record {
        quantifier = eqb-true h.quantifier 0 (second_so (eqb t hub) (is_one h) s);
        is_hub = eqb-true t hub (first_so (eqb t hub) (is_one h) s);
      }))))
      (λ s.
      let not_hub : h.quantifier ≡ 0 → t ≡ hub → ⊥ =
      λ q e. true≢false (sym (and_from (eqb t hub) (is_one h) (eq-eqb t hub e) (eq-eqb h.quantifier 0 q)) ∙ s) in
      either (is_one h && bare_reference h c)
      (λ b.
      let q = eqb-true h.quantifier 0 (first_so (is_one h) (bare_reference h c) b) in
      rw (o, member_corner) (rw (s, b) (splice_line (record {
        quantifier = q;
        bare = (bare_told h c).0 (second_so (is_one h) (bare_reference h c) b);
        not_hub = not_hub q;
      }))))
      (λ b. rw (o, member_corner) (rw (s, b) (block_line (record {
        no_split = λ x. true≢false (sym (and_from (eqb h.quantifier 1) (bare_reference h c) (eq-eqb h.quantifier 1 x.quantifier)
            ((bare_told h c).1 x.bare)) ∙ o);
        no_hub = λ x. not_hub x.quantifier x.is_hub;
        no_splice = λ x. true≢false (sym (and_from (is_one h) (bare_reference h c) (eq-eqb h.quantifier 0 x.quantifier)
            ((bare_told h c).1 x.bare)) ∙ b);
      }))))))

  line_further : {n : ℕ} {k : PlannedCorner} → Line hub h c t n k → Line hub h c t (suc n) (further k)
  unfolding further
  line_further (split_line x) = split_line x
  line_further (hub_line x) = hub_line x
  line_further (splice_line x) = splice_line x
  line_further (block_line x) = block_line x

  -- One line alone holds.
  apart : {q : ℕ} → q ≡ 0 → q ≡ 1 → ⊥
  apart e f = omega arith

  is_split : Splits hub h c t → {n : ℕ} {k : PlannedCorner} → Line hub h c t n k → k ≡ optional n t
  is_split x (split_line y) = refl
  is_split x (hub_line y) = absurd (apart y.quantifier x.quantifier)
  is_split x (splice_line y) = absurd (apart y.quantifier x.quantifier)
  is_split x (block_line y) = absurd (y.no_split x)

  is_splice : Splices hub h c t → {n : ℕ} {k : PlannedCorner} → Line hub h c t n k → k ≡ satellite n t
  is_splice x (split_line y) = absurd (apart x.quantifier y.quantifier)
  is_splice x (hub_line y) = absurd (x.not_hub y.is_hub)
  is_splice x (splice_line y) = refl
  is_splice x (block_line y) = absurd (y.no_splice x)

  is_block : Blocks hub h c t → {n : ℕ} {k : PlannedCorner} → Line hub h c t n k → k ≡ blocked
  is_block x (split_line y) = absurd (x.no_split y)
  is_block x (hub_line y) = absurd (x.no_hub y)
  is_block x (splice_line y) = absurd (x.no_splice y)
  is_block x (block_line y) = refl

module _ (g : Grammar) (cycle : List ℕ) (hub : ℕ) {B : Type 0} where
  line_behind : (h : ElementHead) (c : Call) (rest : List (Element B)) (t : ℕ) → target g c.name ≡ some t → member t cycle ≡ true
      → (front : List (Element B)) → AllOf (λ e. is_epsilon_only e ≡ true) front
      → Line hub h c t (length front) (planned_corner g cycle hub (front ++ (leaf h (call c) ∷ rest)))
  unfolding planned_corner is_epsilon_only sort_of
  line_behind h c rest t k m [] s = rw (k, planned_corner) (rw m (line_of hub h c t))
  line_behind h c rest t k m (leaf x l ∷ front) s = go (sort_of l) refl s.0 (line_behind h c rest t k m front s.1)
    where
      go : (o : Sort) → sort_of l ≡ o → (elim o as (λ x. Bool) [ silent ↦ true | consuming ↦ false | calling k ↦ false ]) ≡ true
          → Line hub h c t (length front) (planned_corner g cycle hub (front ++ (leaf h (call c) ∷ rest)))
          → Line hub h c t (suc (length front)) (planned_corner g cycle hub (leaf x l ∷ (front ++ (leaf h (call c) ∷ rest))))
      go silent u e ih = rw (u, planned_corner) (line_further hub h c t ih)
      go consuming u e ih = absurd (false≢true e)
      go (calling z) u e ih = absurd (false≢true e)
  line_behind h c rest t k m (block x b ∷ front) s = absurd (false≢true s.0)

  module _ (es : List (Element B)) where
    line_at : {i t : ℕ} (x : CornerAt g cycle es i t) → Line hub x.head x.site t i (planned_corner g cycle hub es)
    line_at {i} {t} x =
        subst₂ (λ n l. Line hub x.head x.site t n (planned_corner g cycle hub l)) x.place x.whole
        (line_behind x.head x.site x.rest t x.known x.in_cycle x.front x.silent)

    -- What is found, with the line that it stands in.
    pub data Finds : PlannedCorner → Type 0 where
      finds_split : {i t : ℕ} (x : CornerAt g cycle es i t) → Splits hub x.head x.site t → Finds (optional i t)
      finds_splice : {i t : ℕ} (x : CornerAt g cycle es i t) → Splices hub x.head x.site t → Finds (satellite i t)
      finds_block : {i t : ℕ} (x : CornerAt g cycle es i t) → Blocks hub x.head x.site t → Finds blocked
      finds_none : Finds settled

    finds_by : (k : PlannedCorner) → planned_corner g cycle hub es ≡ k → Means g cycle hub es k → Finds k
    finds_by (optional i t) e m = finds_split m.0 (go (subst (Line hub m.0.head m.0.site t i) e (line_at m.0)))
      where
        go : {j u : ℕ} → Line hub m.0.head m.0.site t i (optional j u) → Splits hub m.0.head m.0.site t
        go (split_line y) = y
    finds_by (satellite i t) e m = finds_splice m.0 (go (subst (Line hub m.0.head m.0.site t i) e (line_at m.0)))
      where
        go : {j u : ℕ} → Line hub m.0.head m.0.site t i (satellite j u) → Splices hub m.0.head m.0.site t
        go (splice_line y) = y
    finds_by blocked e m = go (subst (Line hub m.2.head m.2.site m.1 m.0) e (line_at m.2))
      where
        go : Line hub m.2.head m.2.site m.1 m.0 blocked → Finds blocked
        go (block_line y) = finds_block m.2 y
    finds_by settled e m = finds_none

    pub corner_finds : Finds (planned_corner g cycle hub es)
    corner_finds = finds_by (planned_corner g cycle hub es) refl (corner_means g cycle hub es)

    -- Work is left exactly where it is not settled.
    pub finds_work : {k : PlannedCorner} → Finds k → (Work g cycle hub es → ⊥) → k ≡ settled
    finds_work (finds_split x y) idle =
        absurd (idle (record { index = _; rule = _; corner = x; unsettled = λ e q. apart hub x.head x.site 0 q y.quantifier }))
    finds_work (finds_splice x y) idle = absurd (idle (record { index = _; rule = _; corner = x; unsettled = λ e q. y.not_hub e }))
    finds_work (finds_block x y) idle =
        absurd (idle (record { index = _; rule = _; corner = x; unsettled = λ e q. y.no_hub (record { quantifier = q; is_hub = e }) }))
    finds_work finds_none idle = refl

    pub corners_told_lem : CornersTold g cycle hub es
    corners_told_lem =
        record {
          splits = λ i t. (
            λ e. split_of (subst Finds e corner_finds),
            λ x. is_split hub x.0.head x.0.site t x.1 (line_at x.0),
          );
          splices = λ i t. (
            λ e. splice_of (subst Finds e corner_finds),
            λ x. is_splice hub x.0.head x.0.site t x.1 (line_at x.0),
          );
          blocks = (
            λ e. block_of (subst Finds e corner_finds),
            λ x. is_block hub x.2.head x.2.site x.1 x.3 (line_at x.2),
          );
          settles = (λ e w. work_unsettled g cycle hub w e, finds_work corner_finds);
        }
      where
        split_of : {i t : ℕ} → Finds (optional i t) → (x : CornerAt g cycle es i t) × Splits hub x.head x.site t
        split_of (finds_split x y) = (x, y)

        splice_of : {i t : ℕ} → Finds (satellite i t) → (x : CornerAt g cycle es i t) × Splices hub x.head x.site t
        splice_of (finds_splice x y) = (x, y)

        block_of : Finds blocked → (i : ℕ) × (t : ℕ) × (x : CornerAt g cycle es i t) × Blocks hub x.head x.site t
        block_of (finds_block {i = i} {t = t} x y) = (i, t, x, y)
