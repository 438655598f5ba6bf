-- One alternative judged, and the settled alternatives one after the other.
use Prim.Native.Nat.{ℕ, ◌<◌}
use mathlib.Core.Path.{◌≡◌, refl, sym, ap, ap₂, ◌∙◌, subst}
use mathlib.Core.List.{List, [], ◌∷◌}
use mathlib.Core.Option.{Option, none, some}
use mathlib.Core.Bool.{Bool, true, false, ◌&&◌, ◌||◌, not, and-false, or-false}
use lib.ListN.{get_or, drop}
use lib.Dec.{eqb}
use borrow.Author.Tests.{lt-ltb, not-true, not-false}
use Rattle.std.specs.Bool.{then_some}
use Rattle.std.specs.Prelude.{None}
use Rattle.std.specs.declared.option.Option.{Option as Opt}
use Rattle.grammar.specs.Tree.{epsilon, action, predicate, call, token, terminal, end_of_input, Element, leaf, block, Block}
use Rattle.grammar.specs.Lists.{all, any, member, meet}
use Rattle.grammar.specs.Corners.{Corners}
use Rattle.grammar.specs.Laws.Lists.{eqb_swap}
use Rattle.reference.specs.Walks.{sort_of, is_epsilon_only, is_one}
use Rattle.reference.specs.Analysis.{Grammar, target, left_corners, element_nullable, block_is_nullable}
use Rattle.reference.specs.Plan.{hub_call, is_hub_call, gives_hub_arguments, starts_with_hub_call, is_recursive, is_primary, is_fit}
use Rattle.reach.specs.Rows.{holds, Meet, Empty}
use Rattle.analysis.specs.Names.{is_named}
use Rattle.analysis.specs.Survey.{View}
use Rattle.analysis.specs.Facts.{Agrees}
use Rattle.rewritable.specs.Items.{call_of, is_call_of, gives_arguments, starts_with_call, may_be_rewritten}
use Rattle.rewritable.specs.Walks.{Agreeing, WalkOf}
use Rattle.rewritable.specs.Judge.{FitAs, IsJudged, VerdictOf}
use Rattle.rewritable.specs.declared.judge.Verdict.{Verdict}
use Rattle.analysis.specs.declared.leaf.Seen.{Seen as Held}
use Rattle.rewritable.proofs.Laws.Corners.{corners_apart}
use Rattle.rewritable.proofs.Laws.Items.{some_if}

-- The hub's name tells what its id tells.
module _ {g : Grammar} {ids : List ℕ} {v : View} (w : Agrees g ids v) {hub : ℕ} (low : hub < v.n) where
  abbrev id : ℕ
  id = get_or ids hub 0

  abbrev m : ℕ
  m = get_or v.names hub 0

  -- A name is the hub's exactly if its rule is the hub.
  named : (a : ℕ) → eqb a m ≡ elim (target g a) [ none ↦ false | some t ↦ eqb t id ]
  unfolding is_named holds member
  named a = eqb_swap a m ∙ both ∙ go (target g a)
    where
      both : eqb m a ≡ member id (elim (target g a) [ none ↦ [] | some t ↦ t ∷ [] ])
      both =
          ap (λ b. b && eqb m a) (sym (lt-ltb hub v.n low))
          ∙ w.calls a hub
          ∙ ap (λ b. b && member id (elim (target g a) [ none ↦ [] | some t ↦ t ∷ [] ])) (lt-ltb hub v.n low)

      go : (t : Option ℕ) → member id (elim t [ none ↦ [] | some t ↦ t ∷ [] ]) ≡ elim t [ none ↦ false | some t ↦ eqb t id ]
      go none = refl
      go (some t) = or-false (eqb id t) ∙ eqb_swap id t

  module _ {B : Type 0} where
    same_call : (e : Element B) → call_of m e ≡ hub_call g id e
    unfolding call_of hub_call sort_of
    same_call (leaf h (call c)) = ap (λ b. some_if (is_one h && b) c) (named c.name) ∙ go (target g c.name)
      where
        go : (t : Option ℕ)
            → some_if (is_one h && elim t [ none ↦ false | some t ↦ eqb t id ]) c
            ≡ elim t [ none ↦ none | some t ↦ some_if (is_one h && eqb t id) c ]
        go none = ap (λ b. some_if b c) (and-false (is_one h))
        go (some t) = refl
    same_call (leaf h epsilon) = refl
    same_call (leaf h (action a)) = refl
    same_call (leaf h (predicate a)) = refl
    same_call (leaf h (token a)) = refl
    same_call (leaf h terminal) = refl
    same_call (leaf h end_of_input) = refl
    same_call (block h b) = refl

    same_starts : (es : List (Element B)) → starts_with_call m es ≡ starts_with_hub_call g id es
    unfolding starts_with_call is_call_of starts_with_hub_call is_hub_call
    same_starts [] = refl
    same_starts (e ∷ es) = ap (λ o. elim o as (λ o. Bool) [ none ↦ false | some c ↦ true ]) (same_call e)

    same_given : (es : List (Element B)) → any (gives_arguments m) es ≡ any (gives_hub_arguments g id) es
    unfolding any gives_arguments gives_hub_arguments
    same_given [] = refl
    same_given (e ∷ es) =
        ap₂ ◌||◌ (ap (λ o. elim o as (λ o. Bool) [ none ↦ false | some c ↦ not (eqb c.arguments 0) ]) (same_call e)) (same_given es)

    same_may : (es : List (Element B)) → may_be_rewritten m es ≡ not (any (gives_hub_arguments g id) es || all is_epsilon_only es)
    unfolding may_be_rewritten
    same_may es = ap (λ b. not (b || all is_epsilon_only es)) (same_given es)

-- One alternative.
module _ (v : View) (hub d : ℕ) (es : List (Element (Block d))) (w : Agreeing v) (cycle : List ℕ) where
  abbrev primary : Bool
  primary = is_primary v.reading w.grammar cycle (get_or w.ids hub 0) d es

  abbrev recursive : Bool
  recursive = is_recursive w.grammar (get_or w.ids hub 0) d es

  abbrev fit : Bool
  fit = is_fit v.reading w.grammar cycle (get_or w.ids hub 0) d es

-- It is fit, or it is not.
module _ {c : Corners} {g : Grammar} {ids : List ℕ} {n : ℕ} {cycle : List ℕ} {hub d : ℕ} {es : List (Element (Block d))} where
  judged_if : (b : Bool) {v : Verdict} {r : Opt Verdict} → is_fit c g cycle hub d es ≡ b
      → (b ≡ true → FitAs c g ids n cycle hub d es v) → r ≡ then_some b v → IsJudged c g ids n cycle hub d es r
  judged_if true {v} f a e =
      record { unfit = λ x. absurd cc; fit = λ u x. let y : v ≡ u = cc in subst (FitAs c g ids n cycle hub d es) y (a refl) }
  judged_if false f a e = record { unfit = λ x. f; fit = λ u x. absurd cc }

module _ (v : View) {hub : ℕ} (low : hub < v.n) (d : ℕ) (es : List (Element (Block d)))
    {may : Bool} (first : may ≡ may_be_rewritten (get_or v.names hub 0) es) where
  pub verdict_no : (members : List ℕ) → not may ≡ true → VerdictOf v members hub d es None
  unfolding is_fit
  verdict_no members n =
      record {
        by = λ w cycle r.
            record {
              unfit = λ e. ap (λ b. b && (primary v hub d es w cycle || recursive v hub d es w cycle))
                  (sym (same_may w.agrees low es) ∙ sym first ∙ not-true _ n);
              fit = λ u e. absurd cc;
            };
      }

  module _ (yes : not may ≡ false) {x : Held} (walked : WalkOf v d es x) {begins : Bool}
      (second : begins ≡ starts_with_call (get_or v.names hub 0) es) where
    module _ (w : Agreeing v) (cycle : List ℕ) where
      -- What is left of the test.
      fits : fit v hub d es w cycle ≡ (primary v hub d es w cycle || recursive v hub d es w cycle)
      unfolding is_fit
      fits =
          ap (λ b. b && (primary v hub d es w cycle || recursive v hub d es w cycle))
          (sym (same_may w.agrees low es) ∙ sym first ∙ not-false _ yes)

      starts : starts_with_hub_call w.grammar (get_or w.ids hub 0) es ≡ begins
      starts = sym (same_starts w.agrees low es) ∙ sym second

    -- It begins with the hub's call: what is behind it decides.
    pub verdict_recursive : (members : List ℕ) → begins ≡ true → {b : Bool} → b ≡ not x.null → {r : Opt Verdict}
        → r ≡ then_some b (record { recursive = begins; calls = x.calls }) → VerdictOf v members hub d es r
    unfolding is_primary is_recursive
    verdict_recursive members t {b} y e =
        record {
          by = λ w cycle r.
              let s = starts w cycle ∙ t in
              let p : primary v hub d es w cycle ≡ false =
              ap (λ b. not (b || meet (left_corners v.reading w.grammar d es) cycle)) s in
              let q : recursive v hub d es w cycle ≡ b =
              ap (λ b. b && not (all (element_nullable w.grammar (block_is_nullable w.grammar d)) (drop 1 es))) s
              ∙ ap not (sym (walked.tail w)) ∙ sym y in
              let f : fit v hub d es w cycle ≡ b = fits w cycle ∙ ap₂ ◌||◌ p q in
              judged_if b f
              (λ k. record { fit = f ∙ k; primary = ap not t ∙ sym p; recursive = t ∙ sym (q ∙ k); calls = walked.calls w })
              e;
        }

    -- It does not: its left corners decide.
    pub verdict_primary : {members : List ℕ} → begins ≡ false → {both : List ℕ} {apart : Bool} → Meet x.corners members both
        → Empty both apart → {b : Bool} → b ≡ apart → {r : Opt Verdict}
        → r ≡ then_some b (record { recursive = begins; calls = x.calls }) → VerdictOf v members hub d es r
    unfolding is_primary is_recursive
    verdict_primary n {both} {apart} y z {b} i e =
        record {
          by = λ w cycle r.
              let s = starts w cycle ∙ n in
              let p : primary v hub d es w cycle ≡ b =
              ap (λ b. not (b || meet (left_corners v.reading w.grammar d es) cycle)) s
              ∙ sym (corners_apart w.agrees v.reading d es (walked.corners w) r y z) ∙ sym i in
              let q : recursive v hub d es w cycle ≡ false =
              ap (λ b. b && not (all (element_nullable w.grammar (block_is_nullable w.grammar d)) (drop 1 es))) s in
              let f : fit v hub d es w cycle ≡ b = fits w cycle ∙ ap₂ ◌||◌ p q ∙ or-false b in
              judged_if b f
              (λ k. record { fit = f ∙ k; primary = ap not n ∙ sym (p ∙ k); recursive = n ∙ sym q; calls = walked.calls w })
              e;
        }
