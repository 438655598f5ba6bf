-- The walk over a body as a fold: one element, one alternative.
use Prim.Native.Nat.{ℕ, ◌+◌, ◌*◌, ◌-◌, ◌/◌, ◌<◌, ◌≤◌}
use mathlib.Core.Path.{◌≡◌, refl, sym, ap, ◌∙◌}
use mathlib.Core.List.{List}
use mathlib.Core.Bool.{Bool, true, false, ◌&&◌, ◌||◌, not}
use native.Mathlib.Omega.{arith}
use lib.ListN.{get_or}
use lib.Dec.{eqb, leb}
use borrow.Author.Tests.{leb-true}
use Rattle.grammar.specs.Form.{newest}
use Rattle.grammar.specs.Numbers.{token_kind, block_kind, kind_end, optional_greedy, zero_or_more_nongreedy}
use Rattle.grammar.specs.Tree.{ElementHead, inner_depth}
use Rattle.grammar.specs.Encode.{encode_alternative, encode_block}
use Rattle.grammar.specs.Valid.{ok_alternative, ok_block}
use Rattle.grammar.specs.Found.{Found, FoundElement, HeadAt, AlternativeAt, LeafEnd}
use Rattle.grammar.specs.Fold.{folded, WalkedOne, WalkedMany, ElementWalked, ElementsWalked, AlternativeWalked, AlternativesWalked}
use Rattle.grammar.specs.Laws.Complete.{leaf_kind_lem}
use Rattle.grammar.specs.Laws.Opened.{HeadWords, alternative_words_lem, rule_words_lem}
use Rattle.grammar.specs.Laws.Found.{alternative_room, block_depth}
use Rattle.grammar.specs.Laws.Fold.{Folding, folding_all, folding_done, folding_found, folding_more, fold_leaf, fold_block, fold_alternative}
use Rattle.grammar.specs.Laws.Parse.{either}
use Rattle.reference.specs.Walks.{is_optional}
use Rattle.std.specs.Prelude.{Result, Err}
use Rattle.words.specs.declared.numbers.Quantifier.{Quantifier}
use Rattle.words.specs.declared.numbers.Quantifier.TheVariants.{OptionalGreedy, OptionalNongreedy, ZeroOrMoreGreedy, ZeroOrMoreNongreedy}
use Rattle.words.specs.declared.numbers.Unnamed.{Unnamed}
use Rattle.words.specs.Kinds.{Names, quantifier_number}
use Rattle.analysis.specs.declared.leaf.Seen.{Seen as Held}
use Rattle.analysis.specs.Survey.{View, Seen, seen_of, turned, surveying, skipping, past_block, past_alternative, past_leaf, SymbolSeen}
use Rattle.analysis.specs.Survey.{LeafSeen, unseen, whole, past_outermost, OutermostWalked, BodyWalked, BodySeen}
use Rattle.analysis.proofs.Laws.Seen.{leaf_symbol}

-- The measure of a block's alternatives is below that of the block.
pub block_lower : {ws : List ℕ} {end at k p : ℕ} → HeadAt ws end at k p → k ≡ block_kind → (d : ℕ) {t : ℕ} → FoundElement ws end d at
    → d * 5 ≡ t → (d - 1) * 5 + 4 < t
block_lower head six d f e = let z = block_depth newest head six d f in omega arith

module _ (v : View) {ws : List ℕ} {end at k p : ℕ} (head : HeadAt ws end at k p) {skips : Bool} (may : skips ≡ skipping (get_or ws (at + 2) 0)) where
  -- The word that packs kind and quantifier.
  optional : {h : ElementHead} {kind : ℕ} → kind < kind_end → HeadWords ws end at h kind p → skips ≡ is_optional h
  optional {h} {kind} l w =
      let e : get_or ws (at + 2) 0 / kind_end ≡ h.quantifier = let x = w.packed in omega arith in
      may ∙ ap (λ q. leb optional_greedy q && leb q zero_or_more_nongreedy) e

  pub survey_leaf : (d : ℕ) → (k ≡ block_kind → ⊥) → {there : ℕ} {s r : Seen} → LeafEnd ws end d at p there → LeafSeen v ws end k p skips s r
      → ElementWalked (surveying v) ws end d at s there r
  unfolding surveying
  survey_leaf d other {s = s} e f =
      fold_leaf newest (surveying v) head d other e λ h l q w u.
      let z = leaf_kind_lem l in
      f.is l q (let x = w.packed in let y = head.kind_is in omega arith) u.stands
      ∙ ap (λ b. past_leaf v s b l) (optional (omega arith) w)

  pub survey_token : (d : ℕ) → k ≡ token_kind → {there : ℕ} {t r : Held} → LeafEnd ws end d at p there → SymbolSeen v.reading skips t r
      → ElementWalked (surveying v) ws end d at (seen_of t) there (seen_of r)
  survey_token d four e f = survey_leaf d (λ z. omega arith) e (leaf_symbol v (omega arith) (λ z. omega arith) f)

  pub survey_block : (d : ℕ) → k ≡ block_kind → {m q : ℕ} (t r : Held) → m ≡ get_or ws p 0
      → AlternativesWalked (surveying v) ws end (d - 1) m (p + 1) (seen_of (turned t.seeks false t)) q (seen_of r)
      → ElementWalked (surveying v) ws end d at (seen_of t) q
      (seen_of (turned (t.seeks && (skips || r.null)) (t.null && (skips || r.null)) r))
  unfolding surveying seen_of past_block
  survey_block d six t r c w =
      fold_block newest (surveying v) head six d c (λ h y. refl) w λ h y. ap (λ b. past_block (seen_of t) b (seen_of r))
      (optional (omega arith) y)

pub survey_alternative : (v : View) {ws : List ℕ} {end at : ℕ} (d : ℕ) {count first : ℕ} → AlternativeAt ws end at count first → {q : ℕ}
    (t r : Held) → ElementsWalked (surveying v) ws end d count first (seen_of (turned t.seeks true t)) q (seen_of r)
    → AlternativeWalked (surveying v) ws end d at (seen_of t) q (seen_of (turned t.seeks (t.null || r.null) r))
unfolding surveying seen_of past_alternative
survey_alternative v d head t r c = fold_alternative newest (surveying v) d head (λ a z w. refl) c λ a z w. refl

pub ruleset surveys = (survey_leaf, survey_token, survey_block, survey_alternative)

-- A number that names no quantifier lets nothing be left out.
pub no_skips : {v w : ℕ} → v ≡ w → {r : Result Quantifier Unnamed} {x : Unnamed} → Names quantifier_number (v / kind_end) r → r ≡ Err x
    → false ≡ skipping w
no_skips {v} {w} e {r} {x} m f = go (λ a b. (rw f at m).1 a (b ∙ ap (λ k. k / kind_end) (sym e)))
  where
    go : ((a : Quantifier) → quantifier_number a ≡ w / kind_end → ⊥) → false ≡ skipping w
    go none =
        either (leb optional_greedy (w / kind_end))
        (λ a.
        either (leb (w / kind_end) zero_or_more_nongreedy)
        (λ b.
        let c = leb-true optional_greedy (w / kind_end) a in
        let d = leb-true (w / kind_end) zero_or_more_nongreedy b in
        let p = none OptionalGreedy in
        let q = none OptionalNongreedy in
        let s = none ZeroOrMoreGreedy in
        let t = none ZeroOrMoreNongreedy in
        absurd (omega arith))
        (λ b. rw (a, b) refl))
        (λ a. rw a refl)

-- An outermost alternative: its label is looked at behind it.
pub outer_walked : (v : View) {ws : List ℕ} {end at : ℕ} {s : Seen} {q : ℕ} (r : Held)
    → AlternativeWalked (surveying v) ws end inner_depth at s q (seen_of r) → {m : ℕ} → m ≡ get_or ws (at + 2) 0
    → OutermostWalked v ws end at s q
    (seen_of (record {
      calls = r.calls;
      corners = r.corners;
      stops = r.stops || not (eqb m 0);
      seeks = r.seeks;
      null = r.null;
    }))
unfolding past_outermost seen_of
outer_walked v r w e =
    record {
      passed = w.passed;
      value = λ a z u.
          let f = e ∙ (alternative_words_lem inner_depth u).flag_is in
          rw f
          (ap (λ t. record { calls = t.calls; corners = t.corners; stops = t.stops || not (eqb a.flag 0); seeks = t.seeks; null = t.null })
          (w.value a z u));
      within = w.within;
    }

-- A loop that counts up to n, of which k trees are done.
module _ {ws : List ℕ} {end : ℕ} {A S : Type 0} {enc : A → List ℕ} {ok : A → Bool} {step : S → A → S} {n at : ℕ} {s₀ : S} {k p : ℕ}
    {s : S} (g : Folding ws end enc ok step n at s₀ (n - k) p s) where
  pub counted_done : n ≤ k → WalkedMany ws end enc ok step n at s₀ p s
  counted_done l = folding_done g (omega arith)

  module _ (l : k < n) where
    pub counted_found : Found ws end enc ok p
    counted_found = folding_found g (λ z. absurd (omega arith))

    pub counted_more : {q : ℕ} {t : S} → WalkedOne ws end enc ok step p s q t → Folding ws end enc ok step n at s₀ (n - (k + 1)) q t
    counted_more {q} {t} o =
        let less : n - k - 1 ≡ n - (k + 1) = omega arith in
        rw (← less) (folding_more g (λ z. absurd (omega arith)) o)

pub ruleset counted = (folding_all, counted_done, counted_found, counted_more)

abbrev pub BodyFolding : View → List ℕ → ℕ → ℕ → ℕ → Seen → ℕ → ℕ → Seen → Type 0
BodyFolding v ws end = Folding ws end (encode_alternative (encode_block inner_depth)) (ok_alternative (ok_block inner_depth)) (past_outermost v inner_depth)

pub body_room : (v : View) {ws : List ℕ} {end n at : ℕ} {s₀ : Seen} {k p : ℕ} {s : Seen} → BodyFolding v ws end n at s₀ (n - k) p s → k < n
    → p + 5 ≤ end
body_room v g l = alternative_room newest inner_depth (counted_found g l)

-- A whole rule.
pub rule_surveyed : (v : View) {ws : List ℕ} {end at m f q : ℕ} (b t : Held) → seen_of b ≡ unseen → m ≡ get_or ws (at + 3) 0
    → f ≡ get_or ws (at + 2) 0
    → BodyWalked v ws end m (at + 4) (seen_of b) q (seen_of t)
    → BodySeen v ws end at
    (record { calls = t.calls; corners = t.corners; stops = t.stops || not (eqb f 0); nullable = t.null })
unfolding seen_of
rule_surveyed v b t n e f c =
    record {
      is = λ r z u.
          let w = rule_words_lem inner_depth u in
          let s = c.value r.body z w.alternatives (sym w.count ∙ sym e) in
          ap (λ x. whole (eqb x 0) (seen_of t)) (f ∙ w.flags_are)
          ∙ ap (whole (eqb r.flags 0)) (s ∙ ap (λ x. folded (past_outermost v inner_depth) x r.body) n);
    }
