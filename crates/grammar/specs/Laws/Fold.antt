-- A walk that is a fold, whatever the fold: the loop over trees, and one element, alternative or rule.
use Prim.Native.Nat.{ℕ, zero, suc, ◌+◌, ◌-◌, ◌≤◌}
use Rattle.std.specs.Prelude.{◌≡◌, refl, List, [], ◌∷◌, Bool, length, get_or}
use Rattle.std.proofs.Math.Path.{sym, ap}
use Rattle.std.proofs.Common.{◌∙◌, sub-one}
use native.Mathlib.Omega.{arith}
use Rattle.grammar.specs.Numbers.{block_kind}
use Rattle.grammar.specs.Stands.{Spans}
use Rattle.grammar.specs.Tree.{ElementHead, Leaf, Element, AlternativeOf, Block, body_depth}
use Rattle.grammar.specs.Encode.{encode_leaf_in, leaf_kind, encode_element_in, encode_alternative_in, encode_block_in, encode_rule}
use Rattle.grammar.specs.Lists.{each, all}
use Rattle.grammar.specs.Valid.{ok_leaf_in, ok_element_in, ok_alternative_in, ok_block_in, ok_rule}
use Rattle.grammar.specs.Form.{Form, newest}
use Rattle.grammar.specs.Found.{Found, FoundMany, FoundAlternativesIn, FoundRuleIn, HeadAt, AlternativeAt, LeafEndIn}
use Rattle.grammar.specs.Fold.{head_of, Steps, folded, element_fold, alternative_fold, block_fold, rule_fold, WalkedOne}
use Rattle.grammar.specs.Fold.{WalkedMany, ElementWalkedIn, ElementsWalkedIn, AlternativeWalkedIn, AlternativesWalkedIn, RuleWalkedIn}
use Rattle.grammar.specs.Laws.Stands.{stands_length}
use Rattle.grammar.specs.Laws.Complete.{leaf_kind_lem}
use Rattle.grammar.specs.Laws.Opened.{HeadWords, OpenedIn, opened_leaf, opened_block, opened, first_spans, first_found, rest_found}
use Rattle.grammar.specs.Laws.Opened.{block_words_lem, AlternativeWordsIn, alternative_words_lem, rule_words_lem}
use Rattle.grammar.specs.Laws.Found.{IsBlock, is_block, blocked, rule_room, body_found}

module _ {ws : List ℕ} {end : ℕ} {A S : Type 0} {enc : A → List ℕ} {ok : A → Bool} (step : S → A → S) {n at : ℕ} where
  walked_none : (s : S) → n ≡ 0 → at ≤ end → WalkedMany ws end enc ok step n at s at s
  walked_none s e within = record { passed = λ as' q t c. past as' q t (c ∙ e); value = λ as' q t c. same as' (c ∙ e); within = within }
    where
      past : (as' : List A) (q : ℕ) → Spans ws end (each enc) (all ok) at as' q → length as' ≡ 0 → at ≡ q
      past [] q t c = let l = stands_length t.stands in omega arith
      past (a ∷ as') q t c = absurd (omega arith)

      same : (as' : List A) → length as' ≡ 0 → s ≡ folded step s as'
      same [] c = refl
      same (a ∷ as') c = absurd (omega arith)

  walked_more : {s t r : S} {p q : ℕ} → (n ≡ 0 → ⊥) → WalkedOne ws end enc ok step at s p t → WalkedMany ws end enc ok step (n - 1) p t q r
      → WalkedMany ws end enc ok step n at s q r
  walked_more {s} {t} {r} {p} {q} h o c = record { passed = past; value = same; within = c.within }
    where
      past : (as' : List A) (z : ℕ) → Spans ws end (each enc) (all ok) at as' z → length as' ≡ n → q ≡ z
      past [] z u e = absurd (h (sym e))
      past (a ∷ as') z u e = let f = first_spans u in c.passed as' z (rw (o.passed a f.0 f.1) f.2) (omega arith)

      same : (as' : List A) (z : ℕ) → Spans ws end (each enc) (all ok) at as' z → length as' ≡ n → r ≡ folded step s as'
      same [] z u e = absurd (h (sym e))
      same (a ∷ as') z u e =
          let f = first_spans u in
          c.value as' z (rw (o.passed a f.0 f.1) f.2) (omega arith) ∙ ap (λ v. folded step v as') (o.value a f.0 f.1)

module _ (ws : List ℕ) (end : ℕ) {A S : Type 0} (enc : A → List ℕ) (ok : A → Bool) (step : S → A → S) where
  -- A loop over trees, with i of n left: a walk of those would be a walk of all.
  pub record Folding (n at : ℕ) (s₀ : S) (i p : ℕ) (s : S) : Type 0 where
    pub rest : (q : ℕ) (r : S) → WalkedMany ws end enc ok step i p s q r → WalkedMany ws end enc ok step n at s₀ q r
    pub found : FoundMany ws end enc ok i p
    pub within : p ≤ end

module _ {ws : List ℕ} {end : ℕ} {A S : Type 0} {enc : A → List ℕ} {ok : A → Bool} (step : S → A → S) where
  pub folding_all : {n at : ℕ} (s : S) → FoundMany ws end enc ok n at → at ≤ end → Folding ws end enc ok step n at s n at s
  folding_all s f within = record { rest = λ q r c. c; found = f; within = within }

module _ {ws : List ℕ} {end : ℕ} {A S : Type 0} {enc : A → List ℕ} {ok : A → Bool} {step : S → A → S} {n at : ℕ} {s₀ : S} {i p : ℕ}
    {s : S} (g : Folding ws end enc ok step n at s₀ i p s) where
  pub folding_done : i ≡ 0 → WalkedMany ws end enc ok step n at s₀ p s
  folding_done e = g.rest p s (walked_none step s e g.within)

  module _ (some : i ≡ 0 → ⊥) where
    pub folding_found : Found ws end enc ok p
    folding_found = first_found g.found some

    pub folding_more : {q : ℕ} {t : S} → WalkedOne ws end enc ok step p s q t → Folding ws end enc ok step n at s₀ (i - 1) q t
    folding_more o = record {
      rest = λ q r c. g.rest q r (walked_more step some o c);
      found = rest_found g.found some o.passed;
      within = o.within;
    }

pub ruleset folding = (folding_all, folding_done, folding_found, folding_more)

module _ (form : Form) {S : Type 0} (walk : Steps S) (ws : List ℕ) (end : ℕ) where
  module _ (d : ℕ) where
    abbrev pub ElementsFoldingIn : ℕ → ℕ → S → ℕ → ℕ → S → Type 0
    ElementsFoldingIn =
        Folding ws end (encode_element_in form (encode_block_in form d)) (ok_element_in form (ok_block_in form d))
        (element_fold walk (block_fold walk d))

    abbrev pub AlternativesFoldingIn : ℕ → ℕ → S → ℕ → ℕ → S → Type 0
    AlternativesFoldingIn =
        Folding ws end (encode_alternative_in form (encode_block_in form d)) (ok_alternative_in form (ok_block_in form d))
        (alternative_fold walk (block_fold walk d))

  abbrev pub RulesFoldingIn : ℕ → ℕ → S → ℕ → ℕ → S → Type 0
  RulesFoldingIn =
      Folding ws end (encode_rule (encode_block_in form body_depth)) (ok_rule (ok_block_in form body_depth)) (rule_fold walk body_depth)

-- In the newest form.
module _ {S : Type 0} (walk : Steps S) (ws : List ℕ) (end : ℕ) where
  module _ (d : ℕ) where
    abbrev pub ElementsFolding : ℕ → ℕ → S → ℕ → ℕ → S → Type 0
    ElementsFolding = ElementsFoldingIn newest walk ws end d

    abbrev pub AlternativesFolding : ℕ → ℕ → S → ℕ → ℕ → S → Type 0
    AlternativesFolding = AlternativesFoldingIn newest walk ws end d

  abbrev pub RulesFolding : ℕ → ℕ → S → ℕ → ℕ → S → Type 0
  RulesFolding = RulesFoldingIn newest walk ws end

module _ (form : Form) {S : Type 0} (walk : Steps S) {ws : List ℕ} {end at : ℕ} where
  module _ {k p : ℕ} (head : HeadAt ws end at k p) where
    -- A leaf: the state is what the step gives of any leaf whose words these are.
    pub fold_leaf : (d : ℕ) → (k ≡ block_kind → ⊥) → {there : ℕ} {s r : S} → LeafEndIn form ws end d at p there
        → ((h : ElementHead) (l : Leaf) (q : ℕ) → HeadWords ws end at h (leaf_kind l) p
        → Spans ws end (encode_leaf_in form) (ok_leaf_in form) p l q
        → r ≡ walk.past_leaf s h l)
        → ElementWalkedIn form walk ws end d at s there r
    unfolding element_fold
    fold_leaf d other {there} {s} {r} e v = record { passed = e.is; value = λ t q u. go (opened t u); within = e.within }
      where
        go : {t : Element (Block d)} {q : ℕ} → OpenedIn form ws end d at q t → r ≡ element_fold walk (block_fold walk d) s t
        go (opened_leaf {h = h} {l = l} o w u) =
            let x : o ≡ p = let y = leaf_kind_lem l in omega arith in
            v h l _ (rw x at w) (rw x at u)
        go (opened_block o w u) = absurd (other (omega arith))

    -- A block: from the state in which it is entered its alternatives lead to t.
    pub fold_block : (six : k ≡ block_kind) (d : ℕ) {m q : ℕ} {s i t r : S} → m ≡ get_or ws p 0
        → ((h : ElementHead) → HeadWords ws end at h block_kind p → i ≡ walk.into_block s h)
        → AlternativesWalkedIn form walk ws end (d - 1) m (p + 1) i q t
        → ((h : ElementHead) → HeadWords ws end at h block_kind p → r ≡ walk.past_block s h t)
        → ElementWalkedIn form walk ws end d at s q r
    unfolding element_fold block_fold
    fold_block six zero {q = q} {s} {i} {t} {r} c v w x =
        record {
          passed = λ e z u. none (blocked form head six zero e z u);
          value = λ e z u. none (blocked form head six zero e z u);
          within = w.within;
        }
      where
        none : {e : Element (Block zero)} {z : ℕ} {P : Type 0} → IsBlock form head six zero z e → P
        none (is_block {b = b} y u) = absurd b
    fold_block six (suc d) {q = q} {s} {i} {t} {r} c v w x =
        record {
          passed = λ e z u. past (blocked form head six (suc d) e z u);
          value = λ e z u. same (blocked form head six (suc d) e z u);
          within = w.within;
        }
      where
        past : {e : Element (Block (suc d))} {z : ℕ} → IsBlock form head six (suc d) z e → q ≡ z
        past (is_block {b = b} y u) =
            let o = block_words_lem d b u in
            let w' = rw (sub-one (suc d)) at w in
            w'.passed b _ o.alternatives (sym o.count ∙ sym c)

        same : {e : Element (Block (suc d))} {z : ℕ} → IsBlock form head six (suc d) z e
            → r ≡ element_fold walk (block_fold walk (suc d)) s e
        same (is_block {h = h} {b = b} y u) =
            let o = block_words_lem d b u in
            let w' = rw (sub-one (suc d)) at w in
            let z = w'.value b _ o.alternatives (sym o.count ∙ sym c) in
            x h y ∙ ap (walk.past_block s h) (z ∙ ap (λ j. folded (alternative_fold walk (block_fold walk d)) j b) (v h y))

  -- An alternative: from the state in which it is entered its elements lead to t.
  pub fold_alternative : (d : ℕ) {count first : ℕ} → AlternativeAt ws end at count first → {s i t r : S} {q : ℕ}
      → ((a : AlternativeOf (Block d)) (q : ℕ) → AlternativeWordsIn form ws end d at a q → i ≡ walk.into_alternative s (head_of a))
      → ElementsWalkedIn form walk ws end d count first i q t
      → ((a : AlternativeOf (Block d)) (q : ℕ) → AlternativeWordsIn form ws end d at a q → r ≡ walk.past_alternative s (head_of a) t)
      → AlternativeWalkedIn form walk ws end d at s q r
  unfolding alternative_fold
  fold_alternative d head {s} {i} {t} {r} {q} v c x =
      record {
        passed =
            λ a z u. let w = alternative_words_lem d u in c.passed a.elements z (rw head.first_is w.elements_span)
            (sym w.count ∙ sym head.count_is);
        value =
            λ a z u.
            let w = alternative_words_lem d u in
            let y = c.value a.elements z (rw head.first_is w.elements_span) (sym w.count ∙ sym head.count_is) in
            x a z w ∙ ap (walk.past_alternative s (head_of a))
            (y ∙ ap (λ j. folded (element_fold walk (block_fold walk d)) j a.elements) (v a z w));
        within = c.within;
      }

  -- A rule is its body's alternatives.
  pub fold_rule : (d : ℕ) {m : ℕ} → m ≡ get_or ws (at + 3) 0 → {s r : S} {q : ℕ} → AlternativesWalkedIn form walk ws end d m (at + 4) s q r
      → WalkedOne ws end (encode_rule (encode_block_in form (suc d))) (ok_rule (ok_block_in form (suc d))) (rule_fold walk (suc d)) at s q r
  unfolding rule_fold block_fold
  fold_rule d e c =
      record {
        passed = λ t z u. let w = rule_words_lem d u in c.passed t.body z w.alternatives (sym w.count ∙ sym e);
        value = λ t z u. let w = rule_words_lem d u in c.value t.body z w.alternatives (sym w.count ∙ sym e);
        within = c.within;
      }

-- A rule of a sheet: its body's alternatives nest blocks at most 8 deep.
module _ (form : Form) {ws : List ℕ} {end at : ℕ} where
  pub rule_walked : {S : Type 0} (walk : Steps S) {m : ℕ} → m ≡ get_or ws (at + 3) 0 → {s r : S} {q : ℕ}
      → AlternativesWalkedIn form walk ws end 8 m (at + 4) s q r
      → RuleWalkedIn form walk ws end at s q r
  rule_walked walk e c = fold_rule form walk 8 e c

  pub rule_found : FoundRuleIn form ws end at → {m : ℕ} → m ≡ get_or ws (at + 3) 0 → FoundAlternativesIn form ws end 8 m (at + 4)
  rule_found f e = body_found form 8 f e

pub rules_room : (form : Form) {S : Type 0} (walk : Steps S) {ws : List ℕ} {end n at : ℕ} {s₀ : S} {i p : ℕ} {s : S}
    → RulesFoldingIn form walk ws end n at s₀ i p s → (i ≡ 0 → ⊥)
    → p + 4 ≤ end
rules_room form walk g some = rule_room form 8 (folding_found g some)

pub ruleset bodies = (rule_walked, rule_found)
