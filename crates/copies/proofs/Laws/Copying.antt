-- The loop over trees that are copied, whatever they are.
use Prim.Native.Nat.{ℕ, ◌+◌, ◌-◌, ◌<◌, ◌≤◌}
use mathlib.Core.Path.{◌≡◌, refl, sym, ◌∙◌}
use mathlib.Core.List.{List, [], ◌∷◌}
use mathlib.Core.Bool.{Bool}
use native.Mathlib.Omega.{arith}
use lib.ListN.{length}
use Rattle.grammar.specs.Tree.{Counters}
use Rattle.grammar.specs.Encode.{encode_element, encode_alternative, encode_block}
use Rattle.grammar.specs.Valid.{ok_element, ok_alternative, ok_block}
use Rattle.grammar.specs.Stands.{Spans}
use Rattle.grammar.specs.Lists.{each, all}
use Rattle.grammar.specs.Laws.Stands.{stands_length}
use Rattle.grammar.specs.Laws.Opened.{first_spans}
use Rattle.reference.specs.Apply.{Fresh, fresh_each, renumber_element, renumber_alternative, renumber_block}
use Rattle.writing.specs.Taken.{counters_of}
use Rattle.copies.specs.declared.pen.Pen.{Pen}
use Rattle.copies.specs.Pen.{Fits, Drew}
use Rattle.copies.specs.Copy.{FitsOne, FitsMany, CopiedOne, CopiedMany}
use Rattle.copies.specs.Laws.Grown.{Grows}
use Rattle.copies.specs.Laws.Drawn.{drew_none, drew_more, fits_first, fits_rest}

module _ {ws : List ℕ} {end : ℕ} {A : Type 0} {enc : A → List ℕ} {ok : A → Bool} {fresh : A → Counters → Fresh A} where
  copied_none : {n at : ℕ} {out t : List ℕ} {p : Pen} → n ≡ 0 → at ≤ end → CopiedMany ws end enc ok fresh n at out out t t p at p
  copied_none {n} {at} {out} {t} {p} e h = record { passed = λ as' z u c. past as' z u (c ∙ e); drew = λ as' z u c. none as' (c ∙ e); within = h }
    where
      past : (as' : List A) (z : ℕ) → Spans ws end (each enc) (all ok) at as' z → length as' ≡ 0 → at ≡ z
      past [] z u c = let l = stands_length u.stands in omega arith
      past (a ∷ as') z u c = absurd (omega arith)

      none : (as' : List A) → length as' ≡ 0 → Drew (each enc) (fresh_each fresh as' (counters_of p.counters)) out out t t p p
      none [] c = drew_none enc fresh out t p
      none (a ∷ as') c = absurd (omega arith)

  module _ {n at : ℕ} {out m t u : List ℕ} {p : Pen} {q : ℕ} {p₁ : Pen} (some : n ≡ 0 → ⊥)
      (o : CopiedOne ws end enc ok fresh at out m t u p q p₁) where
    copied_more : {out' t' : List ℕ} {q' : ℕ} {p' : Pen} → CopiedMany ws end enc ok fresh (n - 1) q m out' u t' p₁ q' p'
        → CopiedMany ws end enc ok fresh n at out out' t t' p q' p'
    copied_more {out'} {t'} {q'} {p'} c = record { passed = past; drew = more; within = c.within }
      where
        past : (as' : List A) (z : ℕ) → Spans ws end (each enc) (all ok) at as' z → length as' ≡ n → q' ≡ z
        past [] z v e = absurd (some (sym e))
        past (a ∷ as') z v e = let f = first_spans v in c.passed as' z (rw (o.passed a f.0 f.1) f.2) (omega arith)

        more : (as' : List A) (z : ℕ) → Spans ws end (each enc) (all ok) at as' z → length as' ≡ n
            → Drew (each enc) (fresh_each fresh as' (counters_of p.counters)) out out' t t' p p'
        more [] z v e = absurd (some (sym e))
        more (a ∷ as') z v e =
            let f = first_spans v in
            drew_more enc fresh a as' (counters_of p.counters) (o.drew a f.0 f.1)
            (c.drew as' z (rw (o.passed a f.0 f.1) f.2) (omega arith))

    rest_fits : FitsMany ws end enc ok fresh n at out t p → FitsMany ws end enc ok fresh (n - 1) q m u p₁
    rest_fits f = go f.found.trees f.found.spans f.found.count f.fits
      where
        go : (as' : List A) → Spans ws end (each enc) (all ok) at as' f.found.next → length as' ≡ n
            → Fits (each enc) (fresh_each fresh as' (counters_of p.counters)) out t p
            → FitsMany ws end enc ok fresh (n - 1) q m u p₁
        go [] v e s = absurd (some (sym e))
        go (a ∷ as') v e s =
            let g = first_spans v in
            record {
              found =
                  record { trees = as'; next = f.found.next; spans = rw (o.passed a g.0 g.1) g.2; count = omega arith };
              fits = fits_rest enc fresh a as' (counters_of p.counters) (o.drew a g.0 g.1) s;
            }

    grow_same : FitsMany ws end enc ok fresh n at out t p → (length m ≡ length out) × (length u ≡ length t)
    grow_same f = go f.found.trees f.found.spans f.found.count
      where
        go : (as' : List A) → Spans ws end (each enc) (all ok) at as' f.found.next → length as' ≡ n
            → (length m ≡ length out) × (length u ≡ length t)
        go [] v e = absurd (some (sym e))
        go (a ∷ as') v e = let g = first_spans v in let d = o.drew a g.0 g.1 in (d.wrote.long, d.told.long)

  one_fits : {n at : ℕ} {out t : List ℕ} {p : Pen} → Grows fresh → (n ≡ 0 → ⊥) → FitsMany ws end enc ok fresh n at out t p
      → FitsOne ws end enc ok fresh at out t p
  one_fits {n} {at} {out} {t} {p} g some f = go f.found.trees f.found.spans f.found.count f.fits
    where
      go : (as' : List A) → Spans ws end (each enc) (all ok) at as' f.found.next → length as' ≡ n
          → Fits (each enc) (fresh_each fresh as' (counters_of p.counters)) out t p
          → FitsOne ws end enc ok fresh at out t p
      go [] v e s = absurd (some (sym e))
      go (a ∷ as') v e s =
          let h = first_spans v in
          record {
            found = record { tree = a; next = h.0; spans = h.1 };
            fits = fits_first enc fresh a as' (counters_of p.counters) g s;
          }

module _ (ws : List ℕ) (end : ℕ) {A : Type 0} (enc : A → List ℕ) (ok : A → Bool) (fresh : A → Counters → Fresh A) where
  -- With i of n trees copied: to copy the others would be to copy all.
  pub record Copying (n at : ℕ) (out₀ t₀ : List ℕ) (p₀ : Pen) (i here : ℕ) (out t : List ℕ) (p : Pen) : Type 0 where
    pub long : length out ≡ length out₀
    pub long_trail : length t ≡ length t₀
    pub within : here ≤ end
    pub fit : FitsMany ws end enc ok fresh (n - i) here out t p
    pub rest : (out' t' : List ℕ) (q : ℕ) (p' : Pen) → CopiedMany ws end enc ok fresh (n - i) here out out' t t' p q p'
        → CopiedMany ws end enc ok fresh n at out₀ out' t₀ t' p₀ q p'

module _ {ws : List ℕ} {end : ℕ} {A : Type 0} {enc : A → List ℕ} {ok : A → Bool} {fresh : A → Counters → Fresh A} {n at : ℕ} where
  pub copying_all : {out t : List ℕ} {p : Pen} → FitsMany ws end enc ok fresh n at out t p → at ≤ end
      → Copying ws end enc ok fresh n at out t p 0 at out t p
  copying_all f h =
      let e : n - 0 ≡ n = omega arith in
      record { long = refl; long_trail = refl; within = h; fit = rw e f; rest = λ out' t' q p' c. rw e at c }

  module _ {out₀ t₀ : List ℕ} {p₀ : Pen} {i here : ℕ} {out t : List ℕ} {p : Pen}
      (g : Copying ws end enc ok fresh n at out₀ t₀ p₀ i here out t p) where
    pub copying_done : n ≤ i → CopiedMany ws end enc ok fresh n at out₀ out t₀ t p₀ here p
    copying_done e = g.rest out t here p (copied_none (omega arith) g.within)

    pub copying_fits : Grows fresh → i < n → FitsOne ws end enc ok fresh here out t p
    copying_fits w some = one_fits w (omega arith) g.fit

    pub copying_more : i < n → {out' t' : List ℕ} {q : ℕ} {p' : Pen}
        → CopiedOne ws end enc ok fresh here out out' t t' p q p'
        → Copying ws end enc ok fresh n at out₀ t₀ p₀ (i + 1) q out' t' p'
    copying_more h {out'} {t'} {q} {p'} o =
        let some : n - i ≡ 0 → ⊥ = λ e. omega arith in
        let e : n - (i + 1) ≡ n - i - 1 = omega arith in
        let l = grow_same some o g.fit in
        record {
          long = l.0 ∙ g.long;
          long_trail = l.1 ∙ g.long_trail;
          within = o.within;
          fit = rw e (rest_fits some o g.fit);
          rest = λ out'' t'' z p'' c. g.rest out'' t'' z p'' (copied_more some o (rw e at c));
        }

pub ruleset copying = (copying_all, copying_done, copying_fits, copying_more)

module _ (ws : List ℕ) (end d : ℕ) where
  abbrev pub ElementsCopying : (n at : ℕ) (out₀ t₀ : List ℕ) (p₀ : Pen) (i here : ℕ) (out t : List ℕ) (p : Pen) → Type 0
  ElementsCopying = Copying ws end (encode_element (encode_block d)) (ok_element (ok_block d)) (renumber_element (renumber_block d))

  abbrev pub AlternativesCopying : (n at : ℕ) (out₀ t₀ : List ℕ) (p₀ : Pen) (i here : ℕ) (out t : List ℕ) (p : Pen) → Type 0
  AlternativesCopying =
      Copying ws end (encode_alternative (encode_block d)) (ok_alternative (ok_block d)) (renumber_alternative (renumber_block d))
