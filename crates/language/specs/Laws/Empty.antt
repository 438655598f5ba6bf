-- When a shape can be empty: part by part, and by a test that a fixpoint decides.
use Rattle.std.specs.Prelude.{ℕ, ◌≡◌, ◌↔◌, ◌⊎◌, Bool, false, ◌&&◌, ◌||◌}
use Rattle.std.proofs.Math.Path.{refl, ap}
use Rattle.std.proofs.Common.{◌∙◌, inl, inr, ⊎_elim}
use Rattle.std.proofs.Math.Logic.{⊎_map}
use mathlib.Core.List.{List, [], ◌∷◌, ◌++◌, map}
use Rattle.std.proofs.Math.Option.{some}
use Rattle.std.proofs.Math.Bool.{true, or-true}
use Rattle.std.proofs.lemmas.Bool.{false≢true, and_from}
use Rattle.std.specs.Cmp.{first_so, second_so}
use Rattle.grammar.specs.Lists.{AllOf, AnyOf, all}
use Rattle.language.specs.Shape.{Symbol, Word, Shape, eps, fail, symbol, call_of, seq, alt, opt, star, plus, seqs, alts, quantified}
use Rattle.language.specs.Shape.{Shapes, find, is_mark}
use Rattle.language.specs.Derive.{Der, d_eps, d_symbol, d_call, d_unknown, d_seq, d_left, d_right, d_absent, d_present, d_none}
use Rattle.language.specs.Derive.{d_more, d_some, CanBeEmpty}
use Rattle.grammar.specs.Laws.Parse.{either}
use Rattle.language.specs.Laws.Quantifier.{is_optional_quantifier, quantified_cases}
use Rattle.language.specs.Laws.Algebra.{fails}

-- Marks in front and behind.
marks_left : (u v : Word) → all is_mark (u ++ v) ≡ true → all is_mark u ≡ true
unfolding all
marks_left [] v e = refl
marks_left (a ∷ u) v e =
    and_from (is_mark a) (all is_mark u) (first_so (is_mark a) _ e) (marks_left u v (second_so (is_mark a) (all is_mark (u ++ v)) e))

marks_right : (u v : Word) → all is_mark (u ++ v) ≡ true → all is_mark v ≡ true
unfolding all
marks_right [] v e = e
marks_right (a ∷ u) v e = marks_right u v (second_so (is_mark a) (all is_mark (u ++ v)) e)

marks_both : (u v : Word) → all is_mark u ≡ true → all is_mark v ≡ true → all is_mark (u ++ v) ≡ true
unfolding all
marks_both [] v e f = f
marks_both (a ∷ u) v e f =
    and_from (is_mark a) (all is_mark (u ++ v)) (first_so (is_mark a) (all is_mark u) e)
    (marks_both u v (second_so (is_mark a) (all is_mark u) e) f)

no_marks : all is_mark [] ≡ true
unfolding all
no_marks = refl

module _ {G : Shapes} where
  -- By the empty string itself.
  pub nothing : {s : Shape} → Der G s [] → CanBeEmpty G s
  nothing d = record { word = []; marks = no_marks; tree = d }

  -- By a derivation of the same string.
  pub by_same : {K : Shapes} {s t : Shape} → ((w : Word) → Der G s w → Der K t w) → CanBeEmpty G s → CanBeEmpty K t
  by_same f x = record { word = x.word; marks = x.marks; tree = f x.word x.tree }

  pub symbol_empty : (a : Symbol) → CanBeEmpty G (symbol a) ↔ (is_mark a ≡ true)
  unfolding all
  symbol_empty a = (
    λ x. opens x.tree x.marks,
    λ t. record { word = a ∷ []; marks = and_from (is_mark a) true t refl; tree = d_symbol },
  )
    where
      opens : {w : Word} → Der G (symbol a) w → all is_mark w ≡ true → is_mark a ≡ true
      opens d_symbol t = first_so (is_mark a) true t

  pub call_empty : (n : ℕ) → CanBeEmpty G (call_of n) ↔ ((b : Shape) × (find G n ≡ some b) × CanBeEmpty G b)
  unfolding all is_mark
  call_empty n = (λ x. opens x.tree x.marks, λ r. by_same (λ w. d_call r.1) r.2)
    where
      opens : {w : Word} → Der G (call_of n) w → all is_mark w ≡ true → (b : Shape) × (find G n ≡ some b) × CanBeEmpty G b
      opens (d_call {b = b} e d) t = (b, e, record { word = _; marks = t; tree = d })
      opens (d_unknown e) t = absurd (false≢true t)

  pub seq_empty : (s t : Shape) → CanBeEmpty G (seq s t) ↔ (CanBeEmpty G s × CanBeEmpty G t)
  seq_empty s t = (
    λ x. opens x.tree x.marks,
    λ r. record {
      word = r.0.word ++ r.1.word;
      marks = marks_both r.0.word r.1.word r.0.marks r.1.marks;
      tree = d_seq refl r.0.tree r.1.tree;
    },
  )
    where
      opens : {w : Word} → Der G (seq s t) w → all is_mark w ≡ true → CanBeEmpty G s × CanBeEmpty G t
      opens (d_seq {u = u} {v = v} e x y) m =
          let k : all is_mark (u ++ v) ≡ true = rw e m in
          (record { word = u; marks = marks_left u v k; tree = x }, record { word = v; marks = marks_right u v k; tree = y })

  pub alt_empty : (s t : Shape) → CanBeEmpty G (alt s t) ↔ (CanBeEmpty G s ⊎ CanBeEmpty G t)
  alt_empty s t = (λ x. opens x.tree x.marks, closes)
    where
      opens : {w : Word} → Der G (alt s t) w → all is_mark w ≡ true → CanBeEmpty G s ⊎ CanBeEmpty G t
      opens (d_left x) m = inl (record { word = _; marks = m; tree = x })
      opens (d_right y) m = inr (record { word = _; marks = m; tree = y })

      closes : CanBeEmpty G s ⊎ CanBeEmpty G t → CanBeEmpty G (alt s t)
      closes (inl x) = by_same (λ w. d_left) x
      closes (inr y) = by_same (λ w. d_right) y

  pub plus_empty : (s : Shape) → CanBeEmpty G (plus s) ↔ CanBeEmpty G s
  plus_empty s = (
    λ x. opens x.tree x.marks,
    λ x. record {
      word = x.word ++ [];
      marks = marks_both x.word [] x.marks no_marks;
      tree = d_some refl x.tree d_none;
    },
  )
    where
      opens : {w : Word} → Der G (plus s) w → all is_mark w ≡ true → CanBeEmpty G s
      opens (d_some {u = u} {v = v} e x y) m = record { word = u; marks = marks_left u v (rw e m); tree = x }

  -- An alternative can be empty where each of its elements can.
  pub seqs_empty : (ss : List Shape) → CanBeEmpty G (seqs ss) ↔ AllOf (CanBeEmpty G) ss
  seqs_empty [] = (λ d. tt, λ u. nothing d_eps)
  seqs_empty (s ∷ ss) = (
    λ d. (((seq_empty s (seqs ss)).0 d).0, (seqs_empty ss).0 ((seq_empty s (seqs ss)).0 d).1),
    λ r. (seq_empty s (seqs ss)).1 (r.0, (seqs_empty ss).1 r.1),
  )

  -- A block or a rule where one of its alternatives can.
  pub alts_empty : (ss : List Shape) → CanBeEmpty G (alts ss) ↔ AnyOf (CanBeEmpty G) ss
  alts_empty [] = (λ d. fails d.tree, λ n. absurd n)
  alts_empty (s ∷ ss) = (
    λ d. ⊎_map (λ x. x) (alts_empty ss).0 ((alt_empty s (alts ss)).0 d),
    λ r. (alt_empty s (alts ss)).1 (⊎_map (λ x. x) (alts_empty ss).1 r),
  )

  -- An element where its quantifier lets it be absent, or what is counted can be empty.
  pub quantified_empty : (q : ℕ) (s : Shape) → CanBeEmpty G (quantified q s) ↔ ((is_optional_quantifier q ≡ true) ⊎ CanBeEmpty G s)
  quantified_empty q s =
      quantified_cases (λ o t. CanBeEmpty G t ↔ ((o ≡ true) ⊎ CanBeEmpty G s)) q s
      (inr, ⊎_elim (λ e. absurd (false≢true e)) (λ d. d))
      (λ d. inl refl, λ r. nothing d_absent)
      (λ d. inl refl, λ r. nothing d_none)
      (λ d. inr ((plus_empty s).0 d), ⊎_elim (λ e. absurd (false≢true e)) (plus_empty s).1)

-- The test, if the names that can be empty are those with N.
unfoldable pub empty_if : (ℕ → Bool) → Shape → Bool
empty_if N eps = true
empty_if N fail = false
empty_if N (symbol a) = is_mark a
empty_if N (call_of n) = N n
empty_if N (seq s t) = empty_if N s && empty_if N t
empty_if N (alt s t) = empty_if N s || empty_if N t
empty_if N (opt s) = true
empty_if N (star s) = true
empty_if N (plus s) = empty_if N s

module _ (N : ℕ → Bool) where
  -- The test of an element, an alternative.
  pub empty_if_quantified : (q : ℕ) (s : Shape) → empty_if N (quantified q s) ≡ (is_optional_quantifier q || empty_if N s)
  unfolding empty_if
  empty_if_quantified q s = quantified_cases (λ o t. empty_if N t ≡ (o || empty_if N s)) q s refl refl refl refl

  pub empty_if_seqs : {A : Type 0} (f : A → Shape) (as' : List A) → empty_if N (seqs (map f as')) ≡ all (λ a. empty_if N (f a)) as'
  unfolding empty_if all
  empty_if_seqs f [] = refl
  empty_if_seqs f (a ∷ as') = ap (λ b. empty_if N (f a) && b) (empty_if_seqs f as')

  module _ {G : Shapes} where
    -- If what N names can be empty, so can what the test finds.
    pub empty_if_sound : ((n : ℕ) → N n ≡ true → CanBeEmpty G (call_of n)) → (s : Shape) → empty_if N s ≡ true → CanBeEmpty G s
    unfolding empty_if
    empty_if_sound h eps t = nothing d_eps
    empty_if_sound h fail t = absurd (false≢true t)
    empty_if_sound h (symbol a) t = (symbol_empty a).1 t
    empty_if_sound h (call_of n) t = h n t
    empty_if_sound h (seq s r) t =
        (seq_empty s r).1 (
          empty_if_sound h s (first_so (empty_if N s) (empty_if N r) t),
          empty_if_sound h r (second_so (empty_if N s) (empty_if N r) t),
        )
    empty_if_sound h (alt s r) t =
        either (empty_if N s)
        (λ u. (alt_empty s r).1 (inl (empty_if_sound h s u)))
        (λ f. (alt_empty s r).1 (inr (empty_if_sound h r (rw f at t))))
    empty_if_sound h (opt s) t = nothing d_absent
    empty_if_sound h (star s) t = nothing d_none
    empty_if_sound h (plus s) t = (plus_empty s).1 (empty_if_sound h s t)

    -- If N names every rule whose body the test finds, the test finds all that can be empty.
    empty_if_finds : ((n : ℕ) (b : Shape) → find G n ≡ some b → empty_if N b ≡ true → N n ≡ true) → {s : Shape} {w : Word} → Der G s w
        → all is_mark w ≡ true
        → empty_if N s ≡ true
    unfolding empty_if all is_mark
    empty_if_finds h d_eps e = refl
    empty_if_finds h (d_symbol {a = a}) e = first_so (is_mark a) true e
    empty_if_finds h (d_call {n = n} {b = b} f d) e = h n b f (empty_if_finds h d e)
    empty_if_finds h (d_unknown f) e = absurd (false≢true e)
    empty_if_finds h (d_seq {u = u} {v = v} f x y) e =
        and_from _ _ (empty_if_finds h x (marks_left u v (rw f e))) (empty_if_finds h y (marks_right u v (rw f e)))
    empty_if_finds h (d_left {t = t} x) e = ap (λ b. b || empty_if N t) (empty_if_finds h x e)
    empty_if_finds h (d_right {s = s} y) e = ap (λ b. empty_if N s || b) (empty_if_finds h y e) ∙ or-true (empty_if N s)
    empty_if_finds h d_absent e = refl
    empty_if_finds h (d_present x) e = refl
    empty_if_finds h d_none e = refl
    empty_if_finds h (d_more f x y) e = refl
    empty_if_finds h (d_some {u = u} {v = v} f x y) e = empty_if_finds h x (marks_left u v (rw f e))

    pub empty_if_complete : ((n : ℕ) (b : Shape) → find G n ≡ some b → empty_if N b ≡ true → N n ≡ true) → (s : Shape) → CanBeEmpty G s
        → empty_if N s ≡ true
    empty_if_complete h s d = empty_if_finds h d.tree d.marks

    -- Both: the test is exact where N is sound and closed.
    pub empty_if_exact : ((n : ℕ) → N n ≡ true → CanBeEmpty G (call_of n))
        → ((n : ℕ) (b : Shape) → find G n ≡ some b → empty_if N b ≡ true → N n ≡ true)
        → (s : Shape) → (empty_if N s ≡ true) ↔ CanBeEmpty G s
    empty_if_exact sound closed s = (empty_if_sound sound s, empty_if_complete closed s)
