-- A test that every string passes that a shape derives: what fails it is not derived.
use Prim.Native.Nat.{ℕ, zero, suc}
use Rattle.std.specs.Prelude.{◌≡◌, Bool, ◌&&◌, ◌||◌, eqb}
use Rattle.std.proofs.Math.Path.{refl, ap, subst}
use Rattle.std.proofs.Common.{sym, ◌∙◌, true≢false, eq-eqb}
use mathlib.Core.List.{List, [], ◌∷◌, ◌++◌}
use Rattle.std.proofs.Math.Option.{Option, none, some, some-injective}
use Rattle.std.proofs.Math.Bool.{true, false, or-true}
use Rattle.std.proofs.lemmas.Bool.{and_from}
use Rattle.grammar.specs.Tree.{body_depth, Rule}
use Rattle.grammar.specs.Lists.{is_empty}
use Rattle.language.specs.Shape.{Symbol, token_symbol, unknown_symbol, other_symbol, end_symbol, Word, Shape, eps, fail, symbol, call_of}
use Rattle.language.specs.Shape.{seq}
use Rattle.language.specs.Shape.{alt, opt, star, plus, Shapes, erase_block, bodies_by, erase_rules, find}
use Rattle.laws.specs.Demands.Strings.{Yes, No}
use Rattle.language.specs.Derive.{Der, d_eps, d_symbol, d_call, d_unknown, d_seq, d_left, d_right, d_absent, d_present, d_none, d_more}
use Rattle.language.specs.Derive.{d_some}

abbrev same_symbol : Symbol → Symbol → Bool
same_symbol (token_symbol n) (token_symbol m) = eqb n m
same_symbol (token_symbol n) (unknown_symbol m) = false
same_symbol (token_symbol n) (other_symbol m) = false
same_symbol (token_symbol n) end_symbol = false
same_symbol (unknown_symbol n) (token_symbol m) = false
same_symbol (unknown_symbol n) (unknown_symbol m) = eqb n m
same_symbol (unknown_symbol n) (other_symbol m) = false
same_symbol (unknown_symbol n) end_symbol = false
same_symbol (other_symbol n) (token_symbol m) = false
same_symbol (other_symbol n) (unknown_symbol m) = false
same_symbol (other_symbol n) (other_symbol m) = eqb n m
same_symbol (other_symbol n) end_symbol = false
same_symbol end_symbol (token_symbol m) = false
same_symbol end_symbol (unknown_symbol m) = false
same_symbol end_symbol (other_symbol m) = false
same_symbol end_symbol end_symbol = true

same_symbol_lem : (a : Symbol) → same_symbol a a ≡ true
same_symbol_lem (token_symbol n) = eq-eqb n n refl
same_symbol_lem (unknown_symbol n) = eq-eqb n n refl
same_symbol_lem (other_symbol n) = eq-eqb n n refl
same_symbol_lem end_symbol = refl

-- A string of this symbol alone.
abbrev is_one : Symbol → Word → Bool
is_one a [] = false
is_one a (b ∷ []) = same_symbol a b
is_one a (b ∷ c ∷ w) = false

-- A string is cut in two somewhere so that a test of the parts holds.
abbrev cut : (Word → Word → Bool) → Word → Bool
cut test [] = test [] []
cut test (a ∷ w) = test [] (a ∷ w) || cut (λ u v. test (a ∷ u) v) w

cut_at : (test : Word → Word → Bool) (u v : Word) → test u v ≡ true → cut test (u ++ v) ≡ true
cut_at test [] [] t = t
cut_at test [] (a ∷ v) t = ap (λ b. b || cut (λ u v. test (a ∷ u) v) v) t
cut_at test (a ∷ u) v t = ap (λ b. test [] (a ∷ (u ++ v)) || b) (cut_at (λ u v. test (a ∷ u) v) u v t) ∙ or-true (test [] (a ∷ (u ++ v)))

-- What a call could derive, by the body that is found.
abbrev called_or : ℕ → Word → (Shape → Bool) → Option Shape → Bool
called_or m w test none = is_one (unknown_symbol m) w
called_or m w test (some b) = test b

-- Looked at n deep; beyond that anything passes.
unfoldable pub could : ℕ → Shapes → Shape → Word → Bool
could zero G s w = true
could (suc n) G eps w = is_empty w
could (suc n) G fail w = false
could (suc n) G (symbol a) w = is_one a w
could (suc n) G (call_of m) w = called_or m w (λ b. could n G b w) (find G m)
could (suc n) G (seq s t) w = cut (λ u v. could n G s u && could n G t v) w
could (suc n) G (alt s t) w = could n G s w || could n G t w
could (suc n) G (opt s) w = is_empty w || could n G s w
could (suc n) G (star s) w =
    is_empty w || cut (λ u v. elim (is_empty u) [ true ↦ false | false ↦ could n G s u && could n G (star s) v ]) w
could (suc n) G (plus s) w = cut (λ u v. could n G s u && could n G (star s) v) w

module _ (G : Shapes) where
  more_could : (n : ℕ) (s : Shape) (u v w : Word) → u ++ v ≡ w → could n G s u ≡ true → could n G (star s) v ≡ true
      → could (suc n) G (star s) v ≡ true → could (suc n) G (star s) w ≡ true
  unfolding could
  more_could n s [] v w e x y z = subst (λ w. could (suc n) G (star s) w ≡ true) e z
  more_could n s (a ∷ u) v w e x y z =
      subst (λ w. could (suc n) G (star s) w ≡ true) e
      (cut_at (λ u v. elim (is_empty u) [ true ↦ false | false ↦ could n G s u && could n G (star s) v ]) (a ∷ u) v (and_from _ _ x y))

  pub der_could : {s : Shape} {w : Word} → Der G s w → (n : ℕ) → could n G s w ≡ true
  unfolding could
  der_could d_eps zero = refl
  der_could d_eps (suc n) = refl
  der_could d_symbol zero = refl
  der_could (d_symbol {a = a}) (suc n) = same_symbol_lem a
  der_could (d_call e x) zero = refl
  der_could (d_call {n = m} {w = w} e x) (suc n) = ap (called_or m w (λ b. could n G b w)) e ∙ der_could x n
  der_could (d_unknown e) zero = refl
  der_could (d_unknown {n = m} e) (suc n) =
      ap (called_or m (unknown_symbol m ∷ []) (λ b. could n G b (unknown_symbol m ∷ []))) e ∙ same_symbol_lem (unknown_symbol m)
  der_could (d_seq e x y) zero = refl
  der_could (d_seq {s = s} {t = t} {u = u} {v = v} e x y) (suc n) =
      subst (λ w. could (suc n) G (seq s t) w ≡ true) e
      (cut_at (λ u v. could n G s u && could n G t v) u v (and_from _ _ (der_could x n) (der_could y n)))
  der_could (d_left x) zero = refl
  der_could (d_left {t = t} {w = w} x) (suc n) = ap (λ b. b || could n G t w) (der_could x n)
  der_could (d_right x) zero = refl
  der_could (d_right {s = s} {w = w} x) (suc n) = ap (λ b. could n G s w || b) (der_could x n) ∙ or-true (could n G s w)
  der_could d_absent zero = refl
  der_could d_absent (suc n) = refl
  der_could (d_present x) zero = refl
  der_could (d_present {w = w} x) (suc n) = ap (λ b. is_empty w || b) (der_could x n) ∙ or-true (is_empty w)
  der_could d_none zero = refl
  der_could d_none (suc n) = refl
  der_could (d_more e x y) zero = refl
  der_could (d_more {s = s} {u = u} {v = v} {w = w} e x y) (suc n) =
      more_could n s u v w e (der_could x n) (der_could y n) (der_could y (suc n))
  der_could (d_some e x y) zero = refl
  der_could (d_some {s = s} {u = u} {v = v} e x y) (suc n) =
      subst (λ w. could (suc n) G (plus s) w ≡ true) e
      (cut_at (λ u v. could n G s u && could n G (star s) v) u v (and_from _ _ (der_could x n) (der_could y n)))

could_not : {G : Shapes} {s : Shape} {w : Word} (n : ℕ) → could n G s w ≡ false → Der G s w → ⊥
could_not {G} n f x = true≢false (sym (der_could G x n) ∙ f)

-- The body of the first rule.
abbrev pub body_of : List Rule → Shape
body_of [] = fail
body_of (r ∷ rs) = erase_block body_depth r.body

-- A tree, or none, of that body.
pub tree_of : (rs : List Rule) {w : Word} → find (bodies_by body_depth (λ r. r.id) rs) 1 ≡ some (body_of rs) → (x : Yes rs w)
    → Der (erase_rules body_depth rs) (body_of rs) w
tree_of rs {w} f x =
    subst (λ s. Der (erase_rules body_depth rs) s w) (some-injective x.body (body_of rs) (sym x.found ∙ f)) x.tree

unfoldable pub derived : (rs : List Rule) {w : Word} → find (bodies_by body_depth (λ r. r.id) rs) 1 ≡ some (body_of rs)
    → Der (erase_rules body_depth rs) (body_of rs) w → Yes rs w
derived rs f x = record { body = body_of rs; found = f; tree = x }

pub failed : (rs : List Rule) (w : Word) → find (bodies_by body_depth (λ r. r.id) rs) 1 ≡ some (body_of rs)
    → could 12 (erase_rules body_depth rs) (body_of rs) w ≡ false → No rs w
failed rs w f c x = could_not 12 c (tree_of rs f x)
