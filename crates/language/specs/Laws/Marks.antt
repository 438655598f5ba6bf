-- Strings without an end mark: all that a grammar without kind 7 derives. There what can be empty derives the empty string.
use Rattle.std.specs.Prelude.{ℕ, ◌≡◌, ◌↔◌, [], ◌∷◌, ◌++◌, Bool, true, false, ◌||◌}
use Rattle.std.proofs.Math.Path.{refl, ap, subst}
use Rattle.std.proofs.Common.{sym, ◌∙◌, true≢false}
use Rattle.std.proofs.Math.Option.{some}
use Rattle.std.specs.Cmp.{first_so}
use Rattle.grammar.specs.Lists.{all, any}
use Rattle.language.specs.Shape.{Word, Shape, eps, fail, symbol, call_of, seq, alt, opt, star, plus, quantified, Shapes, find, is_mark}
use Rattle.language.specs.Derive.{Der, d_eps, d_symbol, d_call, d_unknown, d_seq, d_left, d_right, d_absent, d_present, d_none}
use Rattle.language.specs.Derive.{d_more, d_some, CanBeEmpty}
use Rattle.language.specs.Laws.Empty.{nothing}
use Rattle.language.specs.Laws.Quantifier.{quantified_cases}

-- No end mark stands in a shape.
abbrev pub Markless : Shape → Type 0
Markless eps = Unit {0}
Markless fail = Unit {0}
Markless (symbol a) = is_mark a ≡ false
Markless (call_of n) = Unit {0}
Markless (seq s t) = Markless s × Markless t
Markless (alt s t) = Markless s × Markless t
Markless (opt s) = Markless s
Markless (star s) = Markless s
Markless (plus s) = Markless s

pub markless_quantified : (q : ℕ) (s : Shape) → Markless s → Markless (quantified q s)
markless_quantified q s p = quantified_cases (λ o t. Markless t) q s p p p p

-- Of two strings, one behind the other.
no_mark_both : (u v : Word) → any is_mark u ≡ false → any is_mark v ≡ false → any is_mark (u ++ v) ≡ false
unfolding any
no_mark_both [] v e f = f
no_mark_both (a ∷ u) v e f = cons (is_mark a) (any is_mark u) e (no_mark_both u v)
  where
    cons : (x y : Bool) {z : Bool} → (x || y) ≡ false → (y ≡ false → any is_mark v ≡ false → z ≡ false) → (x || z) ≡ false
    cons true y e g = e
    cons false y e g = g e f

-- A string of end marks alone that holds none.
pub no_mark_empty : (w : Word) → any is_mark w ≡ false → all is_mark w ≡ true → w ≡ []
unfolding any all
no_mark_empty [] e f = refl
no_mark_empty (a ∷ w) e f = absurd (true≢false (sym (ap (λ b. b || any is_mark w) (first_so (is_mark a) (all is_mark w) f)) ∙ e))

module _ {G : Shapes} (inner : (n : ℕ) (b : Shape) → find G n ≡ some b → Markless b) where
  pub markless_word : {s : Shape} {w : Word} → Der G s w → Markless s → any is_mark w ≡ false
  unfolding any is_mark
  markless_word d_eps p = refl
  markless_word (d_symbol {a = a}) p = ap (λ b. b || false) p
  markless_word (d_call {n = n} {b = b} e x) p = markless_word x (inner n b e)
  markless_word (d_unknown e) p = refl
  markless_word (d_seq {u = u} {v = v} e x y) p =
      subst (λ w. any is_mark w ≡ false) e (no_mark_both u v (markless_word x p.0) (markless_word y p.1))
  markless_word (d_left x) p = markless_word x p.0
  markless_word (d_right y) p = markless_word y p.1
  markless_word d_absent p = refl
  markless_word (d_present x) p = markless_word x p
  markless_word d_none p = refl
  markless_word (d_more {u = u} {v = v} e x y) p =
      subst (λ w. any is_mark w ≡ false) e (no_mark_both u v (markless_word x p) (markless_word y p))
  markless_word (d_some {u = u} {v = v} e x y) p =
      subst (λ w. any is_mark w ≡ false) e (no_mark_both u v (markless_word x p) (markless_word y p))

  pub empty_is_empty : (s : Shape) → Markless s → CanBeEmpty G s ↔ Der G s []
  empty_is_empty s p =
      (λ x. subst (Der G s) (no_mark_empty x.word (markless_word x.tree p) x.marks) x.tree, nothing)
