-- Removal: what calls no removed rule, and leads to none, derives the same before and after.
use Rattle.std.specs.Prelude.{ℕ, ◌≡◌, refl, [], ◌∷◌, Bool, true, false, eqb}
use Rattle.std.proofs.Common.{sym, ap, ◌∙◌, true≢false, ne_eqb}
use Rattle.std.proofs.Math.Option.{some}
use Rattle.language.specs.Shape.{Word, Shape, eps, fail, symbol, call_of, seq, alt, opt, star, plus, quantified, Shapes, find}
use Rattle.language.specs.Shape.{EachCall}
use Rattle.language.specs.Derive.{Der, d_eps, d_symbol, d_call, d_unknown, d_seq, d_left, d_right, d_absent, d_present, d_none}
use Rattle.language.specs.Derive.{d_more, d_some}
use Rattle.grammar.specs.Laws.Parse.{either}
use Rattle.language.specs.Laws.Quantifier.{quantified_cases}
use Rattle.language.specs.Laws.Cover.{Same, find_next, find_behind}

pub each_quantified : (P : ℕ → Type 0) (q : ℕ) (s : Shape) → EachCall P s → EachCall P (quantified q s)
each_quantified P q s p = quantified_cases (λ o t. EachCall P t) q s p p p p

pub each_any : (s : Shape) → EachCall (λ n. Unit {0}) s
each_any eps = tt
each_any fail = tt
each_any (symbol a) = tt
each_any (call_of n) = tt
each_any (seq s t) = (each_any s, each_any t)
each_any (alt s t) = (each_any s, each_any t)
each_any (opt s) = each_any s
each_any (star s) = each_any s
each_any (plus s) = each_any s

-- Names with the property P are found alike in both grammars, and their bodies call such names alone.
pub record AlikeOn (P : ℕ → Type 0) (G K : Shapes) : Type 0 where
  pub found : (n : ℕ) → P n → find K n ≡ find G n
  pub calls : (n : ℕ) (b : Shape) → P n → find G n ≡ some b → EachCall P b

pub alike_on_sym : {P : ℕ → Type 0} {G K : Shapes} → AlikeOn P G K → AlikeOn P K G
alike_on_sym a = record { found = λ n p. sym (a.found n p); calls = λ n b p e. a.calls n b p (sym (a.found n p) ∙ e) }

stays : {P : ℕ → Type 0} {G K : Shapes} → AlikeOn P G K → {s : Shape} {w : Word} → Der G s w → EachCall P s → Der K s w
stays a d_eps p = d_eps
stays a d_symbol p = d_symbol
stays a (d_call {n = n} {b = b} e d) p = d_call (a.found n p ∙ e) (stays a d (a.calls n b p e))
stays a (d_unknown {n = n} e) p = d_unknown (a.found n p ∙ e)
stays a (d_seq e d f) p = d_seq e (stays a d p.0) (stays a f p.1)
stays a (d_left d) p = d_left (stays a d p.0)
stays a (d_right d) p = d_right (stays a d p.1)
stays a d_absent p = d_absent
stays a (d_present d) p = d_present (stays a d p)
stays a d_none p = d_none
stays a (d_more e d f) p = d_more e (stays a d p) (stays a f p)
stays a (d_some e d f) p = d_some e (stays a d p) (stays a f p)

-- What calls such names alone derives the same in both.
pub removal : {P : ℕ → Type 0} {G K : Shapes} → AlikeOn P G K → (s : Shape) → EachCall P s → Same G s K s
removal a s p = record { to = λ w d. stays a d p; back = λ w d. stays (alike_on_sym a) d p }

-- The grammar without the rules of some names.
unfoldable pub without : (ℕ → Bool) → Shapes → Shapes
without gone [] = []
without gone (r ∷ rs) = elim (gone r.name) [ true ↦ without gone rs | false ↦ r ∷ without gone rs ]

pub without_found : (gone : ℕ → Bool) (G : Shapes) (n : ℕ) → gone n ≡ false → find (without gone G) n ≡ find G n
unfolding without find
without_found gone [] n g = refl
without_found gone (r ∷ rs) n g =
    either (gone r.name)
    (λ t.
    let f : eqb r.name n ≡ false = ne_eqb r.name n λ p. true≢false (sym t ∙ ap gone p ∙ g) in
    rw (t, without) (without_found gone rs n g ∙ sym (find_next r rs n f)))
    (λ f. rw (f, without) (find_behind r (without gone rs) rs n (without_found gone rs n g)))

-- If no rule kept calls one removed, every rule kept derives the same before and after.
pub removal_names : (gone : ℕ → Bool) (G : Shapes)
    → ((n : ℕ) (b : Shape) → gone n ≡ false → find G n ≡ some b → EachCall (λ m. gone m ≡ false) b)
    → (n : ℕ) → gone n ≡ false → Same G (call_of n) (without gone G) (call_of n)
removal_names gone G closed n g = removal (record { found = without_found gone G; calls = closed }) (call_of n) g
