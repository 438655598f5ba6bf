-- Covering and replacement: when the derivations of one grammar carry over to another.
use Rattle.std.specs.Prelude.{ℕ, ◌≡◌, refl, [], ◌∷◌, true, false, eqb}
use Rattle.std.proofs.Common.{sym, ◌∙◌, subst, eqb-true, ne_eqb}
use Rattle.std.proofs.Math.Option.{none, some, some-injective, none-ne-some}
use Rattle.std.proofs.Math.Decide.{ℕ_discrete}
use Rattle.language.specs.Shape.{Word, Shape, call_of, NamedShape, Shapes, find}
use Rattle.language.specs.Derive.{Der, d_eps, d_symbol, d_call, d_unknown, d_seq, d_left, d_right, d_absent, d_present, d_none}
use Rattle.language.specs.Derive.{d_more, d_some}
use Rattle.grammar.specs.Laws.Parse.{either}

-- s, read in G, derives only what t derives, read in K.
abbrev pub Within : Shapes → Shape → Shapes → Shape → Type 0
Within G s K t = (w : Word) → Der G s w → Der K t w

-- The two derive the same strings.
pub record Same (G : Shapes) (s : Shape) (K : Shapes) (t : Shape) : Type 0 where
  pub to : Within G s K t
  pub back : Within K t G s

pub same_refl : (G : Shapes) (s : Shape) → Same G s G s
same_refl G s = record { to = λ w d. d; back = λ w d. d }

pub same_sym : {G K : Shapes} {s t : Shape} → Same G s K t → Same K t G s
same_sym e = record { to = e.back; back = e.to }

pub same_trans : {G K L : Shapes} {s t u : Shape} → Same G s K t → Same K t L u → Same G s L u
same_trans e f = record { to = λ w d. f.to w (e.to w d); back = λ w d. e.back w (f.back w d) }

-- Every shape derives the same strings in both grammars.
abbrev pub SameStrings : Shapes → Shapes → Type 0
SameStrings G K = (s : Shape) → Same G s K s

-- K covers G: what a rule has for a body in G derives in K no string that a call of the rule does not derive there; and a
-- name that is unknown in G is unknown in K.
pub record Covers (G K : Shapes) : Type 0 where
  pub bodies : (n : ℕ) (b : Shape) → find G n ≡ some b → Within K b K (call_of n)
  pub unknowns : (n : ℕ) → find G n ≡ none → find K n ≡ none

-- Covering: every derivation of G carries over to K.
pub covering : {G K : Shapes} → Covers G K → {s : Shape} {w : Word} → Der G s w → Der K s w
covering c d_eps = d_eps
covering c d_symbol = d_symbol
covering c (d_call {n = n} {b = b} {w = w} e d) = c.bodies n b e w (covering c d)
covering c (d_unknown {n = n} e) = d_unknown (c.unknowns n e)
covering c (d_seq e d f) = d_seq e (covering c d) (covering c f)
covering c (d_left d) = d_left (covering c d)
covering c (d_right d) = d_right (covering c d)
covering c d_absent = d_absent
covering c (d_present d) = d_present (covering c d)
covering c d_none = d_none
covering c (d_more e d f) = d_more e (covering c d) (covering c f)
covering c (d_some e d f) = d_some e (covering c d) (covering c f)

pub covering_both : {G K : Shapes} → Covers G K → Covers K G → SameStrings G K
covering_both c k s = record { to = λ w d. covering c d; back = λ w d. covering k d }

-- K has the rules of G, but perhaps for the body of H.
pub record ButFor (H : ℕ) (G K : Shapes) : Type 0 where
  pub others : (n : ℕ) → (n ≡ H → ⊥) → find K n ≡ find G n

pub but_for_refl : (H : ℕ) (G : Shapes) → ButFor H G G
but_for_refl H G = record { others = λ n ne. refl }

pub but_for_sym : {H : ℕ} {G K : Shapes} → ButFor H G K → ButFor H K G
but_for_sym o = record { others = λ n ne. sym (o.others n ne) }

module _ {H : ℕ} {G K : Shapes} {b c : Shape} (o : ButFor H G K) (g : find G H ≡ some b) (k : find K H ≡ some c) where
  replaced_covers : Within K b K c → Covers G K
  replaced_covers into =
      record {
        bodies = λ n x e w d.
            elim (ℕ_discrete n H) [
              | yes p ↦
                  let h : find K n ≡ some c = subst (λ m. find K m ≡ some c) (sym p) k in
                  let q : x ≡ b = some-injective x b (sym e ∙ subst (λ m. find G m ≡ some b) (sym p) g) in
                  d_call h (into w (subst (λ y. Der K y w) q d))
              | no ne ↦ d_call (o.others n ne ∙ e) d
            ];
        unknowns = λ n e.
            elim (ℕ_discrete n H) [
              | yes p ↦ absurd (none-ne-some b (sym e ∙ subst (λ m. find G m ≡ some b) (sym p) g))
              | no ne ↦ o.others n ne ∙ e
            ];
      }

-- Replacement: G and K are alike but for the body of H, and each body derives what the other does in the grammar that the
-- other stands in.
pub replacement : {H : ℕ} {G K : Shapes} {b c : Shape} → ButFor H G K → find G H ≡ some b → find K H ≡ some c
    → Within K b K c → Within G c G b → SameStrings G K
replacement o g k into out = covering_both (replaced_covers o g k into) (replaced_covers (but_for_sym o) k g out)

-- Two bodies that derive the same in every grammar that differs from G in the body of H alone.
abbrev pub Alike : ℕ → Shapes → Shape → Shape → Type 0
Alike H G b c = (K : Shapes) → ButFor H G K → Same K b K c

pub alike_refl : (H : ℕ) (G : Shapes) (b : Shape) → Alike H G b b
alike_refl H G b K o = same_refl K b

pub alike_trans : {H : ℕ} {G : Shapes} {b c d : Shape} → Alike H G b c → Alike H G c d → Alike H G b d
alike_trans p q K o = same_trans (p K o) (q K o)

-- One may stand for the other as the body of H.
pub alike_replaced : {H : ℕ} {G K : Shapes} {b c : Shape} → ButFor H G K → find G H ≡ some b → find K H ≡ some c
    → Alike H G b c → SameStrings G K
alike_replaced {H} {G} {K} o g k p = replacement o g k (p K o).to (p G (but_for_refl H G)).back

pub find_here : (r : NamedShape) (rs : Shapes) (n : ℕ) → eqb r.name n ≡ true → find (r ∷ rs) n ≡ some r.body
unfolding find
find_here r rs n t = rw (t, find)

pub find_next : (r : NamedShape) (rs : Shapes) (n : ℕ) → eqb r.name n ≡ false → find (r ∷ rs) n ≡ find rs n
unfolding find
find_next r rs n f = rw (f, find)

pub find_behind : (r : NamedShape) (rs ks : Shapes) (n : ℕ) → find rs n ≡ find ks n → find (r ∷ rs) n ≡ find (r ∷ ks) n
find_behind r rs ks n e =
    either (eqb r.name n)
    (λ t. find_here r rs n t ∙ sym (find_here r ks n t))
    (λ f. find_next r rs n f ∙ e ∙ sym (find_next r ks n f))

-- The grammar with another body for the rules of a name.
unfoldable pub replace_body : ℕ → Shape → Shapes → Shapes
replace_body n b [] = []
replace_body n b (r ∷ rs) =
    elim (eqb r.name n) [ true ↦ record { name = r.name; body = b } ∷ replace_body n b rs | false ↦ r ∷ replace_body n b rs ]

replaced_other : (H : ℕ) (c : Shape) (G : Shapes) (n : ℕ) → (n ≡ H → ⊥) → find (replace_body H c G) n ≡ find G n
unfolding find replace_body
replaced_other H c [] n ne = refl
replaced_other H c (r ∷ rs) n ne =
    either (eqb r.name H)
    (λ t.
    let f : eqb r.name n ≡ false = ne_eqb r.name n (λ p. ne (sym p ∙ eqb-true r.name H t)) in
    rw (t, replace_body) (find_next (record { name = r.name; body = c }) (replace_body H c rs) n f ∙ replaced_other H c rs n ne
    ∙ sym (find_next r rs n f)))
    (λ f. rw (f, replace_body) (find_behind r (replace_body H c rs) rs n (replaced_other H c rs n ne)))

pub replaced_others : (H : ℕ) (c : Shape) (G : Shapes) → ButFor H G (replace_body H c G)
replaced_others H c G = record { others = replaced_other H c G }

pub replaced_found : (H : ℕ) (c : Shape) (G : Shapes) {b : Shape} → find G H ≡ some b → find (replace_body H c G) H ≡ some c
unfolding find replace_body
replaced_found H c [] {b} e = absurd (none-ne-some b e)
replaced_found H c (r ∷ rs) e =
    either (eqb r.name H)
    (λ t. rw (t, replace_body) (find_here (record { name = r.name; body = c }) (replace_body H c rs) H t))
    (λ f. rw (f, replace_body) (find_next r (replace_body H c rs) H f ∙ replaced_found H c rs (sym (find_next r rs H f) ∙ e)))
