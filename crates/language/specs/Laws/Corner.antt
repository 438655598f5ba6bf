-- Left corners: as a list that computes, in one reading and the other, in one grammar and another.
use Rattle.std.specs.Prelude.{ℕ, ◌≡◌, ◌↔◌, List, [], ◌∷◌, ◌++◌, Bool, true, false, ◌&&◌, not}
use Rattle.std.proofs.Math.Path.{refl, subst}
use Rattle.std.proofs.Common.{sym, ap, ◌∙◌}
use Rattle.std.proofs.Math.Logic.{⊎_elim}
use mathlib.Core.List.Memᴰ
use mathlib.Core.List.{Memᴰ}
use Rattle.std.proofs.Math.Option.{Option, none, some}
use Rattle.std.proofs.lemmas.Bool.{false≢true}
use Rattle.std.specs.Cmp.{first_so, second_so}
use borrow.Author.Tests.{not-true}
use Rattle.language.specs.Shape.{Shape, eps, fail, symbol, call_of, seq, alt, opt, star, plus, quantified, Shapes, find, EachCall}
use Rattle.language.specs.Derive.{CanBeEmpty}
use Rattle.language.specs.Laws.Empty.{by_same}
use Rattle.grammar.specs.Corners.{Corners, rust, textbook}
use Rattle.language.specs.LeftCorners.{is_missing, is_symbol, stops, Skippable, Corner, c_call, c_first, c_later, c_left, c_right}
use Rattle.language.specs.LeftCorners.{c_opt, c_star, c_plus, Reaches, r_last, r_more}
use Rattle.language.specs.Laws.Quantifier.{quantified_cases}
use Rattle.language.specs.Laws.Removal.{each_any, AlikeOn, alike_on_sym, removal}
use Rattle.language.specs.Laws.Cover.{SameStrings}

module _ {c : Corners} {G : Shapes} where
  -- The quantifier of an element does not change its left corners, nor whether it is a symbol.
  pub corner_quantified : (q : ℕ) (s : Shape) {n : ℕ} → Corner c G (quantified q s) n ↔ Corner c G s n
  corner_quantified q s {n} =
      quantified_cases (λ o t. Corner c G t n ↔ Corner c G s n) q s (λ k. k, λ k. k) (from_opt, c_opt) (from_star, c_star)
      (from_plus, c_plus)
    where
      from_opt : Corner c G (opt s) n → Corner c G s n
      from_opt (c_opt k) = k

      from_star : Corner c G (star s) n → Corner c G s n
      from_star (c_star k) = k

      from_plus : Corner c G (plus s) n → Corner c G s n
      from_plus (c_plus k) = k

  -- What the Rust finds the textbook finds.
  pub corner_textbook : {s : Shape} {n : ℕ} → Corner c G s n → Corner textbook G s n
  unfolding stops
  corner_textbook (c_call e) = c_call e
  corner_textbook (c_first k) = c_first (corner_textbook k)
  corner_textbook (c_later o k) = c_later (record { empty = o.empty; goes_on = refl }) (corner_textbook k)
  corner_textbook (c_left k) = c_left (corner_textbook k)
  corner_textbook (c_right k) = c_right (corner_textbook k)
  corner_textbook (c_opt k) = c_opt (corner_textbook k)
  corner_textbook (c_star k) = c_star (corner_textbook k)
  corner_textbook (c_plus k) = c_plus (corner_textbook k)

  pub reaches_trans : {n m k : ℕ} → Reaches c G n m → Reaches c G m k → Reaches c G n k
  reaches_trans (r_last l) r = r_more l r
  reaches_trans (r_more l p) r = r_more l (reaches_trans p r)

pub symbol_quantified : (G : Shapes) (q : ℕ) (s : Shape) → is_symbol G (quantified q s) ≡ is_symbol G s
unfolding is_symbol
symbol_quantified G q s = quantified_cases (λ o t. is_symbol G t ≡ is_symbol G s) q s refl refl refl refl

-- The items, where a test holds.
abbrev pub given : {A : Type 0} → Bool → List A → List A
given true as' = as'
given false as' = []

abbrev pub if_found : ℕ → Option Shape → List ℕ
if_found n none = []
if_found n (some b) = n ∷ []

in_given : {A : Type 0} {a : A} (b : Bool) {as' : List A} → Memᴰ a (given b as') → (b ≡ true) × Memᴰ a as'
in_given true m = (refl, m)
in_given false m = absurd (Memᴰ.not-nil m)

in_found : {n m : ℕ} (o : Option Shape) → Memᴰ m (if_found n o) → (b : Shape) × (o ≡ some b) × (m ≡ n)
in_found none m = absurd (Memᴰ.not-nil m)
in_found (some b) m = (b, refl, Memᴰ.eq_of_singleton m)

-- The left corners as a list, by a test for what can be empty.
module _ (c : Corners) (G : Shapes) (empty : Shape → Bool) where
  unfoldable pub corners_of : Shape → List ℕ
  corners_of eps = []
  corners_of fail = []
  corners_of (symbol a) = []
  corners_of (call_of n) = if_found n (find G n)
  corners_of (seq s t) = corners_of s ++ given (not (stops c G s) && empty s) (corners_of t)
  corners_of (alt s t) = corners_of s ++ corners_of t
  corners_of (opt s) = corners_of s
  corners_of (star s) = corners_of s
  corners_of (plus s) = corners_of s

  module _ (exact : (s : Shape) → (empty s ≡ true) ↔ CanBeEmpty G s) where
    listed : (s : Shape) {n : ℕ} → Memᴰ n (corners_of s) → Corner c G s n
    unfolding corners_of
    listed eps m = absurd (Memᴰ.not-nil m)
    listed fail m = absurd (Memᴰ.not-nil m)
    listed (symbol a) m = absurd (Memᴰ.not-nil m)
    listed (call_of n) {n = k} m =
        let f = in_found (find G n) m in
        subst (λ x. Corner c G (call_of n) x) (sym f.2) (c_call f.1)
    listed (seq s t) m =
        ⊎_elim (λ l. c_first (listed s l))
        (λ r.
        let g = in_given (not (stops c G s) && empty s) r in
        let o : Skippable c G s =
        record {
          empty = (exact s).0 (second_so (not (stops c G s)) (empty s) g.0);
          goes_on = not-true (stops c G s) (first_so (not (stops c G s)) (empty s) g.0);
        } in
        c_later o (listed t g.1))
        (Memᴰ.append_cases (corners_of s) m)
    listed (alt s t) m = ⊎_elim (λ l. c_left (listed s l)) (λ r. c_right (listed t r)) (Memᴰ.append_cases (corners_of s) m)
    listed (opt s) m = c_opt (listed s m)
    listed (star s) m = c_star (listed s m)
    listed (plus s) m = c_plus (listed s m)

    lists : {s : Shape} {n : ℕ} → Corner c G s n → Memᴰ n (corners_of s)
    unfolding corners_of
    lists (c_call {n = n} e) = rw e (Memᴰ.head refl)
    lists (c_first {s = s} {t = t} k) = Memᴰ.append_left (given (not (stops c G s) && empty s) (corners_of t)) (lists k)
    lists (c_later {s = s} o k) = Memᴰ.append_right (corners_of s) (rw (o.goes_on, (exact s).1 o.empty) (lists k))
    lists (c_left {t = t} k) = Memᴰ.append_left (corners_of t) (lists k)
    lists (c_right {s = s} k) = Memᴰ.append_right (corners_of s) (lists k)
    lists (c_opt k) = lists k
    lists (c_star k) = lists k
    lists (c_plus k) = lists k

    -- The list holds the left corners and nothing else.
    pub corners_exact : (s : Shape) (n : ℕ) → Memᴰ n (corners_of s) ↔ Corner c G s n
    corners_exact s n = (listed s, lists)

-- Of the names with P the same are rules' in both grammars, and what calls such names alone and can be empty in G can be in K.
pub record SeenAlike (P : ℕ → Type 0) (G K : Shapes) : Type 0 where
  pub known : (n : ℕ) → P n → is_missing (find K n) ≡ is_missing (find G n)
  pub empties : (s : Shape) → EachCall P s → CanBeEmpty G s → CanBeEmpty K s

is_found : (o : Option Shape) → is_missing o ≡ false → (b : Shape) × (o ≡ some b)
is_found none e = absurd (false≢true (sym e))
is_found (some b) e = (b, refl)

module _ {P : ℕ → Type 0} {G K : Shapes} (a : SeenAlike P G K) where
  symbol_alike : (s : Shape) → EachCall P s → is_symbol K s ≡ is_symbol G s
  unfolding is_symbol
  symbol_alike eps p = refl
  symbol_alike fail p = refl
  symbol_alike (symbol x) p = refl
  symbol_alike (call_of n) p = a.known n p
  symbol_alike (seq s t) p = refl
  symbol_alike (alt s t) p = refl
  symbol_alike (opt s) p = symbol_alike s p
  symbol_alike (star s) p = symbol_alike s p
  symbol_alike (plus s) p = symbol_alike s p

  stops_alike : (c : Corners) (s : Shape) → EachCall P s → stops c K s ≡ stops c G s
  unfolding stops
  stops_alike rust s p = symbol_alike s p
  stops_alike textbook s p = refl

  -- Then a left corner in G is one in K.
  pub corner_carries : {c : Corners} {s : Shape} {n : ℕ} → Corner c G s n → EachCall P s → Corner c K s n
  corner_carries (c_call {n = n} e) p = c_call (is_found (find K n) (a.known n p ∙ ap is_missing e)).1
  corner_carries (c_first k) p = c_first (corner_carries k p.0)
  corner_carries {c} (c_later {s = s} o k) p =
      c_later (record { empty = a.empties s p.0 o.empty; goes_on = stops_alike c s p.0 ∙ o.goes_on }) (corner_carries k p.1)
  corner_carries (c_left k) p = c_left (corner_carries k p.0)
  corner_carries (c_right k) p = c_right (corner_carries k p.1)
  corner_carries (c_opt k) p = c_opt (corner_carries k p)
  corner_carries (c_star k) p = c_star (corner_carries k p)
  corner_carries (c_plus k) p = c_plus (corner_carries k p)

-- Where no rule kept calls one removed, left corners are the same before and after.
pub removal_corner : {P : ℕ → Type 0} {G K : Shapes} → AlikeOn P G K → {c : Corners} (s : Shape) {n : ℕ} → EachCall P s
    → Corner c G s n ↔ Corner c K s n
removal_corner {P} {G} {K} a s p = (λ k. corner_carries (seen a) k p, λ k. corner_carries (seen (alike_on_sym a)) k p)
  where
    seen : {G K : Shapes} → AlikeOn P G K → SeenAlike P G K
    seen b = record { known = λ n q. ap is_missing (b.found n q); empties = λ t q d. by_same (removal b t q).to d }

-- Where both derive the same strings and the same names are rules', left corners of a shape are the same.
pub same_corner : {G K : Shapes} → SameStrings G K → ((n : ℕ) → is_missing (find K n) ≡ is_missing (find G n))
    → {c : Corners} (s : Shape) {n : ℕ}
    → Corner c G s n ↔ Corner c K s n
same_corner {G} {K} e k s = (λ x. corner_carries there x (each_any s), λ x. corner_carries back x (each_any s))
  where
    there : SeenAlike (λ n. Unit {0}) G K
    there = record { known = λ n p. k n; empties = λ t p d. by_same (e t).to d }

    back : SeenAlike (λ n. Unit {0}) K G
    back = record { known = λ n p. sym (k n); empties = λ t p d. by_same (e t).back d }
