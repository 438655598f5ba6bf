-- What a parser finds, and that it finds it: the rules for each way of making one parser from others.
use Prim.Native.Nat.{ℕ, zero, suc, ◌≤◌}
use Rattle.std.specs.Prelude.{◌≡◌, Bool, true, false, length}
use Rattle.std.proofs.Math.Path.{refl, ap}
use Rattle.std.proofs.Common.{subst₂, arith}
use Rattle.std.proofs.lemmas.Bool.{and_from}
use Rattle.std.specs.Cmp.{first_so, second_so}
use mathlib.Core.List.{List, [], ◌∷◌}
use Rattle.grammar.specs.Stands.{Spans}
use Rattle.grammar.specs.Parse.{Got, got, bad, ◌then◌, given, many}
use Rattle.grammar.specs.Lists.{each, all}
use Rattle.grammar.specs.Laws.Stands.{stands_none, stands_length, stands_append, stands_split}

pub either : {R : Type 0} (b : Bool) → (b ≡ true → R) → (b ≡ false → R) → R
either true f g = f refl
either false f g = g refl

-- What cannot be, as two numbers that differ would be equal.
pub never : {A : Type 0} → ◌≡◌ {A = ℕ} 0 1 → A
never z = absurd (omega arith)

-- What is found, if anything is, has the property P; a rule for each way of making a parser.
pub data Yields {A : Type 0} (P : A → ℕ → Type 0) : Got A → Type 0 where
  found : {a : A} {q : ℕ} → P a q → Yields P (got a q)
  nothing : Yields P bad

pub yields : {A : Type 0} {P : A → ℕ → Type 0} {a : A} {q : ℕ} → P a q → Yields P (got a q)
yields x = found x

pub yields_map : {A : Type 0} {P Q : A → ℕ → Type 0} {g : Got A} → Yields P g → ((a : A) (q : ℕ) → P a q → Q a q) → Yields Q g
yields_map (found {a = a} {q = q} x) k = found (k a q x)
yields_map nothing k = nothing

pub yields_then : {A B : Type 0} {P : A → ℕ → Type 0} {Q : B → ℕ → Type 0} {g : Got A} {f : A → ℕ → Got B}
    → Yields P g → ((a : A) (p : ℕ) → P a p → Yields Q (f a p)) → Yields Q (g then f)
yields_then (found {a = a} {q = q} x) k = k a q x
yields_then nothing k = nothing

pub yields_given : {A : Type 0} {P : A → ℕ → Type 0} (b : Bool) (f : Unit {0} → Got A) → (b ≡ true → Yields P (f tt)) → Yields P (given b f)
yields_given true f k = k refl
yields_given false f k = nothing

-- The rule by which a parser's law is used.
pub yields_got : {A : Type 0} {P : A → ℕ → Type 0} {g : Got A} {a : A} {q : ℕ} → Yields P g → g ≡ got a q → P a q
yields_got {A} {P} {g} {a} {q} (found {a = b} {q = p} x) e = subst₂ P (cc) (cc) x
yields_got nothing e = absurd (let z : ◌≡◌ {A = ℕ} 0 1 = cc in omega arith)

-- The same the other way: what is found in the parts is found in the whole.
pub then_got : {A B : Type 0} {g : Got A} {a : A} {p : ℕ} (f : A → ℕ → Got B) {r : Got B} → g ≡ got a p → f a p ≡ r → (g then f) ≡ r
then_got f e d = rw e d

pub given_got : {A : Type 0} (b : Bool) (f : Unit {0} → Got A) {r : Got A} → b ≡ true → f tt ≡ r → given b f ≡ r
given_got b f e d = rw e d

module _ (ws : List ℕ) (end : ℕ) where
  -- What a parser finds stands there.
  abbrev pub Sound : {A : Type 0} → (ℕ → Got A) → (A → List ℕ) → (A → Bool) → Type 0
  Sound p enc ok = (at : ℕ) → at ≤ end → Yields (Spans ws end enc ok at) (p at)

  -- What stands there a parser finds.
  abbrev pub Complete : {A : Type 0} → (ℕ → Got A) → (A → List ℕ) → (A → Bool) → Type 0
  Complete {A} p enc ok = (at : ℕ) (a : A) (q : ℕ) → Spans ws end enc ok at a q → p at ≡ got a q

module _ {ws : List ℕ} {end : ℕ} {A : Type 0} (one : ℕ → Got A) (enc : A → List ℕ) (ok : A → Bool) where
  pub many_sound : Sound ws end one enc ok → (n at : ℕ) → at ≤ end
      → Yields (λ as' q. Spans ws end (each enc) (all ok) at as' q × (length as' ≡ n)) (many one n at)
  unfolding all
  many_sound s zero at h = yields (record { stands = stands_none h; fine = refl }, refl)
  many_sound s (suc n) at h =
      yields_then (s at h) λ a p x.
      yields_then (many_sound s n p (stands_length x.stands).1) λ as' q y.
      yields (
        record {
          stands = stands_append x.stands y.0.stands;
          fine = and_from (ok a) (all ok as') x.fine y.0.fine;
        },
        ap suc y.1,
      )

  pub many_complete : Complete ws end one enc ok → (as' : List A) (n at q : ℕ) → n ≡ length as' → Spans ws end (each enc) (all ok) at as' q
      → many one n at ≡ got as' q
  unfolding all
  many_complete c as' n at q e s = rw e (go as' at q s)
    where
      go : (as' : List A) (at q : ℕ) → Spans ws end (each enc) (all ok) at as' q → many one (length as') at ≡ got as' q
      go [] at q s = let h = stands_length s.stands in ap {B = Got (List A)} (got []) (omega arith)
      go (a ∷ as') at q s =
          let t = stands_split (enc a) (each enc as') s.stands in
          then_got _ (c at a t.0 (record { stands = t.1; fine = first_so (ok a) (all ok as') s.fine }))
          (then_got _ (go as' t.0 q (record { stands = t.2; fine = second_so (ok a) (all ok as') s.fine })) refl)
