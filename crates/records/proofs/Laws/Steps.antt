-- Steps through what the definition reads one after the other.
use Prim.Native.Nat.{ℕ, zero, suc, ◌+◌, ◌-◌, ◌<◌, ◌≤◌}
use mathlib.Core.Path.{◌≡◌, refl, sym, ◌∙◌}
use mathlib.Core.List.{List, ◌∷◌}
use native.Mathlib.Omega.{arith}
use native.Mathlib.Numerals.{unary_clauses}
use Rattle.grammar.specs.Parse.{Got, got, bad, ◌then◌, many}
use Rattle.grammar.specs.Laws.Parse.{never}
use Rattle.std.specs.Prelude.{Option, Some, None, option_and_then}
use Rattle.records.specs.Step.{repeated, step_of}

module _ {A B : Type 0} where
  -- what is bad stays bad
  pub then_bad : (g : Got A) (f : A → ℕ → Got B) → step_of g ≡ None → step_of (g then f) ≡ None
  then_bad (got a p) f e = never cc
  then_bad bad f e = refl

  -- so does what is bad behind whatever is found
  pub then_none : (g : Got A) (f : A → ℕ → Got B) → ((a : A) (p : ℕ) → step_of (f a p) ≡ None) → step_of (g then f) ≡ None
  then_none (got a p) f h = h a p
  then_none bad f h = refl

  -- past a part, the rest decides, whatever was found
  pub then_next : (g : Got A) (f : A → ℕ → Got B) (p : ℕ) (r : Option ℕ) → step_of g ≡ Some p → ((a : A) → step_of (f a p) ≡ r)
      → step_of (g then f) ≡ r
  then_next (got a q) f p r e h = let z : q ≡ p = cc in rw z (h a)
  then_next bad f p r e h = never cc

  -- a result put together at the end moves nothing
  pub then_same : (g : Got A) (f : A → B) → step_of (g then λ a q. got (f a) q) ≡ step_of g
  then_same (got a q) f = refl
  then_same bad f = refl

-- a loop over steps: what all come to is what those left after i of them come to
pub record Left (step : ℕ → Option ℕ) (n at i p : ℕ) : Type 0 where
  pub same : repeated step n at ≡ repeated step (n - i) p

module _ (step : ℕ → Option ℕ) where
  pub left_all : (n at : ℕ) → Left step n at 0 at
  left_all n at = record { same = simp unary_clauses refl }

  repeated_next : (m p : ℕ) → repeated step (suc m) p ≡ option_and_then (repeated step m) (step p)
  unfolding repeated
  repeated_next m p = refl

  repeated_none : (p : ℕ) → repeated step 0 p ≡ Some p
  unfolding repeated
  repeated_none p = go 0 refl
    where
      go : (m : ℕ) → m ≡ 0 → repeated step m p ≡ Some p
      go zero e = refl
      go (suc m) e = absurd (omega arith)

  module _ {n at i p : ℕ} (l : Left step n at i p) where
    pub left_done : n ≤ i → Some p ≡ repeated step n at
    left_done e = let z : n - i ≡ 0 = omega arith in sym (l.same ∙ rw z (repeated_none p))

    module _ (h : i < n) where
      opened : repeated step n at ≡ option_and_then (repeated step (n - (i + 1))) (step p)
      opened = let z : n - i ≡ suc (n - (i + 1)) = omega arith in l.same ∙ rw z (repeated_next (n - (i + 1)) p)

      pub left_more : {q : ℕ} → Some q ≡ step p → Left step n at (i + 1) q
      left_more e = record { same = opened ∙ rw (sym e) refl }

      pub left_bad : None ≡ step p → None ≡ repeated step n at
      left_bad e = sym (opened ∙ rw (sym e) refl)

pub ruleset lefts = (left_all, left_more, left_bad, left_done)

-- repeating what a definition finds
module _ {A : Type 0} where
  many_step : (g : Got A) (rest : ℕ → Option ℕ) (all : ℕ → Got (List A)) → ((p : ℕ) → rest p ≡ step_of (all p))
      → option_and_then rest (step_of g) ≡ step_of (g then λ a p. all p then λ as' q. got (a ∷ as') q)
  many_step (got a p) rest all h = h p ∙ sym (then_same (all p) (λ as'. a ∷ as'))
  many_step bad rest all h = refl

  pub many_steps : (one : ℕ → Got A) (n at : ℕ) → repeated (λ x. step_of (one x)) n at ≡ step_of (many one n at)
  unfolding repeated
  many_steps one zero at = refl
  many_steps one (suc n) at = many_step (one at) (repeated (λ x. step_of (one x)) n) (many one n) (λ p. many_steps one n p)
