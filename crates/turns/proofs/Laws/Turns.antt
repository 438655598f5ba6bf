-- One turn of the substitution.
use Prim.Native.Nat.{ℕ, zero, suc, ◌+◌, ◌-◌}
use mathlib.Core.Path.{◌≡◌, refl, sym, ap, ◌∙◌}
use mathlib.Core.List.{List, [], ◌∷◌, ◌++◌, append_assoc, append-nil}
use mathlib.Core.Option.{some, none}
use mathlib.Core.Bool.{true, false}
use native.Mathlib.Omega.{arith}
use Rattle.reference.specs.Substitute.{Planned, Clause, budget, Decided, decided, declined, overfull, ◌and_then◌, Substituted}
use Rattle.reference.specs.Substitute.{step, substitute, is_within}
use Rattle.turns.specs.Turns.{Task, Replaced, IsSettled, AllSettled, substitution, Substituting, ComesTo}

module _ {d : ℕ} (t : Task d) where
  -- An alternative in need of work, behind settled ones.
  step_at : (out : List (Planned d)) → AllSettled t out → (p : Planned d) (ps : List (Planned d)) {r : Decided (List (Planned d))}
      → Replaced t p r → step d t.rules t.grammar t.cycle t.hub (out ++ (p ∷ ps)) ≡ some (r and_then λ qs. decided (out ++ (qs ++ ps)))
  unfolding step
  step_at [] a p ps {r} e = rw (step, e.is) refl
  step_at (q ∷ out) a p ps {r} e = rw (step, a.0.none, step_at out a.1 p ps e) (ap some (onward r))
    where
      onward : (r : Decided (List (Planned d))) → ((r and_then λ qs. decided (out ++ (qs ++ ps))) and_then λ qs. decided (q ∷ qs))
          ≡ (r and_then λ qs. decided (q ∷ (out ++ (qs ++ ps))))
      onward (decided a) = refl
      onward (declined c) = refl
      onward overfull = refl

  step_none : (out : List (Planned d)) → AllSettled t out → step d t.rules t.grammar t.cycle t.hub out ≡ none
  unfolding step
  step_none [] a = refl
  step_none (q ∷ out) a = rw (step, a.0.none, step_none out a.1) refl

  -- What a turn comes to.
  unfoldable after : (left made : ℕ) → List (Planned d) → Decided (Substituted d)
  after left made qs = elim (is_within d t.limits qs) [ true ↦ substitution t left (suc made) qs | false ↦ overfull ]

  module _ (made : ℕ) (ps : List (Planned d)) where
    no_turn : (left : ℕ) → step d t.rules t.grammar t.cycle t.hub ps ≡ none
        → substitution t left made ps ≡ decided (record { alternatives = ps; steps = made })
    unfolding substitute
    no_turn zero e = rw (substitute, e) refl
    no_turn (suc left) e = rw (substitute, e) refl

    module _ {r : Decided (List (Planned d))} (e : step d t.rules t.grammar t.cycle t.hub ps ≡ some r) where
      last_turn : substitution t 0 made ps ≡ declined budget
      unfolding substitute
      last_turn = rw (substitute, e) refl

      one_turn : (left : ℕ) → substitution t (suc left) made ps ≡ (r and_then after left made)
      unfolding substitute after
      one_turn left = rw (substitute, e) refl

module _ {d : ℕ} {t : Task d} {most : ℕ} {start : List (Planned d)} {left made : ℕ} {out : List (Planned d)} where
  pub substituted : Substituting t most start left made out [] → ComesTo t most start (decided (record { alternatives = out; steps = made }))
  substituted s = record { is = s.same ∙ rw (append-nil out) (no_turn t made out left (step_none t out s.settled)) }

  module _ {p : Planned d} {ps : List (Planned d)} (s : Substituting t most start left made out (p ∷ ps)) where
    pub substitute_spent : {r : Decided (List (Planned d))} → Replaced t p r → left ≡ 0 → ComesTo t most start (declined budget)
    substitute_spent e z =
        record { is = s.same ∙ ap (λ n. substitution t n made (out ++ (p ∷ ps))) z ∙ last_turn t made _ (step_at t out s.settled p ps e) }

    pub settle_one : IsSettled t p → Substituting t most start left made (out ++ (p ∷ [])) ps
    settle_one i = record {
      same = s.same ∙ ap (substitution t left made) (sym (append_assoc out (p ∷ []) ps));
      settled = more out s.settled;
    }
      where
        more : (xs : List (Planned d)) → AllSettled t xs → AllSettled t (xs ++ (p ∷ []))
        more [] a = (i, tt)
        more (x ∷ xs) a = (a.0, more xs a.1)

    stepped : {r : Decided (List (Planned d))} → Replaced t p r → (left ≡ 0 → ⊥)
        → substitution t most 0 start ≡ (r and_then λ qs. after t (left - 1) made (out ++ (qs ++ ps)))
    stepped {r} e h =
        s.same ∙ ap (λ n. substitution t n made (out ++ (p ∷ ps))) less
        ∙ one_turn t made _ (step_at t out s.settled p ps e) (left - 1) ∙ onward r
      where
        less : left ≡ suc (left - 1)
        less = omega arith

        onward : (r : Decided (List (Planned d)))
            → ((r and_then λ qs. decided (out ++ (qs ++ ps))) and_then after t (left - 1) made)
            ≡ (r and_then λ qs. after t (left - 1) made (out ++ (qs ++ ps)))
        onward (decided a) = refl
        onward (declined c) = refl
        onward overfull = refl

    pub substitute_declined : {c : Clause} → Replaced t p (declined c) → (left ≡ 0 → ⊥) → ComesTo t most start (declined c)
    substitute_declined e h = record { is = stepped e h }

    module _ {qs : List (Planned d)} (e : Replaced t p (decided qs)) (h : left ≡ 0 → ⊥) where
      pub substitute_over : is_within d t.limits (out ++ (qs ++ ps)) ≡ false → ComesTo t most start overfull
      unfolding after
      substitute_over w = record { is = stepped e h ∙ rw (after, w) refl }

      pub substitute_more : is_within d t.limits (out ++ (qs ++ ps)) ≡ true
          → Substituting t most start (left - 1) (made + 1) out (qs ++ ps)
      unfolding after
      substitute_more w =
          record {
            same = stepped e h ∙ rw (after, w) (ap (λ m. substitution t (left - 1) m (out ++ (qs ++ ps))) (omega arith));
            settled = s.settled;
          }
