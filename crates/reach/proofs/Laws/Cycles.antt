-- Which rules are on a cycle, and the one with the least id.
use Prim.Native.Nat.{ℕ, ◌<◌}
use mathlib.Core.Path.{◌≡◌, refl, sym, ap, ◌∙◌}
use mathlib.Core.Logic.{◌↔◌}
use mathlib.Core.List.{List}
use mathlib.Core.Bool.{Bool, true, false, ◌&&◌, not, true≢false, and-false}
use borrow.Author.Tests.{eq-eqb}
use Rattle.reach.specs.Rows.{edge, Empty}
use Rattle.reach.specs.Reach.{Path, last, more, other, Others, Closed}
use Rattle.reach.specs.Steps.{Holds}
use Rattle.reach.specs.Cycles.{Joined}

-- A path over edges that are others' too.
pub path_map : {f g : ℕ → ℕ → Bool} {n : ℕ} → ((i j : ℕ) → i < n → f i j ≡ true → g i j ≡ true) → {i j : ℕ} → i < n → Path f n i j
    → Path g n i j
path_map h l (last {i = i} {j = j} e) = last (h i j l e)
path_map h l (more {i = i} {k = k} e m p) = more (h i k l e) m (path_map h m p)

module _ {corners edges : List (List ℕ)} {n : ℕ} (o : Others corners n edges) where
  to_other : {i j : ℕ} → i < n → Path (edge edges) n i j → Path (other corners) n i j
  to_other = path_map (λ i j l t. sym (o.at i j l) ∙ t)

  of_other : {i j : ℕ} → i < n → Path (other corners) n i j → Path (edge edges) n i j
  of_other = path_map (λ i j l t. o.at i j l ∙ t)

  no_self : (i : ℕ) → i < n → edge edges i i ≡ false
  unfolding other
  no_self i l = o.at i i l ∙ ap (λ b. edge corners i i && not b) (eq-eqb i i refl) ∙ and-false (edge corners i i)

  pub joined_none : {row : List ℕ} {e : Bool} → Holds edges n row → Empty row e → e ≡ true → Joined corners n edges
  joined_none {row} h x t =
      record {
        cyclic = λ i l. (
          λ b. absurd (true≢false (sym b ∙ no_self i l)),
          λ p. absurd (true≢false (sym (h.at i l (of_other l p)) ∙ x.none t i)),
        );
        reaches = λ k l b. absurd (true≢false (sym b ∙ no_self k l));
      }

  pub joined_all : {r : List (List ℕ)} → Closed edges n r → Joined corners n r
  joined_all {r} c = record { cyclic = λ i l. exact i i l; reaches = λ k m b i j l. exact i j l }
    where
      exact : (i j : ℕ) → i < n → (edge r i j ≡ true) ↔ Path (other corners) n i j
      exact i j l = (λ t. to_other l ((c.at i j l).0 t), λ p. (c.at i j l).1 (of_other l p))
