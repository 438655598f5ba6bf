-- One name more in a set, by the entries from before and those that are there now.
use Prim.Native.Nat.{ℕ, ◌<◌}
use mathlib.Core.Path.{◌≡◌, sym, ap, ◌∙◌, subst}
use mathlib.Core.Logic.{◌⊎◌, ⊎_elim}
use mathlib.Core.List.{List}
use mathlib.Core.Bool.{true, ◌||◌, or-true}
use lib.Dec.{eqb}
use borrow.Author.Tests.{eqb-true, eq-eqb}
use Rattle.std.specs.Cmp.{both_ways}
use Rattle.grammar.specs.Laws.Parse.{either}
use Rattle.collisions.specs.Names.{IsSet, count_in, entry, has_bit, name_at, has_name, Kept, NamePut}
use Rattle.collisions.proofs.Laws.Find.{has_at, has_from}

-- An entry of a name that a set has.
abbrev pub Has : List ℕ → List ℕ → ℕ → ℕ → Type 0
Has ws bs u n = (i : ℕ) × (i < count_in bs) × (has_bit u (entry bs i) ≡ true) × (name_at ws bs i ≡ n)

held : (ws bs : List ℕ) (u n : ℕ) → Has ws bs u n → has_name ws bs u n ≡ true
unfolding has_name
held ws bs u n (i, l, b, e) = has_at ws bs u n (count_in bs) i l b e

holds : (ws bs : List ℕ) (u n : ℕ) → has_name ws bs u n ≡ true → Has ws bs u n
unfolding has_name
holds ws bs u n t = has_from ws bs u n (count_in bs) t

-- The entries from before are there, and one of the name; any other was there before.
pub record More (ws bs cs : List ℕ) (w name : ℕ) : Type 0 where
  pub old : (u : ℕ) → IsSet u → (n : ℕ) → Has ws bs u n → Has ws cs u n
  pub new : Has ws cs w name
  pub none : (u : ℕ) → IsSet u → (n : ℕ) → Has ws cs u n → Has ws bs u n ⊎ ((u ≡ w) × (n ≡ name))

module _ {ws : List ℕ} {end : ℕ} {bs cs : List ℕ} {w name : ℕ} (s : IsSet w) (k : Kept ws end bs cs) (m : More ws bs cs w name) where
  more_here : (n : ℕ) → has_name ws cs w n ≡ (has_name ws bs w n || eqb n name)
  more_here n =
      both_ways _ _
      (λ t.
      ⊎_elim (λ h. ap (λ b. b || eqb n name) (held ws bs w n h))
      (λ h. ap (λ b. has_name ws bs w n || b) (eq-eqb n name h.1) ∙ or-true (has_name ws bs w n))
      (m.none w s n (holds ws cs w n t)))
      (λ t.
      either (has_name ws bs w n) (λ u. held ws cs w n (m.old w s n (holds ws bs w n u)))
      (λ f. let e = eqb-true n name (rw f at t) in held ws cs w n (subst (λ x. Has ws cs w x) (sym e) m.new)))

  more_other : (v : ℕ) → IsSet v → (v ≡ w → ⊥) → (n : ℕ) → has_name ws cs v n ≡ has_name ws bs v n
  more_other v u d n =
      both_ways _ _
      (λ t. ⊎_elim (held ws bs v n) (λ h. absurd (d h.0)) (m.none v u n (holds ws cs v n t)))
      (λ t. held ws cs v n (m.old v u n (holds ws bs v n t)))

  pub more_put : NamePut ws end bs cs w name
  more_put = record { kept = k; here = more_here; other = more_other }
