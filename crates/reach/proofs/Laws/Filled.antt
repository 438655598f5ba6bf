-- Rows that have the rules for which a test gives yes.
use Prim.Native.Nat.{ℕ, ◌+◌, ◌<◌}
use mathlib.Core.Path.{◌≡◌, refl, sym, ap, ap₂, ◌∙◌, subst}
use mathlib.Core.List.{List, [], ◌∷◌}
use mathlib.Core.Bool.{Bool, true, false, ◌&&◌, ◌||◌, and-true, and-false, or-false}
use native.Mathlib.Omega.{arith}
use lib.ListN.{get_or}
use lib.Dec.{eqb, ltb}
use borrow.Author.Tests.{eqb-true, eqb-false, ltb-true, ltb-false, eq-eqb, ne_eqb}
use Rattle.grammar.specs.Laws.Parse.{either}
use Rattle.reach.specs.Rows.{bit, edge, AddIf, Meet, Collected}
use Rattle.reach.specs.Reach.{Loops, Around}
use Rattle.reach.specs.Steps.{Below}
use Rattle.reach.proofs.Laws.Rows.{no_bits}

module _ {Gives : ℕ → Bool → Type 0} where
  pub collected_none : Collected Gives 0 (0 ∷ 0 ∷ [])
  collected_none = record { below = λ k l. absurd (omega arith); beyond = λ k l. no_bits k }

  -- The next rule, by its test.
  pub collected_more : {i : ℕ} {r t : List ℕ} {on : Bool} → Collected Gives i r → Gives i on → AddIf r i on t → Collected Gives (i + 1) t
  collected_more {i} {r} {t} {on} p g a =
      record {
        below = λ k l. either (eqb k i)
            (λ e. let d = eqb-true k i e in subst (λ x. Gives x (bit t x)) (sym d) (subst (Gives i) (sym own) g))
            (λ n. let d = eqb-false k i n in subst (Gives k) (sym (other k d)) (p.below k (omega arith)));
        beyond = λ k l. other k (λ e. omega arith) ∙ p.beyond k (omega arith);
      }
    where
      own : bit t i ≡ on
      own = a.at i ∙ ap₂ (λ x y. x || (on && y)) (p.beyond i (omega arith)) (eq-eqb i i refl) ∙ and-true on

      other : (k : ℕ) → (k ≡ i → ⊥) → bit t k ≡ bit r k
      other k n = a.at k ∙ ap (λ y. bit r k || (on && y)) (ne_eqb k i n) ∙ ap (λ y. bit r k || y) (and-false on) ∙ or-false (bit r k)

  -- Where the test is a function of the rule, so is the row.
  collected_bit : {n : ℕ} {r : List ℕ} → Collected Gives n r → (test : ℕ → Bool) → ((k : ℕ) (b : Bool) → k < n → Gives k b → b ≡ test k)
      → (k : ℕ) → bit r k ≡ (ltb k n && test k)
  collected_bit {n} {r} p test h k =
      either (ltb k n) (λ t. let l = ltb-true k n t in rw t (h k (bit r k) l (p.below k l)))
      (λ f. let l = ltb-false k n f in rw f (p.beyond k l))

  pub collected_all : {n : ℕ} {r : List ℕ} → Collected Gives n r → ((k : ℕ) (b : Bool) → k < n → Gives k b → b ≡ true) → Below n r
  collected_all {n} p h = record { at = λ k. collected_bit p (λ j. true) h k ∙ and-true (ltb k n) }

  pub collected_loops : {reach : List (List ℕ)} {n : ℕ} {r : List ℕ} → Collected Gives n r
      → ((k : ℕ) (b : Bool) → k < n → Gives k b → b ≡ edge reach k k) → Loops reach n r
  collected_loops {reach} p h = record { at = collected_bit p (λ k. edge reach k k) h }

  -- The rules that reach rule i, of those that it reaches.
  pub collected_around : {reach : List (List ℕ)} {i n : ℕ} {r s : List ℕ} → Collected Gives n r
      → ((k : ℕ) (b : Bool) → k < n → Gives k b → b ≡ edge reach k i) → Meet (get_or reach i []) r s → Around reach i n s
  collected_around {reach} {i} {n} {r} p h a =
      record {
        at = λ k. a.at k ∙ ap (λ b. edge reach i k && b) (collected_bit p (λ j. edge reach j i) h k)
            ∙ swap (edge reach i k) (ltb k n) (edge reach k i);
      }
    where
      swap : (a b c : Bool) → (a && (b && c)) ≡ (b && (a && c))
      swap true b c = refl
      swap false true c = refl
      swap false false c = refl

pub ruleset collecting = (collected_none, collected_more)
