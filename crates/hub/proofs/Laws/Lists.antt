-- Lists looked through: the first that passes, and what those that are kept give.
use Prim.Native.Nat.{ℕ, zero, suc, ◌≤◌}
use mathlib.Core.Path.{◌≡◌, refl, sym, ap, ap₂, ◌∙◌}
use mathlib.Core.Logic.{⊎_elim}
use mathlib.Core.List.Memᴰ
use mathlib.Core.List.{List, [], ◌∷◌, Memᴰ}
use mathlib.Core.Option.{none, some}
use mathlib.Core.Bool.{Bool, true, false, ◌&&◌, ◌||◌, true≢false, and-false}
use native.Mathlib.Omega.{arith}
use lib.ListN.{length}
use Rattle.std.proofs.lemmas.Bool.{and_from}
use Rattle.grammar.specs.Tree.{Rule}
use Rattle.grammar.specs.Lists.{each, all, member, keep, push, first}
use Rattle.grammar.specs.Laws.Parse.{either}
use Rattle.grammar.specs.Laws.Lists.{member_append}
use Rattle.graph.specs.Order.{Rising}
use Rattle.analysis.specs.Names.{any_below}
use Rattle.analysis.specs.Facts.{Among}
use Rattle.analysis.proofs.Laws.Agree.{behind}

module _ {A : Type 0} (test : A → Bool) where
  pub first_none : (xs : List A) → ((a : A) → Memᴰ a xs → test a ≡ false) → first test xs ≡ none
  unfolding first
  first_none [] h = refl
  first_none (x ∷ xs) h = rw (h x (Memᴰ.head refl), first) (first_none xs λ a m. h a (Memᴰ.tail m))

  -- The one that passes is the first.
  pub first_only : {a : A} (xs : List A) → Memᴰ a xs → test a ≡ true → ((b : A) → Memᴰ b xs → test b ≡ true → b ≡ a)
      → first test xs ≡ some a
  unfolding first
  first_only [] m t h = absurd (Memᴰ.not-nil m)
  first_only {a} (x ∷ xs) m t h =
      either (test x)
      (λ u. rw (u, first) (ap some (h x (Memᴰ.head refl) u)))
      (λ f.
      rw (f, first)
      (⊎_elim (λ e. absurd (true≢false (sym t ∙ ap test e ∙ f))) (λ k. first_only xs k t (λ b n. h b (Memᴰ.tail n)))
      (Memᴰ.cases_cons m)))

module _ {A : Type 0} (test : A → Bool) where
  pub all_true : (xs : List A) → ((a : A) → Memᴰ a xs → test a ≡ true) → all test xs ≡ true
  unfolding all
  all_true [] h = refl
  all_true (x ∷ xs) h = and_from (test x) (all test xs) (h x (Memᴰ.head refl)) (all_true xs λ a m. h a (Memᴰ.tail m))

  pub all_false : {a : A} {xs : List A} → Memᴰ a xs → test a ≡ false → all test xs ≡ false
  unfolding all
  all_false (Memᴰ.head {xs = xs} e) f = ap (λ b. b && all test xs) (ap test (sym e) ∙ f)
  all_false (Memᴰ.tail {x = x} m) f = ap (λ b. test x && b) (all_false m f) ∙ and-false (test x)

-- Of rising numbers the least that passes is the first.
pub first_least : (test : ℕ → Bool) {a : ℕ} (xs : List ℕ) → Rising xs → Memᴰ a xs → test a ≡ true
    → ((b : ℕ) → Memᴰ b xs → test b ≡ true → a ≤ b) → first test xs ≡ some a
unfolding first
first_least test [] r m t h = absurd (Memᴰ.not-nil m)
first_least test {a} (x ∷ xs) r m t h =
    either (test x)
    (λ u.
    rw (u, first)
    (ap some
    (⊎_elim (λ e. sym e) (λ k. let l = r.0 a k in let g = h x (Memᴰ.head refl) u in absurd (omega arith)) (Memᴰ.cases_cons m))))
    (λ f.
    rw (f, first)
    (⊎_elim (λ e. absurd (true≢false (sym t ∙ ap test e ∙ f))) (λ k. first_least test xs r.1 k t (λ b n. h b (Memᴰ.tail n)))
    (Memᴰ.cases_cons m)))

-- What is in the lists of the rules that are kept, by place.
any_front : (f : ℕ → Bool) (m : ℕ) → any_below f (suc m) ≡ (f 0 || any_below (λ k. f (suc k)) m)
unfolding any_below
any_front f zero = refl
any_front f (suc m) = ap (λ x. f (suc m) || x) (any_front f m) ∙ swap (f (suc m)) (f 0) (any_below (λ k. f (suc k)) m)
  where
    swap : (a b c : Bool) → (a || (b || c)) ≡ (b || (a || c))
    swap true true c = refl
    swap true false c = refl
    swap false b c = refl

pub kept_any : (test : Rule → Bool) (give : Rule → List ℕ) (x : ℕ) (rs : List Rule) (h : ℕ → Bool)
    → ((i : ℕ) (a : Among rs i) → h i ≡ (test a.rule && member x (give a.rule)))
    → any_below h (length rs) ≡ member x (each give (keep test rs))
unfolding any_below keep member
kept_any test give x [] h e = refl
kept_any test give x (r ∷ rs) h e =
    any_front h (length rs)
    ∙ ap₂ ◌||◌ (e 0 (record { front = []; rule = r; rest = rs; parts = refl; count = refl }))
    (kept_any test give x rs (λ k. h (suc k)) (λ i a. e (suc i) (behind r a)))
    ∙ pushed (test r) (keep test rs)
  where
    pushed : (b : Bool) (xs : List Rule) → ((b && member x (give r)) || member x (each give xs)) ≡ member x (each give (push b r xs))
    pushed true xs = sym (member_append x (give r) (each give xs))
    pushed false xs = refl
