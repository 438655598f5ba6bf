-- Numbers that differ and stand in a list are no more than it has.
use Rattle.std.specs.Prelude.{ℕ, suc, ◌≤◌, ◌≡◌, refl, true, false, not, length, eqb}
use Rattle.std.proofs.Common.{sym, ap, ◌∙◌, subst, ⊎_elim, true≢false, arith, eqb-true}
use mathlib.Core.List.Memᴰ
use mathlib.Core.List.{List, [], ◌∷◌, Memᴰ}
use Rattle.std.proofs.lemmas.Bool.{not-true, eqb-false}
use Rattle.std.specs.Cmp.{first_so, second_so}
use Rattle.grammar.specs.Lists.{member, distinct}
use Rattle.grammar.specs.Laws.Lists.{in_member}
use Rattle.grammar.specs.Laws.Parse.{either}

-- The list without the first x.
taken : ℕ → List ℕ → List ℕ
taken x [] = []
taken x (y ∷ ys) = elim (eqb x y) [ true ↦ ys | false ↦ y ∷ taken x ys ]

taken_length : (x : ℕ) (ys : List ℕ) → Memᴰ x ys → suc (length (taken x ys)) ≡ length ys
unfolding taken
taken_length x [] m = absurd (Memᴰ.not-nil m)
taken_length x (y ∷ ys) m =
    either (eqb x y)
    (λ t. rw (t, taken))
    (λ f. rw (f, taken) (ap suc (taken_length x ys (⊎_elim (λ e. absurd (eqb-false x y f e)) (λ n. n) (Memᴰ.cases_cons m)))))

taken_other : (x : ℕ) {z : ℕ} (ys : List ℕ) → Memᴰ z ys → (z ≡ x → ⊥) → Memᴰ z (taken x ys)
unfolding taken
taken_other x [] m ne = absurd (Memᴰ.not-nil m)
taken_other x (y ∷ ys) m ne =
    either (eqb x y)
    (λ t. rw (t, taken) (⊎_elim (λ e. absurd (ne (e ∙ sym (eqb-true x y t)))) (λ n. n) (Memᴰ.cases_cons m)))
    (λ f. rw (f, taken) (⊎_elim Memᴰ.head (λ n. Memᴰ.tail (taken_other x ys n ne)) (Memᴰ.cases_cons m)))

pub no_more : (xs ys : List ℕ) → distinct xs ≡ true → ((x : ℕ) → Memᴰ x xs → Memᴰ x ys) → length xs ≤ length ys
unfolding distinct
no_more [] ys t h = omega arith
no_more (x ∷ xs) ys t h =
    let fresh = not-true (member x xs) (first_so (not (member x xs)) (distinct xs) t) in
    let ih =
    no_more xs (taken x ys) (second_so (not (member x xs)) (distinct xs) t)
    (λ z m. taken_other x ys (h z (Memᴰ.tail m)) (λ e. true≢false (sym (in_member (subst (λ y. Memᴰ y xs) e m)) ∙ fresh))) in
    let l = taken_length x ys (h x (Memᴰ.head refl)) in
    omega arith
