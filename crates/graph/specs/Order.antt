-- Rising lists: sorting makes them, and two with the same members are equal.
use Rattle.std.specs.Prelude.{ℕ, ◌≤◌, ◌<◌, ◌≡◌, refl, ◌⊎◌, true, not, leb, ltb}
use Rattle.std.proofs.Common.{sym, ap₂, ◌∙◌, subst, inl, inr, ⊎_elim, true≢false, arith, leb-true, leb-false, lt-ltb, ltb-true}
use mathlib.Core.List.Memᴰ
use mathlib.Core.List.{List, [], ◌∷◌, Memᴰ, Sublistᴰ}
use Rattle.std.proofs.lemmas.Bool.{not-true, and_from}
use Rattle.std.specs.Cmp.{first_so, second_so}
use Rattle.grammar.specs.Laws.Lists.{in_member}
use Rattle.grammar.specs.Lists.{member, distinct, rising, insert, sorted}
use Rattle.grammar.specs.Laws.Parse.{either}
use Rattle.graph.specs.Members.{part_in}

-- No two are equal.
abbrev pub Distinct : List ℕ → Type 0
Distinct [] = Unit {0}
Distinct (x ∷ xs) = (Memᴰ x xs → ⊥) × Distinct xs

-- Each is below all behind it.
abbrev pub Rising : List ℕ → Type 0
Rising [] = Unit {0}
Rising (x ∷ xs) = ((y : ℕ) → Memᴰ y xs → x < y) × Rising xs

pub distinct_of : (xs : List ℕ) → distinct xs ≡ true → Distinct xs
unfolding distinct
distinct_of [] t = tt
distinct_of (x ∷ xs) t = (
  λ m. true≢false (sym (in_member m) ∙ not-true (member x xs) (first_so (not (member x xs)) _ t)),
  distinct_of xs
      (second_so (not (member x xs)) _ t),
)

pub part_distinct : {xs ys : List ℕ} → Sublistᴰ xs ys → Distinct ys → Distinct xs
part_distinct Sublistᴰ.slnil h = tt
part_distinct (Sublistᴰ.cons s) h = part_distinct s h.1
part_distinct (Sublistᴰ.cons-cons {l₂ = ys} e s) h = (λ m. h.0 (subst (λ z. Memᴰ z ys) e (part_in s m)), part_distinct s h.1)

pub part_rising : {xs ys : List ℕ} → Sublistᴰ xs ys → Rising ys → Rising xs
part_rising Sublistᴰ.slnil h = tt
part_rising (Sublistᴰ.cons s) h = part_rising s h.1
part_rising (Sublistᴰ.cons-cons e s) h = (λ y m. subst (λ z. z < y) (sym e) (h.0 y (part_in s m)), part_rising s h.1)

pub rising_true : (xs : List ℕ) → Rising xs → rising xs ≡ true
unfolding rising
rising_true [] h = refl
rising_true (x ∷ []) h = refl
rising_true (x ∷ y ∷ ys) h = and_from (ltb x y) _ (lt-ltb x y (h.0 y (Memᴰ.head refl))) (rising_true (y ∷ ys) h.1)

pub true_rising : (xs : List ℕ) → rising xs ≡ true → Rising xs
unfolding rising
true_rising [] t = tt
true_rising (x ∷ []) t = (λ y m. absurd (Memᴰ.not-nil m), tt)
true_rising (x ∷ y ∷ ys) t =
    let more = true_rising (y ∷ ys) (second_so (ltb x y) _ t) in
    let l = ltb-true x y (first_so (ltb x y) _ t) in
    (λ z m. ⊎_elim (λ e. subst (λ k. x < k) (sym e) l) (λ n. let g = more.0 z n in omega arith) (Memᴰ.cases_cons m), more)

in_insert : {z x : ℕ} (ys : List ℕ) → Memᴰ z (insert x ys) → (z ≡ x) ⊎ Memᴰ z ys
unfolding insert
in_insert [] m = Memᴰ.cases_cons m
in_insert {z} {x} (y ∷ ys) m =
    either (leb x y)
    (λ t. let m₂ : Memᴰ z (x ∷ y ∷ ys) = rw (t, insert) at m in Memᴰ.cases_cons m₂)
    (λ f.
    let m₂ : Memᴰ z (y ∷ insert x ys) = rw (f, insert) at m in
    ⊎_elim (λ e. inr (Memᴰ.head e)) (λ n. ⊎_elim inl (λ k. inr (Memᴰ.tail k)) (in_insert ys n)) (Memᴰ.cases_cons m₂))

insert_in : {z : ℕ} (x : ℕ) (ys : List ℕ) → (z ≡ x) ⊎ Memᴰ z ys → Memᴰ z (insert x ys)
unfolding insert
insert_in x [] m = ⊎_elim Memᴰ.head (λ n. Memᴰ.tail n) m
insert_in {z} x (y ∷ ys) m =
    either (leb x y)
    (λ t. rw (t, insert) (⊎_elim Memᴰ.head (λ n. Memᴰ.tail n) m))
    (λ f.
    rw (f, insert)
    (⊎_elim (λ e. Memᴰ.tail (insert_in x ys (inl e)))
    (λ n. ⊎_elim Memᴰ.head (λ k. Memᴰ.tail (insert_in x ys (inr k))) (Memᴰ.cases_cons n)) m))

-- Sorting keeps the members.
pub in_sorted : {z : ℕ} (xs : List ℕ) → Memᴰ z (sorted xs) → Memᴰ z xs
unfolding sorted
in_sorted [] m = m
in_sorted (x ∷ xs) m = ⊎_elim Memᴰ.head (λ n. Memᴰ.tail (in_sorted xs n)) (in_insert (sorted xs) m)

pub sorted_in : {z : ℕ} {xs : List ℕ} → Memᴰ z xs → Memᴰ z (sorted xs)
unfolding sorted
sorted_in (Memᴰ.head {x = x} {xs = xs} e) = insert_in x (sorted xs) (inl e)
sorted_in (Memᴰ.tail {x = x} {xs = xs} m) = insert_in x (sorted xs) (inr (sorted_in m))

insert_rising : (x : ℕ) (ys : List ℕ) → (Memᴰ x ys → ⊥) → Rising ys → Rising (insert x ys)
unfolding insert
insert_rising x [] n h = (λ y m. absurd (Memᴰ.not-nil m), tt)
insert_rising x (y ∷ ys) n h =
    either (leb x y)
    (λ t.
    let l = leb-true x y t in
    let ne : x ≡ y → ⊥ = λ e. n (Memᴰ.head e) in
    let low : x < y = below l ne in
    rw (t, insert) (λ z m. ⊎_elim (λ e. subst (λ k. x < k) (sym e) low) (λ k. let g = h.0 z k in omega arith) (Memᴰ.cases_cons m), h))
    (λ f.
    let g = leb-false x y f in
    rw (f, insert)
    (λ z m. ⊎_elim (λ e. subst (λ k. y < k) (sym e) g) (h.0 z) (in_insert ys m), insert_rising x ys (λ m. n (Memᴰ.tail m)) h.1))
  where
    below : {a b : ℕ} → a ≤ b → (a ≡ b → ⊥) → a < b
    below l ne = omega arith

-- Sorting makes distinct numbers rise.
pub sorted_rising : (xs : List ℕ) → Distinct xs → Rising (sorted xs)
unfolding sorted
sorted_rising [] h = tt
sorted_rising (x ∷ xs) h = insert_rising x (sorted xs) (λ m. h.0 (in_sorted xs m)) (sorted_rising xs h.1)

-- The first of two rising lists with the same members.
same_first : {x y : ℕ} {xs ys : List ℕ} → Rising (x ∷ xs) → Rising (y ∷ ys) → Memᴰ x (y ∷ ys) → Memᴰ y (x ∷ xs) → x ≡ y
same_first h k (Memᴰ.head e) n = e
same_first h k (Memᴰ.tail m) (Memᴰ.head e) = sym e
same_first {x} {y} h k (Memᴰ.tail m) (Memᴰ.tail n) = let a = h.0 y n in let b = k.0 x m in absurd (omega arith)

behind : {x y z : ℕ} {xs ys : List ℕ} → Rising (x ∷ xs) → x ≡ y → Memᴰ z xs → Memᴰ z (y ∷ ys) → Memᴰ z ys
behind {z = z} h e m (Memᴰ.head d) = let l = h.0 z m in absurd (omega arith)
behind h e m (Memᴰ.tail n) = n

-- Two rising lists with the same members are equal.
pub rising_same : (xs ys : List ℕ) → Rising xs → Rising ys → ((z : ℕ) → Memᴰ z xs → Memᴰ z ys)
    → ((z : ℕ) → Memᴰ z ys → Memᴰ z xs) → xs ≡ ys
rising_same [] [] h k f g = refl
rising_same [] (y ∷ ys) h k f g = absurd (Memᴰ.not-nil (g y (Memᴰ.head refl)))
rising_same (x ∷ xs) [] h k f g = absurd (Memᴰ.not-nil (f x (Memᴰ.head refl)))
rising_same (x ∷ xs) (y ∷ ys) h k f g =
    let e = same_first h k (f x (Memᴰ.head refl)) (g y (Memᴰ.head refl)) in
    ap₂ ◌∷◌ e
    (rising_same xs ys h.1 k.1 (λ z m. behind h e m (f z (Memᴰ.tail m))) (λ z m. behind k (sym e) m (g z (Memᴰ.tail m))))
