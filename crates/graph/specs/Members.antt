-- What is in a list that the definition makes: kept items, images, joined lists.
use Rattle.std.specs.Prelude.{ℕ, ◌≡◌, ◌⊎◌, Bool, false, not}
use Rattle.std.proofs.Math.Path.{refl, sym, ap}
use Rattle.std.proofs.Common.{◌∙◌, subst, inl, inr}
use Rattle.std.proofs.Math.Logic.{⊎_elim}
use mathlib.Core.List.Memᴰ
use mathlib.Core.List.{List, [], ◌∷◌, map, Memᴰ}
use mathlib.Core.List.{Sublistᴰ}
use Rattle.std.proofs.Math.Bool.{true, true≢false}
use Rattle.std.specs.Cmp.{first_so, second_so}
use borrow.Author.Tests.{not-true}
use Rattle.grammar.specs.Laws.Lists.{in_member, in_map}
use Rattle.grammar.specs.Lists.{each, member, distinct, push, keep}
use Rattle.grammar.specs.Laws.Parse.{either}

module _ {A : Type 0} where
  pub in_push : {a x : A} (b : Bool) {xs : List A} → Memᴰ a (push b x xs) → ((a ≡ x) × (b ≡ true)) ⊎ Memᴰ a xs
  in_push true (Memᴰ.head e) = inl (e, refl)
  in_push true (Memᴰ.tail m) = inr m
  in_push false m = inr m

  pub push_tail : {a : A} (x : A) (b : Bool) {xs : List A} → Memᴰ a xs → Memᴰ a (push b x xs)
  push_tail x true m = Memᴰ.tail m
  push_tail x false m = m

  -- What is kept was there and passes.
  pub in_keep : (test : A → Bool) {a : A} (xs : List A) → Memᴰ a (keep test xs) → Memᴰ a xs × (test a ≡ true)
  unfolding keep
  in_keep test [] m = absurd (Memᴰ.not-nil m)
  in_keep test {a} (x ∷ xs) m =
      ⊎_elim (λ r. (Memᴰ.head r.0, ap test r.0 ∙ r.1))
      (λ n. let r = in_keep test xs n in (Memᴰ.tail r.0, r.1))
      (in_push (test x) m)

  -- And the other way.
  pub keep_in : (test : A → Bool) {a : A} {xs : List A} → Memᴰ a xs → test a ≡ true → Memᴰ a (keep test xs)
  unfolding keep
  keep_in test {a} (Memᴰ.head {x = x} {xs = xs} e) t =
      let u : test x ≡ true = ap test (sym e) ∙ t in
      rw u (Memᴰ.head e)
  keep_in test (Memᴰ.tail {x = x} m) t = push_tail x (test x) (keep_in test m t)

  -- A stricter test keeps part of what the other keeps.
  pub keep_part : (p q : A → Bool) (xs : List A) → ((a : A) → Memᴰ a xs → p a ≡ true → q a ≡ true) → Sublistᴰ (keep p xs) (keep q xs)
  unfolding keep
  keep_part p q [] h = Sublistᴰ.slnil
  keep_part p q (x ∷ xs) h =
      let more = keep_part p q xs (λ a m. h a (Memᴰ.tail m)) in
      either (p x)
      (λ t. rw (t, h x (Memᴰ.head refl) t) (Sublistᴰ.cons-cons refl more))
      (λ f. rw f (either (q x) (λ u. rw u (Sublistᴰ.cons more)) (λ g. rw g more)))

  pub keep_is_part : (p : A → Bool) (xs : List A) → Sublistᴰ (keep p xs) xs
  unfolding keep
  keep_is_part p [] = Sublistᴰ.slnil
  keep_is_part p (x ∷ xs) =
      either (p x) (λ t. rw t (Sublistᴰ.cons-cons refl (keep_is_part p xs))) (λ f. rw f (Sublistᴰ.cons (keep_is_part p xs)))

  pub part_in : {a : A} {xs ys : List A} → Sublistᴰ xs ys → Memᴰ a xs → Memᴰ a ys
  part_in Sublistᴰ.slnil m = m
  part_in (Sublistᴰ.cons s) m = Memᴰ.tail (part_in s m)
  part_in (Sublistᴰ.cons-cons e s) (Memᴰ.head d) = Memᴰ.head (d ∙ e)
  part_in (Sublistᴰ.cons-cons e s) (Memᴰ.tail m) = Memᴰ.tail (part_in s m)

  pub part_map : {B : Type 0} (f : A → B) {xs ys : List A} → Sublistᴰ xs ys → Sublistᴰ (map f xs) (map f ys)
  part_map f Sublistᴰ.slnil = Sublistᴰ.slnil
  part_map f (Sublistᴰ.cons s) = Sublistᴰ.cons (part_map f s)
  part_map f (Sublistᴰ.cons-cons e s) = Sublistᴰ.cons-cons (ap f e) (part_map f s)

  pub each_in : (f : A → List ℕ) {n : ℕ} (xs : List A) → Memᴰ n (each f xs) → (a : A) × Memᴰ a xs × Memᴰ n (f a)
  each_in f [] m = absurd (Memᴰ.not-nil m)
  each_in f (x ∷ xs) m =
      ⊎_elim (λ l. (x, Memᴰ.head refl, l)) (λ r. let s = each_in f xs r in (s.0, Memᴰ.tail s.1, s.2))
      (Memᴰ.append_cases (f x) m)

  pub in_each : (f : A → List ℕ) {n : ℕ} {a : A} {xs : List A} → Memᴰ a xs → Memᴰ n (f a) → Memᴰ n (each f xs)
  in_each f {n} (Memᴰ.head {xs = xs} e) m = Memᴰ.append_left (each f xs) (subst (λ a. Memᴰ n (f a)) e m)
  in_each f (Memᴰ.tail {x = x} k) m = Memᴰ.append_right (f x) (in_each f k m)

  shared : (key : A → ℕ) (x : A) (xs : List A) → distinct (map key (x ∷ xs)) ≡ true → {a : A} → Memᴰ a xs → key x ≡ key a → ⊥
  unfolding distinct
  shared key x xs t m e =
      let f = not-true (member (key x) (map key xs)) (first_so (not (member (key x) (map key xs))) _ t) in
      true≢false (sym (in_member (subst (λ n. Memᴰ n (map key xs)) (sym e) (in_map key m))) ∙ f)

  -- Where numbers are not shared, a number has one item.
  pub one_with : (key : A → ℕ) (xs : List A) → distinct (map key xs) ≡ true → {a b : A} → Memᴰ a xs → Memᴰ b xs → key a ≡ key b
      → a ≡ b
  unfolding distinct
  one_with key (x ∷ xs) t (Memᴰ.head d) (Memᴰ.head e) k = d ∙ sym e
  one_with key (x ∷ xs) t {b = b} (Memᴰ.head d) (Memᴰ.tail m) k = absurd (shared key x xs t m (ap key (sym d) ∙ k))
  one_with key (x ∷ xs) t (Memᴰ.tail m) (Memᴰ.head e) k = absurd (shared key x xs t m (ap key (sym e) ∙ sym k))
  one_with key (x ∷ xs) t (Memᴰ.tail m) (Memᴰ.tail n) k =
      one_with key xs (second_so (not (member (key x) (map key xs))) _ t) m n k
  one_with key [] t {a = a} {b = b} x4 _ k = elim x4 [ ]
