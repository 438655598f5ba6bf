-- Lists that each item gives, one after the other: what is in them, and how long they are.
use Rattle.std.proofs.Math.Path.{refl}
use Rattle.std.proofs.Common.{subst, ⊎_elim}
use mathlib.Core.List.Memᴰ
use mathlib.Core.List.{List, [], ◌∷◌, flat_map, Memᴰ}

module _ {A B : Type 0} (f : A → List B) where
  pub flat_in : {b : B} (xs : List A) → Memᴰ b (flat_map f xs) → (a : A) × Memᴰ a xs × Memᴰ b (f a)
  unfolding flat_map
  flat_in [] m = absurd (Memᴰ.not-nil m)
  flat_in (x ∷ xs) m =
      ⊎_elim (λ l. (x, Memᴰ.head refl, l)) (λ r. let s = flat_in xs r in (s.0, Memᴰ.tail s.1, s.2)) (Memᴰ.append_cases (f x) m)

  pub in_flat : {b : B} {a : A} {xs : List A} → Memᴰ a xs → Memᴰ b (f a) → Memᴰ b (flat_map f xs)
  unfolding flat_map
  in_flat {b} (Memᴰ.head {xs = xs} e) m = Memᴰ.append_left (flat_map f xs) (subst (λ a. Memᴰ b (f a)) e m)
  in_flat (Memᴰ.tail {x = x} k) m = Memᴰ.append_right (f x) (in_flat k m)
