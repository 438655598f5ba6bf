-- Rounds that end because one of them changes nothing: for rounds that only add, and for rounds that only take away.
use Prim.Native.Nat.{ℕ, zero, suc, ◌+◌, ◌≤◌}
use Rattle.std.specs.Prelude.{◌≡◌, refl, eqb}
use Rattle.std.proofs.Math.Path.{sym}
use mathlib.Core.List.{List, ◌∷◌, Sublistᴰ}
use native.Mathlib.Omega.{arith}
use Rattle.std.proofs.Math.ListN.{length}
use borrow.Author.Tests.{eqb-true, eqb-false}
use Rattle.grammar.specs.Lists.{rounds}
use Rattle.grammar.specs.Laws.Parse.{either}

module _ {A : Type 0} where
  pub part_length : {xs ys : List A} → Sublistᴰ xs ys → length xs ≤ length ys
  part_length Sublistᴰ.slnil = omega arith
  part_length (Sublistᴰ.cons s) = let h = part_length s in omega arith
  part_length (Sublistᴰ.cons-cons e s) = let h = part_length s in omega arith

  -- A part of the same length is the whole.
  pub part_whole : {xs ys : List A} → Sublistᴰ xs ys → length ys ≤ length xs → xs ≡ ys
  part_whole Sublistᴰ.slnil h = refl
  part_whole (Sublistᴰ.cons {l₁ = xs} {l₂ = ys} s) h = let l = part_length s in absurd (omega arith)
  part_whole (Sublistᴰ.cons-cons {l₁ = xs} {l₂ = ys} e s) h = λ i. e i ∷ part_whole s (omega arith) i

module _ (round : List ℕ → List ℕ) where
  -- What each round keeps holds at the end.
  pub rounds_keep : (P : List ℕ → Type 0) → ((xs : List ℕ) → P xs → P (round xs)) → (n : ℕ) (xs : List ℕ) → P xs → P (rounds round n xs)
  unfolding rounds
  rounds_keep P h zero xs p = p
  rounds_keep P h (suc n) xs p =
      either (eqb (length (round xs)) (length xs)) (λ t. rw (t, rounds) p) (λ f. rw (f, rounds) (rounds_keep P h n (round xs) (h xs p)))

  -- Rounds that only add, to lists of at most `most`: enough rounds end with one that adds nothing.
  pub rounds_grow : (most : ℕ) → ((xs : List ℕ) → length (round xs) ≤ most)
      → ((xs : List ℕ) → Sublistᴰ xs (round xs) → Sublistᴰ (round xs) (round (round xs)))
      → (n : ℕ) (xs : List ℕ) → Sublistᴰ xs (round xs) → most ≤ n + length xs → round (rounds round n xs) ≡ rounds round n xs
  unfolding rounds
  rounds_grow most b h zero xs s m = let l = b xs in sym (part_whole s (omega arith))
  rounds_grow most b h (suc n) xs s m =
      either (eqb (length (round xs)) (length xs))
      (λ t. let e = eqb-true (length (round xs)) (length xs) t in rw (t, rounds) (sym (part_whole s (omega arith))))
      (λ f.
      let l = part_length s in
      let d = eqb-false (length (round xs)) (length xs) f in
      let more : suc (length xs) ≤ length (round xs) = omega arith in
      rw (f, rounds) (rounds_grow most b h n (round xs) (h xs s) (omega arith)))

  -- Rounds that only take away: as many as there are items are enough.
  pub rounds_shrink : ((xs : List ℕ) → Sublistᴰ (round xs) xs) → (n : ℕ) (xs : List ℕ) → length xs ≤ n
      → round (rounds round n xs) ≡ rounds round n xs
  unfolding rounds
  rounds_shrink h zero xs m = part_whole (h xs) (let l = part_length (h xs) in omega arith)
  rounds_shrink h (suc n) xs m =
      either (eqb (length (round xs)) (length xs))
      (λ t. let e = eqb-true (length (round xs)) (length xs) t in rw (t, rounds) (part_whole (h xs) (omega arith)))
      (λ f.
      let l = part_length (h xs) in
      let d = eqb-false (length (round xs)) (length xs) f in
      let less : suc (length (round xs)) ≤ length xs = omega arith in
      rw (f, rounds) (rounds_shrink h n (round xs) (omega arith)))
