-- Rounds that only take away, and what a test takes away.
use Prim.Native.Nat.{ℕ, zero, suc, ◌<◌, ◌≤◌}
use mathlib.Core.Path.{◌≡◌, refl, sym, ap, ◌∙◌, subst}
use mathlib.Core.List.{List, [], ◌∷◌, Memᴰ, Sublistᴰ}
use mathlib.Core.Bool.{Bool, true, false, ◌&&◌, true≢false}
use native.Mathlib.Omega.{arith}
use lib.ListN.{length}
use lib.Dec.{eqb, ltb}
use borrow.Author.Tests.{eqb-true, eqb-false, eq-eqb, ne_eqb, ltb-true, ltb-false}
use Rattle.std.proofs.lemmas.Bool.{and_from}
use Rattle.std.specs.Cmp.{first_so, second_so, both_ways}
use Rattle.grammar.specs.Lists.{member, keep, rounds}
use Rattle.grammar.specs.Laws.Lists.{in_member, member_in}
use Rattle.grammar.specs.Laws.Parse.{either}
use Rattle.graph.specs.Members.{in_keep, keep_in, keep_is_part}
use Rattle.graph.specs.Fixpoint.{part_length, part_whole}
use Rattle.analysis.specs.Rounds.{one_if, count_below}

module _ (test : ℕ → Bool) where
  pub member_keep : (x : ℕ) (xs : List ℕ) → member x (keep test xs) ≡ (member x xs && test x)
  member_keep x xs =
      both_ways (member x (keep test xs)) (member x xs && test x)
      (λ t. let (m, p) = in_keep test xs (member_in (keep test xs) t) in and_from (member x xs) (test x) (in_member m) p)
      (λ t. in_member (keep_in test (member_in xs (first_so (member x xs) (test x) t)) (second_so (member x xs) (test x) t)))

  pub keep_same : (xs : List ℕ) → ((i : ℕ) → Memᴰ i xs → test i ≡ true) → keep test xs ≡ xs
  unfolding keep
  keep_same [] h = refl
  keep_same (x ∷ xs) h =
      rw (h x (Memᴰ.head refl)) (ap {B = List ℕ} (λ l. x ∷ l) (keep_same xs λ i m. h i (Memᴰ.tail m)))

  pub keep_less : (xs : List ℕ) {i : ℕ} → Memᴰ i xs → test i ≡ false → length (keep test xs) < length xs
  keep_less xs {i} m f =
      either (ltb (length (keep test xs)) (length xs)) (ltb-true (length (keep test xs)) (length xs))
      (λ e.
      let whole = part_whole (keep_is_part test xs) (ltb-false (length (keep test xs)) (length xs) e) in
      absurd (true≢false (sym (in_keep test xs (subst (Memᴰ i) (sym whole) m)).1 ∙ f)))

module _ (round : List ℕ → List ℕ) where
  -- A round that changes nothing is the last.
  pub rounds_fixed : (xs : List ℕ) → round xs ≡ xs → (n : ℕ) → rounds round n xs ≡ xs
  unfolding rounds
  rounds_fixed xs e zero = refl
  rounds_fixed xs e (suc n) = rw (eq-eqb (length (round xs)) (length xs) (ap length e), rounds) refl

  module _ (part : (xs : List ℕ) → Sublistᴰ (round xs) xs) where
    -- As many as there are items are enough.
    pub rounds_enough : (n m : ℕ) (xs : List ℕ) → length xs ≤ n → length xs ≤ m → rounds round n xs ≡ rounds round m xs
    unfolding rounds
    rounds_enough zero zero xs l k = refl
    rounds_enough zero (suc m) xs l k =
        let p = part_length (part xs) in
        sym (rw (eq-eqb (length (round xs)) (length xs) (omega arith), rounds) refl)
    rounds_enough (suc n) zero xs l k =
        let p = part_length (part xs) in
        rw (eq-eqb (length (round xs)) (length xs) (omega arith), rounds) refl
    rounds_enough (suc n) (suc m) xs l k =
        either (eqb (length (round xs)) (length xs))
        (λ t. rw (t, rounds) refl)
        (λ f.
        let p = part_length (part xs) in
        let d = eqb-false (length (round xs)) (length xs) f in
        let less : suc (length (round xs)) ≤ length xs = omega arith in
        rw (f, rounds) (rounds_enough n m (round xs) (omega arith) (omega arith)))

    -- A round that takes something away is followed by those of what is left.
    pub rounds_moves : (xs : List ℕ) → length (round xs) < length xs
        → rounds round (length xs) xs ≡ rounds round (length (round xs)) (round xs)
    unfolding rounds
    rounds_moves xs l = go (length xs) refl
      where
        go : (n : ℕ) → length xs ≡ n → rounds round n xs ≡ rounds round (length (round xs)) (round xs)
        go zero e = absurd (omega arith)
        go (suc n) e =
            rw (ne_eqb (length (round xs)) (length xs) (λ z. omega arith), rounds)
            (rounds_enough n (length (round xs)) (round xs) (omega arith) (omega arith))

one_most : (a b : Bool) → (a ≡ true → b ≡ true) → one_if a ≤ one_if b
one_most true true p = omega arith
one_most true false p = absurd (true≢false (sym (p refl)))
one_most false true p = omega arith
one_most false false p = omega arith

-- Fewer pass a test that takes one away and adds none.
count_most : (f g : ℕ → Bool) → ((i : ℕ) → f i ≡ true → g i ≡ true) → (n : ℕ) → count_below f n ≤ count_below g n
unfolding count_below
count_most f g h zero = omega arith
count_most f g h (suc n) =
    let l = count_most f g h n in
    let o = one_most (f n) (g n) (h n) in
    omega arith

pub count_falls : (f g : ℕ → Bool) → ((i : ℕ) → f i ≡ true → g i ≡ true) → (n j : ℕ) → j < n → g j ≡ true → f j ≡ false
    → count_below f n < count_below g n
unfolding count_below
count_falls f g h zero j l t e = absurd (omega arith)
count_falls f g h (suc n) j l t e =
    either (eqb j n)
    (λ u.
    let z = eqb-true j n u in
    let m = count_most f g h n in
    let a : f n ≡ false = rw z at e in
    let b : g n ≡ true = rw z at t in
    rw (a, b) (omega arith))
    (λ u.
    let z = eqb-false j n u in
    let m = count_falls f g h n j (omega arith) t e in
    let o = one_most (f n) (g n) (h n) in
    omega arith)
