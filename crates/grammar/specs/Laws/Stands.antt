-- Lists of words that stand in another, one after the other.
use Rattle.std.specs.Prelude.{ℕ, zero, suc, ◌+◌, ◌≤◌, ◌≡◌, refl, List, [], ◌∷◌, ◌++◌, length, get_or, take, drop}
use Rattle.std.proofs.Common.{sym, ap, ◌∙◌, add-zero, add-suc, arith, drop-cons}
use Rattle.std.proofs.Math.Seq.{take-length}
use Rattle.grammar.specs.Stands.{Run, Stands}

module _ (ws : List ℕ) (end : ℕ) where
  run_move : (xs : List ℕ) (at k at' k' q : ℕ) → at + k ≡ at' + k' → Run ws end xs at k q → Run ws end xs at' k' q
  run_move [] at k at' k' q e s = (omega arith, s.1)
  run_move (x ∷ xs) at k at' k' q e s = (rw (← e) s.0, run_move xs at (suc k) at' (suc k') q (omega arith) s.1)

  run_length : (xs : List ℕ) (at k q : ℕ) → Run ws end xs at k q → (q ≡ at + k + length xs) × (q ≤ end)
  run_length [] at k q s = (omega arith, s.1)
  run_length (x ∷ xs) at k q s = let h = run_length xs at (suc k) q s.1 in (omega arith, h.1)

  run_append : (xs ys : List ℕ) (at k p q : ℕ) → Run ws end xs at k p → Run ws end ys p 0 q → Run ws end (xs ++ ys) at k q
  run_append [] ys at k p q s t = run_move ys p 0 at k q (omega arith) t
  run_append (x ∷ xs) ys at k p q s t = (s.0, run_append xs ys at (suc k) p q s.1 t)

  run_split : (xs ys : List ℕ) (at k q : ℕ) → Run ws end (xs ++ ys) at k q → (p : ℕ) × Run ws end xs at k p × Run ws end ys p 0 q
  run_split [] ys at k q s = let h = run_length ys at k q s in (at + k, (refl, omega arith), run_move ys at k (at + k) 0 q (omega arith) s)
  run_split (x ∷ xs) ys at k q s = let t = run_split xs ys at (suc k) q s.1 in (t.0, (s.0, t.1), t.2)

  run_within : (end' : ℕ) (xs : List ℕ) (at k q : ℕ) → q ≤ end' → Run ws end xs at k q → Run ws end' xs at k q
  run_within end' [] at k q h s = (s.0, h)
  run_within end' (x ∷ xs) at k q h s = (s.0, run_within end' xs at (suc k) q h s.1)

  run_slice : (xs : List ℕ) (at k q : ℕ) → q ≤ length ws → Run ws end xs at k q → take (length xs) (drop (at + k) ws) ≡ xs
  run_slice [] at k q h s = refl
  run_slice (x ∷ xs) at k q h s =
      let l = run_length xs at (suc k) q s.1 in
      let t = run_slice xs at (suc k) q h s.1 in
      rw (drop-cons ws (at + k) 0 (omega arith), s.0) (ap {B = List ℕ} (λ l. x ∷ l) (rw (add-suc at k) at t))

  slice_run : (n at k q : ℕ) → q ≡ at + k + n → q ≤ length ws → q ≤ end → Run ws end (take n (drop (at + k) ws)) at k q
  slice_run zero at k q e h i = (omega arith, i)
  slice_run (suc n) at k q e h i =
      rw (drop-cons ws (at + k) 0 (omega arith)) (refl, rw (← (add-suc at k)) (slice_run n at (suc k) q (omega arith) h i))

-- The place of a list's first word.
pub first : (ws : List ℕ) (at : ℕ) → get_or ws (at + 0) 0 ≡ get_or ws at 0
first ws at = ap (λ n. get_or ws n 0) (add-zero at)

-- No words stand everywhere, and the words that stand at a place stand there.
pub stands_none : {ws : List ℕ} {end at : ℕ} → at ≤ end → Stands ws end [] at at
stands_none h = record { run = (omega arith, h) }

pub stands_two : (ws : List ℕ) (end at : ℕ) → at + 2 ≤ end → Stands ws end (get_or ws at 0 ∷ get_or ws (at + 1) 0 ∷ []) at (at + 2)
stands_two ws end at h = record { run = (first ws at, (refl, (refl, h))) }

pub stands_head : {ws : List ℕ} {end x : ℕ} {xs : List ℕ} {at q : ℕ} → Stands ws end (x ∷ xs) at q → get_or ws at 0 ≡ x
stands_head {ws} {at = at} s = sym (first ws at) ∙ s.run.0

module _ {ws : List ℕ} {end : ℕ} {xs : List ℕ} {q : ℕ} where
  -- From a list behind k words to one of its own, and back.
  pub stands_run : (at k : ℕ) → Stands ws end xs (at + k) q → Run ws end xs at k q
  stands_run at k s = run_move ws end xs (at + k) 0 at k q (omega arith) s.run

  pub run_stands : (at k : ℕ) → Run ws end xs at k q → Stands ws end xs (at + k) q
  run_stands at k s = record { run = run_move ws end xs at k (at + k) 0 q (omega arith) s }

  module _ {at : ℕ} where
    -- Where a list ends.
    pub stands_length : Stands ws end xs at q → (q ≡ at + length xs) × (q ≤ end)
    stands_length s = let h = run_length ws end xs at 0 q s.run in (omega arith, h.1)

    -- Two lists, one after the other.
    pub stands_append : {ys : List ℕ} {r : ℕ} → Stands ws end xs at q → Stands ws end ys q r → Stands ws end (xs ++ ys) at r
    stands_append {ys} {r} s t = record { run = run_append ws end xs ys at 0 q r s.run t.run }

    -- Another end that is not before q serves as well.
    pub stands_within : (end' : ℕ) → q ≤ end' → Stands ws end xs at q → Stands ws end' xs at q
    stands_within end' h s = record { run = run_within ws end end' xs at 0 q h s.run }

    -- What stands in ws is a slice of ws.
    pub stands_slice : q ≤ length ws → Stands ws end xs at q → take (length xs) (drop at ws) ≡ xs
    stands_slice h s = rw (add-zero at) at (run_slice ws end xs at 0 q h s.run)

pub stands_split : {ws : List ℕ} {end : ℕ} (xs ys : List ℕ) {at q : ℕ} → Stands ws end (xs ++ ys) at q
    → (p : ℕ) × Stands ws end xs at p × Stands ws end ys p q
stands_split {ws} {end} xs ys {at} {q} s =
    let t = run_split ws end xs ys at 0 q s.run in (t.0, record { run = t.1 }, record { run = t.2 })

-- A slice of ws stands in ws.
pub slice_stands : (ws : List ℕ) (end n at q : ℕ) → q ≡ at + n → q ≤ length ws → q ≤ end → Stands ws end (take n (drop at ws)) at q
slice_stands ws end n at q e h i =
    record { run = rw (add-zero at) at (slice_run ws end n at 0 q (omega arith) h i) }

-- A list stands in itself.
pub stands_self : (ws : List ℕ) → Stands ws (length ws) ws 0 (length ws)
stands_self ws = rw (take-length ws) at (slice_stands ws (length ws) (length ws) 0 (length ws) (omega arith) (omega arith) (omega arith))

-- Only the list itself stands in it from one end to the other.
pub stands_whole : {ws : List ℕ} {end : ℕ} {xs : List ℕ} → Stands ws end xs 0 (length ws) → xs ≡ ws
stands_whole {ws} {end} {xs} s =
    let h : length xs ≡ length ws = omega (arith, stands_length s) in
    sym (stands_slice (omega arith) s) ∙ rw h (take-length ws)
