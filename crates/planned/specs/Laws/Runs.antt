-- A run of records, one behind the other: n from the a-th on, with elements and options from two places on.
-- Two runs that adjoin make one; where nothing in a run's places changes, neither does what it means.
use Prim.Native.Nat.{ℕ, zero, suc, ◌+◌, ◌<◌, ◌≤◌}
use Rattle.std.specs.Prelude.{◌≡◌, length}
use Rattle.std.proofs.Math.Path.{refl, ap, ap₂}
use mathlib.Core.List.{List, ◌∷◌, ◌++◌, map}
use native.Mathlib.Omega.{arith}
use Rattle.grammar.specs.Lists.{total}
use Rattle.planned.specs.Layout.{half, head_at, options_at, record_at, meaning, records_from}
use Rattle.planned.specs.List.{elements_of, options_of}
use Rattle.planned.specs.Laws.Parts.{Copied, elements_count, options_count, meaning_copied}

module _ (bs : List ℕ) where
  pub elements_of_append : (m n a : ℕ) → elements_of bs (m + n) a ≡ elements_of bs m a + elements_of bs n (a + m)
  unfolding elements_of
  elements_of_append zero n a = let e : 0 + n ≡ n = omega arith in let f : a + 0 ≡ a = omega arith in rw (e, f) (omega arith)
  elements_of_append (suc m) n a =
      let e : suc m + n ≡ suc (m + n) = omega arith in
      let f : a + suc m ≡ suc a + m = omega arith in
      let h = elements_of_append m n (suc a) in
      rw (e, f) (omega arith)

  pub options_of_append : (m n a : ℕ) → options_of bs (m + n) a ≡ options_of bs m a + options_of bs n (a + m)
  unfolding options_of
  options_of_append zero n a = let e : 0 + n ≡ n = omega arith in let f : a + 0 ≡ a = omega arith in rw (e, f) (omega arith)
  options_of_append (suc m) n a =
      let e : suc m + n ≡ suc (m + n) = omega arith in
      let f : a + suc m ≡ suc a + m = omega arith in
      let h = options_of_append m n (suc a) in
      rw (e, f) (omega arith)

  -- One head.
  pub elements_of_one : (a : ℕ) → elements_of bs 1 a ≡ half bs (head_at a + 2)
  unfolding elements_of
  elements_of_one a = omega arith

  pub options_of_one : (a : ℕ) → options_of bs 1 a ≡ half bs (head_at a + 3)
  unfolding options_of
  options_of_one a = omega arith

  module _ (ws : List ℕ) (end d : ℕ) where
    pub runs_append : (m n a x y : ℕ)
        → records_from ws end d bs (m + n) a x y
        ≡ records_from ws end d bs m a x y ++ records_from ws end d bs n (a + m) (x + elements_of bs m a) (y + options_of bs m a)
    unfolding records_from elements_of options_of
    runs_append zero n a x y =
        let e : 0 + n ≡ n = omega arith in
        let f : a + 0 ≡ a = omega arith in
        let g : x + 0 ≡ x = omega arith in
        let h : y + 0 ≡ y = omega arith in
        rw (e, f, g, h)
    runs_append (suc m) n a x y =
        let e : suc m + n ≡ suc (m + n) = omega arith in
        let f : a + suc m ≡ suc a + m = omega arith in
        let u = half bs (head_at a + 2) in
        let v = half bs (head_at a + 3) in
        let g : x + (u + elements_of bs m (suc a)) ≡ x + u + elements_of bs m (suc a) = omega arith in
        let h : y + (v + options_of bs m (suc a)) ≡ y + v + options_of bs m (suc a) = omega arith in
        rw (e, f, g, h) (ap (λ ps. meaning ws end d bs (record_at bs a x y) ∷ ps) (runs_append m n (suc a) (x + u) (y + v)))

    -- How many alternatives, elements and options they are.
    pub run_count : (n a x y : ℕ) → length (records_from ws end d bs n a x y) ≡ n
    unfolding records_from
    run_count zero a x y = refl
    run_count (suc n) a x y = ap suc (run_count n (suc a) (x + half bs (head_at a + 2)) (y + half bs (head_at a + 3)))

    pub run_elements : (n a x y : ℕ) → total (map (λ p. length p.elements) (records_from ws end d bs n a x y)) ≡ elements_of bs n a
    unfolding records_from elements_of total meaning
    run_elements zero a x y = refl
    run_elements (suc n) a x y =
        ap₂ ◌+◌ (elements_count ws end d bs x (half bs (head_at a + 2)))
        (run_elements n (suc a) (x + half bs (head_at a + 2)) (y + half bs (head_at a + 3)))

    pub run_options : (n a x y : ℕ) → total (map (λ p. length p.options) (records_from ws end d bs n a x y)) ≡ options_of bs n a
    unfolding records_from options_of total meaning
    run_options zero a x y = refl
    run_options (suc n) a x y =
        ap₂ ◌+◌ (options_count ws end d bs (options_at + y) (half bs (head_at a + 3)))
        (run_options n (suc a) (x + half bs (head_at a + 2)) (y + half bs (head_at a + 3)))

-- Nothing changes from one half up to another.
pub record SameIn (before after : List ℕ) (from to : ℕ) : Type 0 where
  pub same : (j : ℕ) → from ≤ j → j < to → half after j ≡ half before j

-- In the heads of a run nothing changes.
abbrev pub SameHeads : (before after : List ℕ) (n a : ℕ) → Type 0
SameHeads before after n a = SameIn before after (head_at a) (head_at (a + n))

module _ {before after : List ℕ} where
  pub part_same : {from to p q : ℕ} → SameIn before after from to → from ≤ p → q ≤ to → SameIn before after p q
  part_same s h g = record { same = λ j l m. s.same j (omega arith) (omega arith) }

  same_copied : {from to n : ℕ} → SameIn before after from to → from + n ≤ to → Copied before after from from n
  same_copied {from} {to} {n} s h = record { each = λ i l. s.same (from + i) (omega arith) (omega arith) }

  rest_heads : (n a : ℕ) → SameHeads before after (suc n) a → SameHeads before after n (suc a)
  rest_heads n a s = part_same s (omega arith) (omega arith)

  pub elements_of_same : (n a : ℕ) → SameHeads before after n a → elements_of after n a ≡ elements_of before n a
  unfolding elements_of
  elements_of_same zero a s = refl
  elements_of_same (suc n) a s =
      ap₂ ◌+◌ (s.same (head_at a + 2) (omega arith) (omega arith)) (elements_of_same n (suc a) (rest_heads n a s))

  pub options_of_same : (n a : ℕ) → SameHeads before after n a → options_of after n a ≡ options_of before n a
  unfolding options_of
  options_of_same zero a s = refl
  options_of_same (suc n) a s =
      ap₂ ◌+◌ (s.same (head_at a + 3) (omega arith) (omega arith)) (options_of_same n (suc a) (rest_heads n a s))

  module _ (ws : List ℕ) (end d : ℕ) where
    pub run_same : (n a x y : ℕ) → SameHeads before after n a → SameIn before after x (x + elements_of before n a)
        → SameIn before after (options_at + y) (options_at + y + options_of before n a)
        → records_from ws end d after n a x y ≡ records_from ws end d before n a x y
    unfolding records_from elements_of options_of
    run_same zero a x y s e o = refl
    run_same (suc n) a x y s e o =
        let u : half after (head_at a + 2) ≡ half before (head_at a + 2) = s.same (head_at a + 2) (omega arith) (omega arith) in
        let v : half after (head_at a + 3) ≡ half before (head_at a + 3) = s.same (head_at a + 3) (omega arith) (omega arith) in
        ap₂ ◌∷◌
        (meaning_copied ws end d (record_at before a x y) (record_at after a x y) (s.same (head_at a) (omega arith) (omega arith))
        (s.same (head_at a + 1) (omega arith) (omega arith)) u v (same_copied e (omega arith)) (same_copied o (omega arith)))
        (rw (u, v) (run_same n (suc a) (x + half before (head_at a + 2)) (y + half before (head_at a + 3)) (rest_heads n a s)
        (part_same e (omega arith) (omega arith)) (part_same o (omega arith) (omega arith))))
