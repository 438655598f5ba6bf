-- A function that is one-to-one on some numbers, made one that is one-to-one on all.
use Rattle.std.specs.Prelude.{ℕ, suc, ◌+◌, ◌≤◌, ◌≡◌, List, [], ◌∷◌, map, true, false, ◌||◌, eqb}
use Rattle.std.proofs.Common.{sym, ap, ◌∙◌, true≢false, arith, eqb-true}
use Rattle.grammar.specs.Lists.{member, total}
use Rattle.grammar.specs.Laws.Parse.{either}

-- A function on the numbers of a list, and every other number put past all that it gives for these, by k more.
module _ (f : ℕ → ℕ) (xs : List ℕ) where
  abbrev pub above : ℕ
  above = suc (total (map f xs))

  unfoldable pub past : ℕ → ℕ → ℕ
  past k n = elim (member n xs) [ true ↦ f n | false ↦ n + above + k ]

  pub past_there : (k n : ℕ) → member n xs ≡ true → past k n ≡ f n
  unfolding past
  past_there k n t = rw (t, past)

  pub past_elsewhere : (k n : ℕ) → member n xs ≡ false → past k n ≡ n + above + k
  unfolding past
  past_elsewhere k n m = rw (m, past)

in_total : (f : ℕ → ℕ) (xs : List ℕ) (n : ℕ) → member n xs ≡ true → f n ≤ total (map f xs)
unfolding member total
in_total f [] n t = absurd (true≢false (sym t))
in_total f (x ∷ xs) n t =
    either (eqb n x)
    (λ y. let e = ap f (eqb-true n x y) in omega arith)
    (λ m. let h = in_total f xs n (sym (ap (λ b. b || member n xs) m) ∙ t) in omega arith)

-- It is one-to-one everywhere where the function is so on the list.
module _ (f : ℕ → ℕ) (xs : List ℕ) (apart : (a b : ℕ) → member a xs ≡ true → member b xs ≡ true → f a ≡ f b → a ≡ b) where
  pub past_one : (k a b : ℕ) → past f xs k a ≡ past f xs k b → a ≡ b
  past_one k a b e =
      either (member a xs)
      (λ t. let i = past_there f xs k a t in let h = in_total f xs a t in
      either (member b xs)
      (λ u. apart a b t u (sym i ∙ e ∙ past_there f xs k b u))
      (λ m. let j = past_elsewhere f xs k b m in absurd (omega arith)))
      (λ n. let i = past_elsewhere f xs k a n in
      either (member b xs)
      (λ u. let j = past_there f xs k b u in let h = in_total f xs b u in absurd (omega arith))
      (λ m. let j = past_elsewhere f xs k b m in omega arith))

-- The least of these.
abbrev pub wider : (ℕ → ℕ) → List ℕ → ℕ → ℕ
wider f xs = past f xs 0

pub wider_there : (f : ℕ → ℕ) (xs : List ℕ) (n : ℕ) → member n xs ≡ true → wider f xs n ≡ f n
wider_there f xs = past_there f xs 0

pub wider_one : (f : ℕ → ℕ) (xs : List ℕ) → ((a b : ℕ) → member a xs ≡ true → member b xs ≡ true → f a ≡ f b → a ≡ b)
    → (a b : ℕ) → wider f xs a ≡ wider f xs b → a ≡ b
wider_one f xs apart = past_one f xs apart 0
