-- A list whose items are mapped: what is asked of it, cut off it and walked out of it, by the list before.
use Rattle.std.specs.Prelude.{ℕ, zero, suc, ◌+◌, ◌≡◌, Bool, length, take, drop}
use Rattle.std.proofs.Math.Path.{refl, ap₂}
use Rattle.std.proofs.Common.{sym, ap, ◌∙◌, length-append}
use mathlib.Core.List.{List, [], ◌∷◌, ◌++◌, map, map-append}
use Rattle.std.proofs.Math.Option
use Rattle.std.proofs.Math.Bool.{◌&&◌, ◌||◌}
use Rattle.grammar.specs.Lists.{each, all, any, is_empty, keep, first}
use Rattle.grammar.specs.Laws.Parse.{either}

pub both_length : (a b a' b' : List ℕ) → length a ≡ length a' → length b ≡ length b' → length (a ++ b) ≡ length (a' ++ b')
both_length a b a' b' p q = length-append a b ∙ ap₂ ◌+◌ p q ∙ sym (length-append a' b')

module _ {A B : Type 0} (h : A → B) where
  pub take_on : (n : ℕ) (xs : List A) → take n (map h xs) ≡ map h (take n xs)
  take_on zero xs = refl
  take_on (suc n) [] = refl
  take_on (suc n) (x ∷ xs) = ap (λ l. h x ∷ l) (take_on n xs)

  pub drop_on : (n : ℕ) (xs : List A) → drop n (map h xs) ≡ map h (drop n xs)
  drop_on zero xs = refl
  drop_on (suc n) [] = refl
  drop_on (suc n) (x ∷ xs) = drop_on n xs

  pub empty_on : (xs : List A) → is_empty (map h xs) ≡ is_empty xs
  empty_on [] = refl
  empty_on (x ∷ xs) = refl

  -- A test that says of a mapped item what another says of the item.
  module _ (k : B → Bool) (k' : A → Bool) (e : (a : A) → k (h a) ≡ k' a) where
    pub all_same : (xs : List A) → all k (map h xs) ≡ all k' xs
    unfolding all
    all_same [] = refl
    all_same (x ∷ xs) = ap₂ ◌&&◌ (e x) (all_same xs)

    pub any_same : (xs : List A) → any k (map h xs) ≡ any k' xs
    unfolding any
    any_same [] = refl
    any_same (x ∷ xs) = ap₂ ◌||◌ (e x) (any_same xs)

    pub keep_same : (xs : List A) → keep k (map h xs) ≡ map h (keep k' xs)
    unfolding keep
    keep_same [] = refl
    keep_same (x ∷ xs) =
        either (k' x)
        (λ t. rw (e x ∙ t, t, keep) (ap (λ l. h x ∷ l) (keep_same xs)))
        (λ n. rw (e x ∙ n, n, keep) (keep_same xs))

    pub first_same : (xs : List A) → first k (map h xs) ≡ Option.map h (first k' xs)
    unfolding first
    first_same [] = refl
    first_same (x ∷ xs) = either (k' x) (λ t. rw (e x ∙ t, t, first) refl) (λ n. rw (e x ∙ n, n, first) (first_same xs))

  -- A walk that gives for a mapped item what another gives for the item: the same numbers, as many, or these mapped.
  module _ (k : B → List ℕ) (k' : A → List ℕ) where
    pub each_same : ((a : A) → k (h a) ≡ k' a) → (xs : List A) → each k (map h xs) ≡ each k' xs
    each_same e [] = refl
    each_same e (x ∷ xs) = ap₂ ◌++◌ (e x) (each_same e xs)

    pub each_length : ((a : A) → length (k (h a)) ≡ length (k' a)) → (xs : List A) → length (each k (map h xs)) ≡ length (each k' xs)
    each_length e [] = refl
    each_length e (x ∷ xs) = both_length (k (h x)) (each k (map h xs)) (k' x) (each k' xs) (e x) (each_length e xs)

    pub each_on : (f : ℕ → ℕ) → ((a : A) → k (h a) ≡ map f (k' a)) → (xs : List A) → each k (map h xs) ≡ map f (each k' xs)
    each_on f e [] = refl
    each_on f e (x ∷ xs) = ap₂ ◌++◌ (e x) (each_on f e xs) ∙ sym (map-append f (k' x) (each k' xs))
