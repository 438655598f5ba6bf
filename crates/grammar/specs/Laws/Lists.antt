-- Whether a number is in a list, as a test and as a fact; and what the items of two lists give, one after the other.
use Rattle.std.specs.Prelude.{ℕ, ◌≡◌, refl, true, ◌||◌, eqb}
use Rattle.std.proofs.Common.{sym, ap, ◌∙◌, eqb-true, eq-eqb}
use mathlib.Core.List.{List, [], ◌∷◌, ◌++◌, map, append_assoc, Memᴰ}
use Rattle.std.proofs.Math.Bool.{or-true, or_assoc}
use Rattle.std.proofs.lemmas.Bool.{false≢true, true≢false, eqb-false, ne_eqb}
use Rattle.grammar.specs.Lists.{is_empty, each, member}
use Rattle.grammar.specs.Laws.Parse.{either, never}

pub in_member : {x : ℕ} {xs : List ℕ} → Memᴰ x xs → member x xs ≡ true
unfolding member
in_member {x} (Memᴰ.head {x = y} {xs = ys} e) = ap (λ b. b || member x ys) (eq-eqb x y e)
in_member {x} (Memᴰ.tail {x = y} m) = ap (λ b. eqb x y || b) (in_member m) ∙ or-true (eqb x y)

pub in_map : {A B : Type 0} (f : A → B) {a : A} {as' : List A} → Memᴰ a as' → Memᴰ (f a) (map f as')
in_map f (Memᴰ.head e) = Memᴰ.head (ap f e)
in_map f (Memᴰ.tail m) = Memᴰ.tail (in_map f m)

pub member_in : {x : ℕ} (xs : List ℕ) → member x xs ≡ true → Memᴰ x xs
unfolding member
member_in [] t = absurd (false≢true t)
member_in {x} (y ∷ ys) t =
    either (eqb x y) (λ u. Memᴰ.head (eqb-true x y u)) (λ f. Memᴰ.tail (member_in ys (rw f at t)))

pub member_append : (x : ℕ) (xs ys : List ℕ) → member x (xs ++ ys) ≡ (member x xs || member x ys)
unfolding member
member_append x [] ys = refl
member_append x (y ∷ xs) ys = ap (λ b. eqb x y || b) (member_append x xs ys) ∙ sym (or_assoc (eqb x y) (member x xs) (member x ys))

pub empty_none : {A : Type 0} (xs : List A) → is_empty xs ≡ true → xs ≡ []
empty_none [] t = refl
empty_none (x ∷ xs) t = absurd (true≢false (sym t))

pub append_none : (xs ys : List ℕ) → xs ++ ys ≡ [] → (xs ≡ []) × (ys ≡ [])
append_none [] ys e = (refl, e)
append_none (x ∷ xs) ys e = never cc

-- Lists that are equal are equal behind their first items.
pub rest_of : {A : Type 0} {x y : A} {xs ys : List A} → x ∷ xs ≡ y ∷ ys → xs ≡ ys
rest_of e = cc

-- Numbers are compared in either order.
pub eqb_swap : (x y : ℕ) → eqb x y ≡ eqb y x
eqb_swap x y =
    either (eqb x y) (λ t. t ∙ sym (eq-eqb y x (sym (eqb-true x y t)))) (λ f. f ∙ sym (ne_eqb y x (λ e. eqb-false x y f (sym e))))

pub each_append : {A : Type 0} (f : A → List ℕ) (xs ys : List A) → each f (xs ++ ys) ≡ each f xs ++ each f ys
each_append f [] ys = refl
each_append f (x ∷ xs) ys = ap (λ l. f x ++ l) (each_append f xs ys) ∙ sym (append_assoc (f x) (each f xs) (each f ys))
