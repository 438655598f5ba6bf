-- How often a number stands in a list: distinct and bounded lists by counting, and the numbers of a range.
use Rattle.std.specs.Prelude.{ℕ, suc, ◌+◌, ◌≤◌, ◌<◌, ◌≡◌, refl, Bool, true, false, ◌&&◌, not, leb, ltb, eqb}
use Rattle.std.proofs.Common.{sym, ap, ◌∙◌, subst, true≢false, arith, eqb-true, eq-eqb, ne_eqb, ltb-true, lt-ltb, le-ltb, leb-true, le-leb}
use Rattle.std.proofs.Common.{leb-false, ltb-false}
use mathlib.Core.List.{List, [], ◌∷◌, ◌++◌, map, Memᴰ, Sublistᴰ}
use Rattle.std.proofs.Math.Bool.{and-false}
use Rattle.std.proofs.lemmas.Bool.{eqb-false, lt-leb, not-true, and_from}
use Rattle.std.specs.Cmp.{first_so, second_so}
use Rattle.grammar.specs.Lists.{member, distinct, below, keep}
use Rattle.grammar.specs.Laws.Parse.{either}
use Rattle.grammar.specs.Laws.Lists.{in_member}
use Rattle.grammar.specs.Laws.Lists.{member_in}
use Rattle.graph.specs.Members.{keep_is_part, part_map}

abbrev pub one : Bool → ℕ
one true = 1
one false = 0

pub one_most : (b : Bool) → one b ≤ 1
one_most true = omega arith
one_most false = omega arith

unfoldable pub count : ℕ → List ℕ → ℕ
count x [] = 0
count x (y ∷ ys) = one (eqb x y) + count x ys

pub count_append : (x : ℕ) (xs ys : List ℕ) → count x (xs ++ ys) ≡ count x xs + count x ys
unfolding count
count_append x [] ys = omega arith
count_append x (z ∷ xs) ys = let h = count_append x xs ys in omega arith

pub count_in : (x : ℕ) {xs : List ℕ} → Memᴰ x xs → 1 ≤ count x xs
unfolding count
count_in x (Memᴰ.head {x = y} {xs = xs} e) = rw (eq-eqb x y e) (omega arith)
count_in x (Memᴰ.tail {x = y} {xs = xs} m) = let h = count_in x m in omega arith

pub count_out : (x : ℕ) (xs : List ℕ) → (Memᴰ x xs → ⊥) → count x xs ≡ 0
unfolding count
count_out x [] n = refl
count_out x (y ∷ ys) n =
    let f = ne_eqb x y λ e. n (Memᴰ.head e) in
    rw f (let h = count_out x ys (λ m. n (Memᴰ.tail m)) in omega arith)

-- No two are equal where nothing stands twice.
pub distinct_count : (xs : List ℕ) → distinct xs ≡ true → (x : ℕ) → count x xs ≤ 1
unfolding distinct count
distinct_count [] t x = omega arith
distinct_count (y ∷ ys) t x =
    let more = distinct_count ys (second_so (not (member y ys)) _ t) x in
    either (eqb x y)
    (λ u.
    let f = not-true (member y ys) (first_so (not (member y ys)) _ t) in
    let none : count x ys ≡ 0 = count_out x ys λ m. true≢false (sym (in_member (subst (λ z. Memᴰ z ys) (eqb-true x y u) m)) ∙ f) in
    rw u (omega arith))
    (λ u. rw u (omega arith))

pub count_distinct : (xs : List ℕ) → ((x : ℕ) → count x xs ≤ 1) → distinct xs ≡ true
unfolding distinct count
count_distinct [] h = refl
count_distinct (y ∷ ys) h =
    let f : member y ys ≡ false =
    either (member y ys)
    (λ t. let c = count_in y (member_in ys t) in let d : 1 + count y ys ≤ 1 = rw (eq-eqb y y refl) at (h y) in absurd (omega arith))
    (λ f. f) in
    and_from (not (member y ys)) _ (ap not f) (count_distinct ys λ x. let d = h x in omega arith)

-- Each is below a bound where nothing from the bound on stands there.
pub below_count : (c : ℕ) (xs : List ℕ) → below c xs ≡ true → (x : ℕ) → c ≤ x → count x xs ≡ 0
unfolding below count
below_count c [] t x l = refl
below_count c (y ∷ ys) t x l =
    let g = ltb-true y c (first_so (ltb y c) _ t) in
    rw (ne_eqb x y (λ e. omega arith)) (let h = below_count c ys (second_so (ltb y c) _ t) x l in omega arith)

pub count_below : (c : ℕ) (xs : List ℕ) → ((x : ℕ) → c ≤ x → count x xs ≡ 0) → below c xs ≡ true
unfolding below count
count_below c [] h = refl
count_below c (y ∷ ys) h =
    let t : ltb y c ≡ true =
    either (ltb y c) (λ t. t)
    (λ f. let e : 1 + count y ys ≡ 0 = rw (eq-eqb y y refl) at (h y (ltb-false y c f)) in absurd (omega arith)) in
    and_from (ltb y c) _ t (count_below c ys λ x l. let e = h x l in omega arith)

pub below_in : (c : ℕ) (xs : List ℕ) → below c xs ≡ true → (x : ℕ) → Memᴰ x xs → x < c
below_in c xs t x m =
    either (ltb x c) (ltb-true x c)
    (λ f. let e = below_count c xs t x (ltb-false x c f) in let h = count_in x m in absurd (omega arith))

-- Whether a number is in a range.
unfoldable pub between : ℕ → ℕ → ℕ → ℕ
between a b x = one (leb a x && ltb x b)

pub between_most : (a b x : ℕ) → between a b x ≤ 1
unfolding between
between_most a b x = one_most (leb a x && ltb x b)

pub between_low : (a b x : ℕ) → x < a → between a b x ≡ 0
unfolding between
between_low a b x l = rw (lt-leb a x l) refl

pub between_high : (a b x : ℕ) → b ≤ x → between a b x ≡ 0
unfolding between
between_high a b x l = rw (le-ltb x b l) (ap one (and-false (leb a x)))

pub between_in : (a b x : ℕ) → a ≤ x → x < b → between a b x ≡ 1
unfolding between
between_in a b x l h = rw (le-leb a x l, lt-ltb x b h) refl

pub between_join : (a b c x : ℕ) → a ≤ b → b ≤ c → between a b x + between b c x ≡ between a c x
between_join a b c x l h =
    either (leb a x)
    (λ t.
    let low = leb-true a x t in
    either (ltb x b)
    (λ u. let m = ltb-true x b u in rw (between_in a b x low m, between_low b c x m, between_in a c x low (omega arith)) refl)
    (λ f.
    let m = ltb-false x b f in
    either (ltb x c)
    (λ u. let n = ltb-true x c u in rw (between_high a b x m, between_in b c x m n, between_in a c x low n) refl)
    (λ g. let n = ltb-false x c g in rw (between_high a b x m, between_high b c x n, between_high a c x n) refl)))
    (λ f. let m = leb-false a x f in rw (between_low a b x m, between_low b c x (omega arith), between_low a c x m) refl)

-- One number.
pub between_one : (a x : ℕ) → between a (suc a) x ≡ one (eqb x a)
between_one a x =
    either (eqb x a)
    (λ t. let e = eqb-true x a t in rw (t, between_in a (suc a) x (omega arith) (omega arith)) refl)
    (λ f.
    let ne = eqb-false x a f in
    either (ltb x a)
    (λ u. rw (f, between_low a (suc a) x (ltb-true x a u)) refl)
    (λ u. let g = ltb-false x a u in rw (f, between_high a (suc a) x (up g ne)) refl))
  where
    up : {m n : ℕ} → m ≤ n → (n ≡ m → ⊥) → suc m ≤ n
    up l ne = omega arith

pub between_none : (a x : ℕ) → between a a x ≡ 0
between_none a x = either (ltb x a) (λ t. between_low a a x (ltb-true x a t)) (λ f. between_high a a x (ltb-false x a f))

-- Of a part of a list.
pub part_count : (x : ℕ) {xs ys : List ℕ} → Sublistᴰ xs ys → count x xs ≤ count x ys
unfolding count
part_count x Sublistᴰ.slnil = omega arith
part_count x (Sublistᴰ.cons s) = let h = part_count x s in omega arith
part_count x (Sublistᴰ.cons-cons {a = a} {b = b} e s) = let h = part_count x s in rw e (omega arith)

pub part_distinct : {xs ys : List ℕ} → Sublistᴰ xs ys → distinct ys ≡ true → distinct xs ≡ true
part_distinct {xs} {ys} s t = count_distinct xs λ x. let a = part_count x s in let b = distinct_count ys t x in omega arith

-- Numbers that are not shared stay so where items are taken away.
pub distinct_keep : {A : Type 0} (key : A → ℕ) (test : A → Bool) (as' : List A) → distinct (map key as') ≡ true
    → distinct (map key (keep test as')) ≡ true
distinct_keep key test as' t = part_distinct (part_map key (keep_is_part test as')) t
