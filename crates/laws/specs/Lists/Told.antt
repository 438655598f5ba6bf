-- The words about lists of numbers say what Demands.Lists promises of them.
use Rattle.std.specs.Prelude.{ℕ, zero, suc, ◌≤◌, ◌<◌, ◌≡◌, refl, true, not, ltb}
use Rattle.std.proofs.Common.{sym, ap, ◌∙◌, subst, inl, inr, true≢false, arith, ltb-true, lt-ltb}
use mathlib.Core.List.Memᴰ
use mathlib.Core.List.{List, [], ◌∷◌, ◌++◌, Memᴰ}
use Rattle.std.proofs.lemmas.Bool.{not-true, and_from}
use Rattle.std.specs.Cmp.{first_so, second_so}
use Rattle.grammar.specs.Lists.{member, distinct, below, rising, total, AllOf, AnyOf}
use Rattle.grammar.specs.Laws.Words.{AreBytes}
use Rattle.grammar.specs.Laws.Lists.{in_member, member_in}
use Rattle.grammar.specs.Laws.Parse.{either}
use Rattle.laws.specs.Demands.Lists.{NoTwo, Low, Rises, ListsTold}

-- A member, and what is in front of it.
cut_at : {x : ℕ} {xs : List ℕ} → Memᴰ x xs → (front : List ℕ) × (rest : List ℕ) × (front ++ (x ∷ rest) ≡ xs)
cut_at (Memᴰ.head {xs = xs} e) = ([], xs, ap (λ y. y ∷ xs) e)
cut_at (Memᴰ.tail {x = y} m) = let (front, rest, w) = cut_at m in (y ∷ front, rest, ap (λ l. y ∷ l) w)

apart : (xs : List ℕ) → distinct xs ≡ true → NoTwo xs
unfolding distinct
apart [] t [] middle rest x e = Memᴰ.not-nil (subst (Memᴰ x) e (Memᴰ.head refl))
apart [] t (y ∷ front) middle rest x e = Memᴰ.not-nil (subst (Memᴰ y) e (Memᴰ.head refl))
apart (y ∷ ys) t [] middle rest x e =
    let same : x ≡ y = cc in
    let behind : middle ++ (x ∷ rest) ≡ ys = cc in
    let m : Memᴰ x ys = subst (Memᴰ x) behind (Memᴰ.append_right middle (Memᴰ.head refl)) in
    true≢false (sym (in_member (subst (λ z. Memᴰ z ys) same m)) ∙ not-true (member y ys) (first_so (not (member y ys)) _ t))
apart (y ∷ ys) t (z ∷ front) middle rest x e =
    let behind : front ++ (x ∷ (middle ++ (x ∷ rest))) ≡ ys = cc in
    apart ys (second_so (not (member y ys)) _ t) front middle rest x behind

kept_apart : (xs : List ℕ) → NoTwo xs → distinct xs ≡ true
unfolding distinct
kept_apart [] h = refl
kept_apart (y ∷ ys) h =
    and_from (not (member y ys)) (distinct ys)
    (either (member y ys)
    (λ t. let (middle, rest, w) = cut_at (member_in ys t) in absurd (h [] middle rest y (ap (λ l. y ∷ l) w)))
    (λ f. ap not f))
    (kept_apart ys (λ front middle rest x e. h (y ∷ front) middle rest x (ap (λ l. y ∷ l) e)))

low : (c : ℕ) (xs : List ℕ) → below c xs ≡ true → Low c xs
unfolding below
low c (y ∷ ys) t x (Memᴰ.head e) = ltb-true x c (ap (λ z. ltb z c) e ∙ first_so (ltb y c) _ t)
low c (y ∷ ys) t x (Memᴰ.tail m) = low c ys (second_so (ltb y c) _ t) x m
low c [] t x x4 = elim x4 [ ]

kept_low : (c : ℕ) (xs : List ℕ) → Low c xs → below c xs ≡ true
unfolding below
kept_low c [] h = refl
kept_low c (y ∷ ys) h =
    and_from (ltb y c) (below c ys) (lt-ltb y c (h y (Memᴰ.head refl)))
    (kept_low c ys (λ x m. h x (Memᴰ.tail m)))

rises : (xs : List ℕ) → rising xs ≡ true → Rises xs
unfolding rising
rises xs t [] rest a b e = ltb-true a b (first_so (ltb a b) _ (subst (λ l. rising l ≡ true) (sym e) t))
rises xs t (x ∷ []) rest a b e = rises (a ∷ b ∷ rest) (second_so (ltb x a) _ (subst (λ l. rising l ≡ true) (sym e) t)) [] rest a b refl
rises xs t (x ∷ y ∷ front) rest a b e =
    rises (y ∷ (front ++ (a ∷ b ∷ rest))) (second_so (ltb x y) _ (subst (λ l. rising l ≡ true) (sym e) t)) (y ∷ front) rest a b refl

kept_rising : (xs : List ℕ) → Rises xs → rising xs ≡ true
unfolding rising
kept_rising [] h = refl
kept_rising (x ∷ []) h = refl
kept_rising (x ∷ y ∷ ys) h =
    and_from (ltb x y) (rising (y ∷ ys)) (lt-ltb x y (h [] ys x y refl))
    (kept_rising (y ∷ ys) (λ front rest a b e. h (x ∷ front) rest a b (ap (λ l. x ∷ l) e)))

all_low : (c : ℕ) (xs : List ℕ) → AllOf (λ x. x < c) xs → Low c xs
all_low c (y ∷ ys) h x (Memᴰ.head e) = subst (λ z. z < c) (sym e) h.0
all_low c (y ∷ ys) h x (Memᴰ.tail m) = all_low c ys h.1 x m
all_low c [] h x x4 = elim x4 [ ]

low_all : (c : ℕ) (xs : List ℕ) → Low c xs → AllOf (λ x. x < c) xs
low_all c [] h = tt
low_all c (y ∷ ys) h = (h y (Memᴰ.head refl), low_all c ys (λ x m. h x (Memᴰ.tail m)))

any_one : (c : ℕ) (xs : List ℕ) → AnyOf (λ x. c ≤ x) xs → (x : ℕ) × Memᴰ x xs × (c ≤ x)
any_one c (y ∷ ys) (inl l) = (y, Memᴰ.head refl, l)
any_one c (y ∷ ys) (inr h) = let (x, m, l) = any_one c ys h in (x, Memᴰ.tail m, l)
any_one c [] x' = elim x' [ ]

one_any : (c : ℕ) {x : ℕ} {xs : List ℕ} → Memᴰ x xs → c ≤ x → AnyOf (λ x. c ≤ x) xs
one_any c (Memᴰ.head e) l = inl (subst (λ z. c ≤ z) e l)
one_any c (Memᴰ.tail m) l = inr (one_any c m l)

bytes_low : (bs : List ℕ) → AreBytes bs → Low 256 bs
bytes_low (b ∷ bs) h x (Memᴰ.head e) = subst (λ z. z < 256) (sym e) (h 0)
bytes_low (b ∷ bs) h x (Memᴰ.tail m) = bytes_low bs (λ i. h (suc i)) x m
bytes_low [] h x x4 = elim x4 [ ]

low_bytes : (bs : List ℕ) → Low 256 bs → AreBytes bs
low_bytes [] h zero = omega arith
low_bytes [] h (suc i) = omega arith
low_bytes (b ∷ bs) h zero = h b (Memᴰ.head refl)
low_bytes (b ∷ bs) h (suc i) = low_bytes bs (λ x m. h x (Memᴰ.tail m)) i

pub lists_told_lem : ListsTold
unfolding total
lists_told_lem =
    record {
      is_member = λ x xs. (member_in xs, in_member);
      is_distinct = λ xs. (apart xs, kept_apart xs);
      is_below = λ c xs. (low c xs, kept_low c xs);
      is_rising = λ xs. (rises xs, kept_rising xs);
      total = λ x xs. (refl, refl);
      all_of = λ c xs. (all_low c xs, low_all c xs);
      any_of = λ c xs. (any_one c xs, λ x. one_any c x.1 x.2);
      are_bytes = λ bs. (bytes_low bs, low_bytes bs);
    }
