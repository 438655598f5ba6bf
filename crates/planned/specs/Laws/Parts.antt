-- The elements and options that are listed from a half on: how many, one of them, a part of them, and the same listed elsewhere.
use Prim.Native.Nat.{ℕ, zero, suc, ◌+◌, ◌-◌, ◌<◌, ◌≤◌}
use Rattle.std.specs.Prelude.{◌≡◌, length, take, drop}
use Rattle.std.proofs.Math.Path.{refl, ap, ap₂}
use mathlib.Core.List.{List, [], ◌∷◌, ◌++◌}
use native.Mathlib.Omega.{arith}
use lib.ListN.{drop_of_length-le}
use Rattle.planned.specs.Layout.{half, element_of, option_of, elements_from, options_from, meaning}
use Rattle.planned.specs.List.{ListedIn}
use Rattle.planned.specs.declared.list.Listed.{Listed}

-- n halves stand from `to` on as they stood from `from` on.
pub record Copied (before after : List ℕ) (from to n : ℕ) : Type 0 where
  pub each : (i : ℕ) → i < n → half after (to + i) ≡ half before (from + i)

first_copied : {before after : List ℕ} {from to n : ℕ} → Copied before after from to (suc n) → half after to ≡ half before from
first_copied {from = from} {to} c =
    let e : to + 0 ≡ to = omega arith in
    let f : from + 0 ≡ from = omega arith in
    rw (e, f) at (c.each 0 (omega arith))

rest_copied : {before after : List ℕ} {from to n : ℕ} → Copied before after from to (suc n) → Copied before after (suc from) (suc to) n
rest_copied {from = from} {to} c =
    record {
      each = λ i h.
          let e : suc to + i ≡ to + suc i = omega arith in
          let f : suc from + i ≡ from + suc i = omega arith in
          rw (e, f) (c.each (suc i) (omega arith));
    }

module _ (ws : List ℕ) (end d : ℕ) where
  module _ {before after : List ℕ} where
    pub elements_copied : (n : ℕ) {from to : ℕ} → Copied before after from to n
        → elements_from ws end d after to n ≡ elements_from ws end d before from n
    unfolding elements_from
    elements_copied zero c = refl
    elements_copied (suc n) c = ap₂ ◌∷◌ (ap (element_of ws end d) (first_copied c)) (elements_copied n (rest_copied c))

    pub options_copied : (n : ℕ) {from to : ℕ} → Copied before after from to n
        → options_from ws end d after to n ≡ options_from ws end d before from n
    unfolding options_from
    options_copied zero c = refl
    options_copied (suc n) c = ap₂ ◌∷◌ (ap (option_of ws end d) (first_copied c)) (options_copied n (rest_copied c))

  module _ (bs : List ℕ) where
    pub elements_count : (at n : ℕ) → length (elements_from ws end d bs at n) ≡ n
    unfolding elements_from
    elements_count at zero = refl
    elements_count at (suc n) = ap suc (elements_count (suc at) n)

    pub options_count : (at n : ℕ) → length (options_from ws end d bs at n) ≡ n
    unfolding options_from
    options_count at zero = refl
    options_count at (suc n) = ap suc (options_count (suc at) n)

    -- Both runs of halves that make one.
    pub elements_append : (m at n : ℕ)
        → elements_from ws end d bs at (m + n) ≡ elements_from ws end d bs at m ++ elements_from ws end d bs (at + m) n
    unfolding elements_from
    elements_append zero at n = let e : at + 0 ≡ at = omega arith in let f : 0 + n ≡ n = omega arith in rw (e, f)
    elements_append (suc m) at n =
        let e : at + suc m ≡ suc at + m = omega arith in
        let f : suc m + n ≡ suc (m + n) = omega arith in
        rw (e, f) (ap (λ es. element_of ws end d (half bs at) ∷ es) (elements_append m (suc at) n))

    pub elements_take : (i at n : ℕ) → i ≤ n → take i (elements_from ws end d bs at n) ≡ elements_from ws end d bs at i
    unfolding elements_from
    elements_take zero at n h = refl
    elements_take (suc i) at zero h = absurd (omega arith)
    elements_take (suc i) at (suc n) h = ap (λ es. element_of ws end d (half bs at) ∷ es) (elements_take i (suc at) n (omega arith))

    pub elements_drop : (i at n : ℕ) → i ≤ n → drop i (elements_from ws end d bs at n) ≡ elements_from ws end d bs (at + i) (n - i)
    unfolding elements_from
    elements_drop zero at n h = let e : at + 0 ≡ at = omega arith in let f : n - 0 ≡ n = omega arith in rw (e, f)
    elements_drop (suc i) at zero h = absurd (omega arith)
    elements_drop (suc i) at (suc n) h =
        let e : at + suc i ≡ suc at + i = omega arith in
        let f : suc n - suc i ≡ n - i = omega arith in
        rw (e, f) (elements_drop i (suc at) n (omega arith))

    -- The element at an index.
    pub elements_at_lem : (i at n : ℕ) → i < n
        → drop i (elements_from ws end d bs at n) ≡ element_of ws end d (half bs (at + i)) ∷ drop (suc i) (elements_from ws end d bs at n)
    unfolding elements_from
    elements_at_lem i at zero h = absurd (omega arith)
    elements_at_lem zero at (suc n) h = let e : at + 0 ≡ at = omega arith in rw e
    elements_at_lem (suc i) at (suc n) h =
        let e : at + suc i ≡ suc at + i = omega arith in rw e (elements_at_lem i (suc at) n (omega arith))

    -- Those in front of an index, the one there, and those behind it.
    pub elements_around : (i at n : ℕ) → i < n
        → elements_from ws end d bs at n
        ≡ elements_from ws end d bs at i
        ++ (element_of ws end d (half bs (at + i)) ∷ elements_from ws end d bs (at + suc i) (n - suc i))
    unfolding elements_from
    elements_around i at zero h = absurd (omega arith)
    elements_around zero at (suc n) h =
        let e : at + 0 ≡ at = omega arith in
        let f : at + 1 ≡ suc at = omega arith in
        let g : suc n - 1 ≡ n = omega arith in
        rw (e, f, g)
    elements_around (suc i) at (suc n) h =
        let e : at + suc i ≡ suc at + i = omega arith in
        let f : at + suc (suc i) ≡ suc at + suc i = omega arith in
        let g : suc n - suc (suc i) ≡ n - suc i = omega arith in
        rw (e, f, g) (ap (λ es. element_of ws end d (half bs at) ∷ es) (elements_around i (suc at) n (omega arith)))

  -- The same record, listed elsewhere.
  pub meaning_copied : {before after : List ℕ} (x y : Listed) → y.slot ≡ x.slot → y.origin ≡ x.origin → y.ne ≡ x.ne → y.no ≡ x.no
      → Copied before after x.e y.e x.ne → Copied before after x.o y.o x.no
      → meaning ws end d after y ≡ meaning ws end d before x
  unfolding meaning
  meaning_copied x y s g k m e o = rw (s, g, k, m, elements_copied x.ne e, options_copied x.no o)

  pub listed_copied : {before after : List ℕ} (x y : Listed) → y.slot ≡ x.slot → y.origin ≡ x.origin → y.ne ≡ x.ne → y.no ≡ x.no
      → Copied before after x.e y.e x.ne → Copied before after x.o y.o x.no
      → ListedIn ws end d before x → ListedIn ws end d after y
  listed_copied x y s g k m e o t =
      record {
        head = rw (s, g) t.head;
        elements = λ i h. rw (e.each i (omega arith)) (t.elements i (omega arith));
        options = λ i h. rw (o.each i (omega arith)) (t.options i (omega arith));
      }

-- From their number on there are none.
pub no_steps_left : (ws : List ℕ) (end d : ℕ) (bs : List ℕ) (x : Listed) (i : ℕ) → x.ne ≤ i → drop i (meaning ws end d bs x).elements ≡ []
unfolding meaning
no_steps_left ws end d bs x i l =
    drop_of_length-le (meaning ws end d bs x).elements {i = i} (let c = elements_count ws end d bs x.e x.ne in omega arith)
