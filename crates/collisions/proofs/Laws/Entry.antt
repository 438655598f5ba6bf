-- A name more, as an entry of its own.
use Prim.Native.Nat.{ℕ, ◌+◌, ◌-◌, ◌%◌, ◌<◌, ◌≤◌}
use mathlib.Core.Path.{◌≡◌, sym, ap, ◌∙◌, subst}
use mathlib.Core.Logic.{◌⊎◌, inl, inr, ⊎_elim}
use mathlib.Core.List.{List}
use mathlib.Core.Bool.{Bool, true, false, false≢true}
use native.Mathlib.Omega.{arith}
use lib.ListN.{get_or}
use lib.Dec.{eqb}
use borrow.Author.Tests.{eqb-true, eqb-false}
use Rattle.std.proofs.lemmas.Bool.{cases_lt}
use Rattle.grammar.specs.Numbers.{most_words}
use Rattle.grammar.specs.Laws.Parse.{either}
use Rattle.collisions.specs.Names.{IsSet, most_entries, count_in, entry, has_bit, name_at, Ordered, NamePut}
use Rattle.collisions.specs.Order.{IsAt, Insertable, Inserted}
use Rattle.collisions.proofs.Laws.Few.{fewer}
use Rattle.collisions.proofs.Laws.Bits.{new_place, new_here, new_other}
use Rattle.collisions.proofs.Laws.More.{Has, More, more_put}

module _ {ws : List ℕ} {end : ℕ} {bs : List ℕ} (o : Ordered ws end bs) {at k : ℕ} {b : Bool} (a : IsAt ws bs (get_or ws at 0) k b) (f : b ≡ false)
    (some : 1 < at) (inside : at < end) where
  abbrev name : ℕ
  name = get_or ws at 0

  low : at < most_words
  low = let z = o.low in omega arith

  few : count_in bs < most_entries
  unfolding name_at
  few =
      fewer (λ i. entry bs i % most_words) (count_in bs) at most_entries o.some
      (λ i l. let z = o.within i l in let y = o.low in omega arith)
      (λ i j l m e. let z = o.rises i j l m in let y = ap (λ p. get_or ws p 0) e in omega arith)
      some (omega arith)
      (λ i l e.
      let y : name_at ws bs i ≡ name = ap (λ p. get_or ws p 0) e in
      ⊎_elim (λ h. let z = a.less f i h in omega arith) (λ h. let z = a.more f i h l in omega arith) (cases_lt i k))

  pub insertable : k ≤ count_in bs → Insertable bs k
  insertable l = record { long = o.long; first = o.first; order = o.order; last = o.last; few = few; within = l }

  module _ {w : ℕ} (s : IsSet w) (within : k ≤ count_in bs) {cs : List ℕ} (g : Inserted bs cs k (at + w)) where
    name_front : (i : ℕ) → i < k → name_at ws cs i ≡ name_at ws bs i
    unfolding name_at
    name_front i l = ap (λ h. get_or ws (h % most_words) 0) (g.front i l)

    place_here : entry cs k % most_words ≡ at
    place_here = ap (λ h. h % most_words) g.here ∙ new_place low s

    name_here : name_at ws cs k ≡ name
    unfolding name_at
    name_here = ap (λ p. get_or ws p 0) place_here

    name_moved : (i : ℕ) → k ≤ i → i < count_in bs → name_at ws cs (i + 1) ≡ name_at ws bs i
    unfolding name_at
    name_moved i l m = ap (λ h. get_or ws (h % most_words) 0) (g.moved i l m)

    -- In front of it, it, or behind it.
    data Spot (i : ℕ) : Type 0 where
      front : i < k → Spot i
      here : i ≡ k → Spot i
      behind : (j : ℕ) → i ≡ j + 1 → k ≤ j → j < count_in bs → Spot i

    spot : (i : ℕ) → i < count_in cs → Spot i
    spot i l =
        ⊎_elim front
        (λ h. either (eqb i k) (λ t. here (eqb-true i k t))
        (λ u. let z = eqb-false i k u in let c = g.count in behind (i - 1) (omega arith) (omega arith) (omega arith)))
        (cases_lt i k)

    place_at : (P : ℕ → Type 0) → P at → ((i : ℕ) → i < count_in bs → P (entry bs i % most_words)) → (i : ℕ) → i < count_in cs → P (entry cs i % most_words)
    place_at P p q i l = go (spot i l)
      where
        go : Spot i → P (entry cs i % most_words)
        go (front h) = subst P (sym (ap (λ x. x % most_words) (g.front i h))) (q i (omega arith))
        go (here e) = subst P (sym (ap (λ x. entry cs x % most_words) e ∙ place_here)) p
        go (behind j e h m) = subst P (sym (ap (λ x. entry cs x % most_words) e ∙ ap (λ x. x % most_words) (g.moved j h m))) (q j m)

    rises : (i j : ℕ) → i < j → j < count_in cs → name_at ws cs i < name_at ws cs j
    rises i j l m = go (spot i (omega arith)) (spot j m)
      where
        go : Spot i → Spot j → name_at ws cs i < name_at ws cs j
        go (front h) (front q) = let x = name_front i h in let y = name_front j q in let z = o.rises i j l (omega arith) in omega arith
        go (front h) (here e) =
            let x = name_front i h in let y = ap (name_at ws cs) e ∙ name_here in let z = a.less f i h in omega arith
        go (front h) (behind v e q c) =
            let x = name_front i h in
            let y = ap (name_at ws cs) e ∙ name_moved v q c in
            let z = o.rises i v (omega arith) c in
            omega arith
        go (here d) (front q) = absurd (omega arith)
        go (here d) (here e) = absurd (omega arith)
        go (here d) (behind v e q c) =
            let x = ap (name_at ws cs) d ∙ name_here in
            let y = ap (name_at ws cs) e ∙ name_moved v q c in
            let z = a.more f v q c in
            omega arith
        go (behind u d p t) (front q) = absurd (omega arith)
        go (behind u d p t) (here e) = absurd (omega arith)
        go (behind u d p t) (behind v e q c) =
            let x = ap (name_at ws cs) d ∙ name_moved u p t in
            let y = ap (name_at ws cs) e ∙ name_moved v q c in
            let z = o.rises u v (omega arith) c in
            omega arith

    ordered : Ordered ws end cs
    ordered =
        record {
          long = let l = g.list.long in let z = o.long in omega arith;
          low = o.low;
          first = g.first;
          order = g.order;
          last = g.last;
          some = place_at (λ p. 1 < p) some o.some;
          within = place_at (λ p. p < end) inside o.within;
          rises = rises;
        }

    more_entry : More ws bs cs w name
    more_entry =
        record {
          old = λ u v n (i, l, c, e).
              ⊎_elim
              (λ h. let y = g.count in (i, omega arith, ap (has_bit u) (g.front i h) ∙ c, name_front i h ∙ e))
              (λ h. let y = g.count in (i + 1, omega arith, ap (has_bit u) (g.moved i h l) ∙ c, name_moved i h l ∙ e))
              (cases_lt i k);
          new = let y = g.count in (k, omega arith, ap (has_bit w) g.here ∙ new_here low s, name_here);
          none = λ u v n (i, l, c, e). go u v n i c e (spot i l);
        }
      where
        go : (u : ℕ) → IsSet u → (n i : ℕ) → has_bit u (entry cs i) ≡ true → name_at ws cs i ≡ n → Spot i → Has ws bs u n ⊎ ((u ≡ w) × (n ≡ name))
        go u v n i c e (front h) = inl (i, omega arith, sym (ap (has_bit u) (g.front i h)) ∙ c, sym (name_front i h) ∙ e)
        go u v n i c e (here d) =
            inr (
              either (eqb u w) (eqb-true u w) (λ z.
                  absurd
                  (false≢true (sym (new_other low s v (eqb-false u w z)) ∙ sym (ap (λ x. has_bit u (entry cs x)) d ∙ ap (has_bit u) g.here) ∙ c))),
              sym e ∙ ap (name_at ws cs) d ∙ name_here,
            )
        go u v n i c e (behind j d h m) =
            inl
            (j, m, sym (ap (λ x. has_bit u (entry cs x)) d ∙ ap (has_bit u) (g.moved j h m)) ∙ c, sym (ap (name_at ws cs) d ∙ name_moved j h m) ∙ e)

    pub name_inserted : NamePut ws end bs cs w name
    name_inserted = more_put s (record { list = g.list; ordered = ordered }) more_entry
