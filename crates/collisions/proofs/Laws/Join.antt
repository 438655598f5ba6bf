-- A name more, as a bit of the entry that has it.
use Prim.Native.Nat.{ℕ, ◌+◌, ◌%◌, ◌<◌}
use mathlib.Core.Path.{◌≡◌, sym, ap, ◌∙◌}
use mathlib.Core.Logic.{inl, inr}
use mathlib.Core.List.{List}
use mathlib.Core.Bool.{Bool, true}
use native.Mathlib.Omega.{arith}
use lib.ListN.{get_or}
use lib.Dec.{eqb}
use borrow.Author.Tests.{eqb-true, eqb-false}
use Rattle.grammar.specs.Numbers.{most_words}
use Rattle.grammar.specs.Laws.Parse.{either}
use Rattle.planned.specs.Layout.{half, hand_end}
use Rattle.planned.specs.Halves.{HalfPut}
use Rattle.collisions.specs.Names.{IsSet, low_in, high_in, count_in, entry, has_bit, name_at, Ordered, NamePut}
use Rattle.collisions.specs.Order.{IsAt, Joined}
use Rattle.collisions.proofs.Laws.More.{More, more_put}

module _ {ws : List ℕ} {end : ℕ} {bs : List ℕ} (o : Ordered ws end bs) {name k : ℕ} {b : Bool} (a : IsAt ws bs name k b) (t : b ≡ true)
    {w : ℕ} (s : IsSet w) {h r : ℕ} (e : h ≡ entry bs k) (j : Joined h w r) {at : ℕ} (is : at ≡ low_in bs + k) {cs : List ℕ} (p : HalfPut bs cs at r) where
  inside : k < count_in bs
  inside = a.found t

  same_low : low_in cs ≡ low_in bs
  same_low = p.other hand_end (λ z. let y = o.first in omega arith)

  same_high : high_in cs ≡ high_in bs
  same_high = p.other (hand_end + 1) (λ z. let y = o.first in omega arith)

  same_count : count_in cs ≡ count_in bs
  same_count = let x = same_low in let y = same_high in omega arith

  entry_other : (i : ℕ) → (i ≡ k → ⊥) → entry cs i ≡ entry bs i
  entry_other i d = ap (λ x. half cs (x + i)) same_low ∙ p.other (low_in bs + i) (λ z. d (omega arith))

  entry_here : entry cs k ≡ r
  entry_here = ap (λ x. half cs (x + k)) same_low ∙ ap (half cs) (sym is) ∙ p.here

  places : (i : ℕ) → entry cs i % most_words ≡ entry bs i % most_words
  places i =
      either (eqb i k)
      (λ u.
      let z = eqb-true i k u in
      rw z (ap (λ x. x % most_words) entry_here ∙ j.place ∙ ap (λ x. x % most_words) e))
      (λ u. ap (λ x. x % most_words) (entry_other i (eqb-false i k u)))

  names : (i : ℕ) → name_at ws cs i ≡ name_at ws bs i
  unfolding name_at
  names i = ap (λ x. get_or ws x 0) (places i)

  ordered_joined : Ordered ws end cs
  ordered_joined =
      record {
        long = let l = p.long in let z = o.long in omega arith;
        low = o.low;
        first = let x = same_low in let y = o.first in omega arith;
        order = let x = same_low in let y = same_high in let z = o.order in omega arith;
        last = let y = same_high in let z = o.last in omega arith;
        some = λ i l. let c = same_count in let x = places i in let z = o.some i (omega arith) in omega arith;
        within = λ i l. let c = same_count in let x = places i in let z = o.within i (omega arith) in omega arith;
        rises = λ i v l m. let c = same_count in let x = names i in let y = names v in let z = o.rises i v l (omega arith) in omega arith;
      }

  more_bit : More ws bs cs w name
  more_bit =
      record {
        old = λ u v n (i, l, c, d). (
          i,
          (let y = same_count in omega arith),
          either (eqb i k)
              (λ z.
              let q = eqb-true i k z in
              ap (λ x. has_bit u (entry cs x)) q ∙ ap (has_bit u) entry_here
              ∙ either (eqb u w) (λ y. ap (λ x. has_bit x r) (eqb-true u w y) ∙ j.here)
              (λ y. j.other u v (eqb-false u w y) ∙ ap (has_bit u) e ∙ ap (λ x. has_bit u (entry bs x)) (sym q) ∙ c))
              (λ z. ap (has_bit u) (entry_other i (eqb-false i k z)) ∙ c),
          names i ∙ d,
        );
        new = (k, (let x = inside in let y = same_count in omega arith), ap (has_bit w) entry_here ∙ j.here, names k ∙ a.is t);
        none = λ u v n (i, l, c, d).
            either (eqb i k)
            (λ z.
            let q = eqb-true i k z in
            either (eqb u w) (λ y. inr (eqb-true u w y, sym d ∙ names i ∙ ap (name_at ws bs) q ∙ a.is t))
            (λ y.
            inl (
              i,
              (let y = same_count in omega arith),
              (ap (λ x. has_bit u (entry bs x)) q ∙ ap (has_bit u) (sym e) ∙ sym (j.other u v (eqb-false u w y)) ∙ ap (has_bit u) (sym entry_here)
                  ∙ ap (λ x. has_bit u (entry cs x)) (sym q) ∙ c),
              sym (names i) ∙ d,
            )))
            (λ z.
            inl
            (i, (let y = same_count in omega arith), sym (ap (has_bit u) (entry_other i (eqb-false i k z))) ∙ c, sym (names i) ∙ d));
      }

  pub name_joined : NamePut ws end bs cs w name
  name_joined =
      more_put s
      (record {
        list = record { long = p.long; halves = λ i l. p.other i (λ z. let y = o.first in omega arith) };
        ordered = ordered_joined;
      })
      more_bit
