-- The alternative in hand without one element, on the stack.
use Prim.Native.Nat.{ℕ, suc, ◌+◌, ◌-◌, ◌<◌}
use mathlib.Core.Path.{◌≡◌, ◌∙◌}
use mathlib.Core.Logic.{⊎_elim}
use mathlib.Core.List.{List}
use native.Mathlib.Omega.{arith}
use native.Mathlib.Numerals.{add-one}
use Rattle.std.proofs.lemmas.Bool.{cases_lt}
use Rattle.reference.specs.Substitute.{without}
use Rattle.planned.specs.Layout.{half, head_at, options_at, marked, record_at, elements_from, meaning}
use Rattle.planned.specs.List.{Laid, HasRoom, InHand, ListedIn}
use Rattle.planned.specs.Moves.{Grown}
use Rattle.planned.specs.Written.{Finished, CopiedWithout}
use Rattle.planned.specs.Split.{with_other, PushedAbsent}
use Rattle.planned.specs.Laws.Parts.{Copied, elements_copied, elements_append, elements_take, elements_drop}
use Rattle.planned.specs.Laws.Kept.{Outside, OneOn, with_top, one_laid, pushed_one}
use Rattle.planned.proofs.Laws.Placed.{means_other, Place, place_on, place_grown, placed}
use Rattle.planned.specs.declared.list.Sizes.{Sizes}
use Rattle.planned.specs.declared.list.Listed.{Listed}

module _ {b₀ b₁ b₂ : List ℕ} {l : Sizes} {x : Listed} {index k a e o : ℕ} (laid : Laid b₀ l) (w : Place l x k a e o) (one : x.ne ≡ k + 1)
    (few : index < x.ne) (slot-bare : x.slot < marked) (p : CopiedWithout b₀ b₁ x.e e x.ne index)
    (q : Finished b₁ b₂ x.slot x.origin k x.no x.o a o) where
  absent_front : Copied b₀ b₂ x.e e index
  absent_front = record { each = λ i h. q.front (e + i) (omega arith) ∙ p.here.each i h }

  absent_rest : Copied b₀ b₂ (x.e + (index + 1)) (e + index) (x.ne - (index + 1))
  absent_rest = record { each = λ i h. q.front (e + index + i) (omega arith) ∙ p.rest.each i h }

  absent_options : Copied b₀ b₂ x.o (options_at + o) x.no
  absent_options = record { each = λ i h. q.options.each i h ∙ p.behind (x.o + i) (omega arith) }

  absent_outside : Outside b₀ b₂ a (a + 1) e (e + k) o (o + x.no)
  absent_outside =
      record {
        heads = λ j h g m. ⊎_elim (λ t. q.front j t) (λ t. q.between j t (omega arith)) m ∙ p.behind j (omega arith);
        elements = λ j h m. q.front j (omega arith) ∙ ⊎_elim (λ t. p.front j t) (λ t. p.behind j (omega arith)) m;
        options = λ j h g m. ⊎_elim (λ t. q.between j (omega arith) t) (λ t. q.behind j t) m ∙ p.behind j (omega arith);
        long = q.long ∙ p.long;
      }

  absent_on : OneOn b₂ l a e o k x.no
  absent_on = place_on w q.ne_is q.no_is

  module _ (ws : List ℕ) (end d : ℕ) where
    absent_elements : elements_from ws end d b₂ e (half b₂ (head_at a + 2)) ≡ without index (elements_from ws end d b₀ x.e x.ne)
    absent_elements =
        let n : k ≡ index + (x.ne - suc index) = omega arith in
        let f = rw (add-one index) at absent_rest in
        rw (
          q.ne_is,
          n,
          elements_append ws end d b₂ index e (x.ne - suc index),
          elements_copied ws end d index absent_front,
          elements_copied ws end d (x.ne - suc index) f,
          elements_take ws end d b₀ index x.e x.ne (omega arith),
          elements_drop ws end d b₀ (suc index) x.e x.ne (omega arith),
        )

    absent_listed : ListedIn ws end d b₀ x → ListedIn ws end d b₂ (record_at b₂ a e o)
    absent_listed t =
        let n = q.ne_is in
        let m = q.no_is in
        record {
          head = rw (q.slot_is, q.origin_is) t.head;
          elements = λ i h.
              ⊎_elim (λ c. rw (absent_front.each i c) (t.elements i (omega arith)))
              (λ c.
              let u : e + i ≡ e + index + (i - index) = omega arith in
              let v : x.e + (index + 1) + (i - index) ≡ x.e + (i + 1) = omega arith in
              rw (u, absent_rest.each (i - index) (omega arith), v) (t.elements (i + 1) (omega arith)))
              (cases_lt i index);
          options = λ i h. rw (absent_options.each i (omega arith)) (t.options i (omega arith));
        }

    absent_means : meaning ws end d b₂ (record_at b₂ a e o)
        ≡ with_other (meaning ws end d b₀ x) (without index (elements_from ws end d b₀ x.e x.ne))
    absent_means =
        means_other ws end d x (record_at b₂ a e o) (without index (elements_from ws end d b₀ x.e x.ne)) slot-bare q.slot_is
        q.origin_is q.no_is absent_options absent_elements

  absent_pushed : Grown l (with_top l a e o) 1 (x.ne - 1) x.no → PushedAbsent b₀ b₂ l (with_top l a e o) x index
  unfolding meaning
  absent_pushed g =
      record {
        laid = one_laid laid absent_on absent_outside;
        is = λ ws end d t.
            rw (absent_means ws end d) at (pushed_one laid absent_on absent_outside ws end d (absent_listed ws end d t));
        grown = g;
        hand = record { same = λ j h. q.behind j (omega arith) ∙ p.behind j (omega arith); long = q.long ∙ p.long };
      }

pub pushed_absent : {b₀ b₁ b₂ : List ℕ} {l : Sizes} {x : Listed} {index : ℕ} → Laid b₀ l → InHand x → HasRoom l 1 (x.ne - 1) x.no
    → index < x.ne → x.slot < marked → CopiedWithout b₀ b₁ x.e (l.top.e - (x.ne - 1)) x.ne index
    → Finished b₁ b₂ x.slot x.origin (x.ne - 1) x.no x.o (l.top.a - 1) (l.top.o - x.no)
    → PushedAbsent b₀ b₂ l (with_top l (l.top.a - 1) (l.top.e - (x.ne - 1)) (l.top.o - x.no)) x index
pushed_absent g h r f s p q =
    let w = placed g h r (omega arith) in absent_pushed g w (omega arith) f s p q (place_grown w)
