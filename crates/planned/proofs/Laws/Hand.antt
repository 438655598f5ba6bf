-- An alternative that comes into the hand.
use Prim.Native.Nat.{ℕ, ◌+◌, ◌-◌, ◌<◌}
use mathlib.Core.Path.{◌≡◌, refl, ◌∙◌}
use mathlib.Core.List.{List}
use native.Mathlib.Omega.{arith}
use Rattle.planned.specs.Layout.{half, hand_at, hand_end}
use Rattle.planned.specs.Halves.{HalvesMoved}
use Rattle.planned.specs.List.{Laid, Located, Movable, InList}
use Rattle.planned.specs.Moves.{SameEnds, Handed}
use Rattle.planned.specs.Laws.Parts.{Copied, meaning_copied, listed_copied}
use Rattle.planned.specs.Laws.Kept.{kept}
use Rattle.planned.specs.declared.list.Sizes.{Sizes}
use Rattle.planned.specs.declared.list.Listed.{Listed}

module _ {l : Sizes} {x : Listed} (m : Movable l x) (i : InList x) where
  module _ {b₀ b₁ b₂ : List ℕ} (g : Located b₀ x) (p : HalvesMoved b₀ b₁ x.e (hand_end - x.ne) x.ne)
      (q : HalvesMoved b₁ b₂ x.o hand_at x.no) where
    abbrev hand : Listed
    hand = record { slot = x.slot; origin = x.origin; ne = x.ne; no = x.no; e = hand_end - x.ne; o = hand_at }

    elements_in_hand : Copied b₀ b₂ x.e (hand_end - x.ne) x.ne
    elements_in_hand = record { each = λ j h. q.behind (hand_end - x.ne + j) (omega arith) ∙ p.here j h }

    options_in_hand : Copied b₀ b₂ x.o hand_at x.no
    options_in_hand = record { each = λ j h. q.here j h ∙ p.front (x.o + j) (omega arith) }

    in_front : (j : ℕ) → j < hand_at → half b₂ j ≡ half b₀ j
    in_front j h = q.front j (omega arith) ∙ p.front j (omega arith)

    same_list : Laid b₀ l → SameEnds b₀ b₂ l l
    same_list laid =
        kept {a = l.out.a} {b = l.out.a} {x = l.out.e} {z = l.out.e} {y = l.out.o} {w = l.out.o} laid
        (record { out_a = omega arith; out_e = omega arith; out_o = omega arith; top_a = laid.out_a; top_e = laid.out_e; top_o = laid.out_o })
        (record {
          heads = λ j h k c. in_front j (omega arith);
          elements = λ j h c. in_front j (omega arith);
          options = λ j h k c. in_front j (omega arith);
          long = q.long ∙ p.long;
        })

    pub handed : Laid b₀ l → Handed b₀ b₂ l x hand
    handed laid =
        let u = p.long in
        let v = q.long in
        record {
          same = same_list;
          laid = (same_list laid).laid;
          meant = λ ws end d. meaning_copied ws end d x hand refl refl refl refl elements_in_hand options_in_hand;
          listed = λ ws end d. listed_copied ws end d x hand refl refl refl refl elements_in_hand options_in_hand;
          located = record { long = omega arith; elements = omega arith; options = omega arith };
          in_hand = record { elements = omega arith; options = refl; fit = omega arith };
          elements = refl;
          options = refl;
          long = q.long ∙ p.long;
        }

pub ruleset handing = (handed)
