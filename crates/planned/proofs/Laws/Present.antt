-- The alternative in hand with one element made plain, on the stack.
use Prim.Native.Nat.{ℕ, suc, ◌+◌, ◌-◌, ◌<◌, ◌≤◌}
use mathlib.Core.Path.{◌≡◌, refl, sym, ◌∙◌}
use mathlib.Core.Logic.{◌⊎◌, inr, ⊎_elim}
use mathlib.Core.List.{List}
use mathlib.Core.Bool.{Bool, true, false}
use native.Mathlib.Omega.{arith}
use Rattle.std.proofs.lemmas.Bool.{cases_lt}
use Rattle.grammar.specs.Tree.{Element, leaf, block, Block}
use Rattle.reference.specs.Substitute.{plain, with_plain}
use Rattle.planned.specs.Layout.{half, head_at, options_at, marked, is_marked, place_of, made_if, standing, element_of, record_at}
use Rattle.planned.specs.Layout.{elements_from, meaning}
use Rattle.planned.specs.Halves.{HalfPut}
use Rattle.planned.specs.List.{Laid, HasRoom, InHand, ElementIn, ListedIn, CallAt}
use Rattle.planned.specs.Written.{Writable, Wrote}
use Rattle.planned.specs.Split.{MadePlain, WrotePresent, with_other, PushedPresent}
use Rattle.planned.specs.Laws.Parts.{Copied, elements_copied, elements_around, elements_take, elements_drop, elements_at_lem}
use Rattle.planned.specs.Laws.Kept.{OneOn, with_top, one_laid, pushed_one}
use Rattle.planned.proofs.Laws.Placed.{means_other, Place, place_on, place_grown, placed}
use Rattle.planned.specs.declared.list.Sizes.{Sizes}
use Rattle.planned.specs.declared.list.Listed.{Listed}

-- To make plain what was made plain changes nothing.
plain_made : {B : Type 0} (b : Bool) (e : Element B) → plain (made_if b e) ≡ plain e
unfolding plain
plain_made false e = refl
plain_made true (leaf h l) = refl
plain_made true (block h b) = refl

made_plain : (ws : List ℕ) (end d : ℕ) {h v : ℕ} → MadePlain h v → element_of ws end d v ≡ plain (element_of ws end d h)
unfolding element_of
made_plain ws end d {h} m = rw (m.made, m.place) (sym (plain_made (is_marked h) (standing ws end d (place_of h))))

-- A record is written, and the half of one of its elements.
module _ {b₀ b₁ b₂ : List ℕ} {x : Listed} {index a e o c v : ℕ} (w : Writable x a e o) (few : index < x.ne)
    (is : c ≡ half b₀ (x.e + index)) (made : MadePlain c v) (p : Wrote b₀ b₁ x a e o) (q : HalfPut b₁ b₂ (e + index) v) where
  -- What is not among the elements is as it was written.
  present_else : (j : ℕ) → (j < e) ⊎ (e + x.ne ≤ j) → half b₂ j ≡ half b₁ j
  present_else j m = q.other j (λ z. ⊎_elim (λ t. omega arith) (λ t. omega arith) m)

  pub wrote_present : WrotePresent b₀ b₂ x index a e o
  wrote_present =
      record {
        slot_is = present_else (head_at a) (inr (omega arith)) ∙ p.slot_is;
        origin_is = present_else (head_at a + 1) (inr (omega arith)) ∙ p.origin_is;
        ne_is = present_else (head_at a + 2) (inr (omega arith)) ∙ p.ne_is;
        no_is = present_else (head_at a + 3) (inr (omega arith)) ∙ p.no_is;
        made = rw (q.here, ← is) made;
        other = λ i h n. q.other (e + i) (λ z. n (omega arith)) ∙ p.elements.each i h;
        options = record { each = λ i h. present_else (options_at + o + i) (inr (omega arith)) ∙ p.options.each i h };
        outside = record {
          heads = λ j h g m. present_else j (inr (omega arith)) ∙ p.outside.heads j h g m;
          elements = λ j h m. present_else j m ∙ p.outside.elements j h m;
          options = λ j h g m. present_else j (inr (omega arith)) ∙ p.outside.options j h g m;
          long = q.long ∙ p.outside.long;
        };
        hand = λ j h. present_else j (inr (omega arith)) ∙ p.hand j h;
      }

module _ {b₀ b₂ : List ℕ} {l : Sizes} {x : Listed} {index a e o : ℕ} (laid : Laid b₀ l) (w : Place l x x.ne a e o)
    (few : index < x.ne) (slot-bare : x.slot < marked) (p : WrotePresent b₀ b₂ x index a e o) where
  present_on : OneOn b₂ l a e o x.ne x.no
  present_on = place_on w p.ne_is p.no_is

  present_front : Copied b₀ b₂ x.e e index
  present_front = record { each = λ i h. p.other i (omega arith) (λ z. omega arith) }

  present_rest : Copied b₀ b₂ (x.e + suc index) (e + suc index) (x.ne - suc index)
  present_rest =
      record {
        each = λ i h.
            let u : e + suc index + i ≡ e + (suc index + i) = omega arith in
            let v : x.e + suc index + i ≡ x.e + (suc index + i) = omega arith in
            rw (u, v) (p.other (suc index + i) (omega arith) (λ z. omega arith));
      }

  module _ (ws : List ℕ) (end d : ℕ) where
    abbrev old : List (Element (Block d))
    old = elements_from ws end d b₀ x.e x.ne

    present_elements : elements_from ws end d b₂ e (half b₂ (head_at a + 2)) ≡ with_plain index old
    present_elements =
        rw (
          p.ne_is,
          elements_around ws end d b₂ index e x.ne few,
          elements_copied ws end d index present_front,
          made_plain ws end d p.made,
          elements_copied ws end d (x.ne - suc index) present_rest,
          elements_take ws end d b₀ index x.e x.ne (omega arith),
          elements_at_lem ws end d b₀ index x.e x.ne few,
          elements_drop ws end d b₀ (suc index) x.e x.ne few,
        )

    present_element : ElementIn ws end d (half b₀ (x.e + index)) → CallAt ws b₀ x index → ElementIn ws end d (half b₂ (e + index))
    present_element t c =
        record {
          found = rw p.made.place t.found;
          low = rw p.made.place t.low;
          plain = λ z. rw p.made.place c.kind;
        }

    present_listed : ListedIn ws end d b₀ x → CallAt ws b₀ x index → ListedIn ws end d b₂ (record_at b₂ a e o)
    present_listed t c =
        let n = p.ne_is in
        let m = p.no_is in
        record {
          head = rw (p.slot_is, p.origin_is) t.head;
          elements = λ i h.
              ⊎_elim (λ z. rw (p.other i (omega arith) (λ y. omega arith)) (t.elements i (omega arith)))
              (λ z. ⊎_elim (λ y. rw (p.other i (omega arith) (λ u. omega arith)) (t.elements i (omega arith)))
              (λ y. let u : i ≡ index = omega arith in rw u (present_element (t.elements index few) c)) (cases_lt index i))
              (cases_lt i index);
          options = λ i h. rw (p.options.each i (omega arith)) (t.options i (omega arith));
        }

    present_means : meaning ws end d b₂ (record_at b₂ a e o) ≡ with_other (meaning ws end d b₀ x) (with_plain index old)
    present_means =
        means_other ws end d x (record_at b₂ a e o) (with_plain index old) slot-bare p.slot_is p.origin_is p.no_is p.options
        present_elements

  present_pushed : PushedPresent b₀ b₂ l (with_top l a e o) x index
  unfolding meaning
  present_pushed =
      record {
        laid = one_laid laid present_on p.outside;
        is = λ ws end d t c.
            rw (present_means ws end d) at (pushed_one laid present_on p.outside ws end d (present_listed ws end d t c));
        grown = place_grown w;
        hand = record {
          same = p.hand;
          long = p.outside.long;
        };
      }

module _ {b₀ : List ℕ} {l : Sizes} {x : Listed} (g : Laid b₀ l) (h : InHand x) (r : HasRoom l 1 x.ne x.no) where
  pub present_writable : Writable x (l.top.a - 1) (l.top.e - x.ne) (l.top.o - x.no)
  present_writable = go (placed g h r (omega arith))
    where
      go : {a e o : ℕ} → Place l x x.ne a e o → Writable x a e o
      go w =
          record {
            head = omega arith;
            elements = omega arith;
            options = omega arith;
            behind = omega arith;
          }

  pub pushed_present : {b₂ : List ℕ} {index : ℕ} → index < x.ne → x.slot < marked
      → WrotePresent b₀ b₂ x index (l.top.a - 1) (l.top.e - x.ne) (l.top.o - x.no)
      → PushedPresent b₀ b₂ l (with_top l (l.top.a - 1) (l.top.e - x.ne) (l.top.o - x.no)) x index
  pushed_present f s p = present_pushed g (placed g h r (omega arith)) f s p
