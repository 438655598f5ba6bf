-- Where an alternative made of the one in hand comes on the stack, and what it means there.
use Prim.Native.Nat.{ℕ, ◌+◌, ◌-◌, ◌<◌, ◌≤◌}
use mathlib.Core.Path.{◌≡◌}
use mathlib.Core.List.{List}
use native.Mathlib.Omega.{arith}
use Rattle.grammar.specs.Tree.{Element, Block}
use Rattle.reference.specs.Numbers.{most_alternatives, most_elements, most_options}
use Rattle.planned.specs.Layout.{half, head_at, hand_at, marked, elements_from, meaning}
use Rattle.planned.specs.List.{Laid, HasRoom, InHand}
use Rattle.planned.specs.Moves.{Grown}
use Rattle.planned.specs.Split.{with_other}
use Rattle.planned.specs.Laws.Parts.{Copied, options_copied}
use Rattle.planned.specs.Laws.Items.{unmarked}
use Rattle.planned.specs.Laws.Kept.{OneOn, with_top}
use Rattle.planned.specs.declared.list.Sizes.{Sizes}
use Rattle.planned.specs.declared.list.Listed.{Listed}

-- In the slot of a record, with its options, stand other elements.
pub means_other : (ws : List ℕ) (end d : ℕ) {before after : List ℕ} (x y : Listed) (es : List (Element (Block d))) → x.slot < marked
    → y.slot ≡ x.slot → y.origin ≡ x.origin → y.no ≡ x.no → Copied before after x.o y.o x.no
    → elements_from ws end d after y.e y.ne ≡ es → meaning ws end d after y ≡ with_other (meaning ws end d before x) es
unfolding meaning
means_other ws end d x y es l s g m o e = rw (s, g, m, e, options_copied ws end d x.no o, unmarked l)

-- Where a record of n elements and the options of one in hand comes on the stack.
pub record Place (l : Sizes) (x : Listed) (n a e o : ℕ) : Type 0 where
  pub out_a : l.out.a ≤ a
  pub out_e : l.out.e ≤ e
  pub out_o : l.out.o ≤ o
  pub head : a + 1 ≡ l.top.a
  pub elements : e + n ≡ l.top.e
  pub options : o + x.no ≡ l.top.o
  pub top_a : l.top.a ≤ most_alternatives
  pub top_e : l.top.e ≤ most_elements
  pub top_o : l.top.o ≤ most_options
  pub hand_e : hand_at ≤ x.e
  pub hand_o : hand_at ≤ x.o

pub place_on : {bs : List ℕ} {l : Sizes} {x : Listed} {n a e o : ℕ} → Place l x n a e o → half bs (head_at a + 2) ≡ n
    → half bs (head_at a + 3) ≡ x.no → OneOn bs l a e o n x.no
place_on w k m =
    record {
      out_a = w.out_a;
      out_e = w.out_e;
      out_o = w.out_o;
      head = w.head;
      elements = w.elements;
      options = w.options;
      ne_is = k;
      no_is = m;
    }

pub place_grown : {l : Sizes} {x : Listed} {n a e o : ℕ} → Place l x n a e o → Grown l (with_top l a e o) 1 n x.no
place_grown w = record { alternatives = omega arith; elements = omega arith; options = omega arith }

pub placed : {bs : List ℕ} {l : Sizes} {x : Listed} {n : ℕ} → Laid bs l → InHand x → HasRoom l 1 n x.no → x.ne ≤ n + 1
    → Place l x n (l.top.a - 1) (l.top.e - n) (l.top.o - x.no)
placed g h r k =
    record {
      out_a = omega arith;
      out_e = omega arith;
      out_o = omega arith;
      head = omega arith;
      elements = omega arith;
      options = omega arith;
      top_a = g.top_a;
      top_e = g.top_e;
      top_o = g.top_o;
      hand_e = omega arith;
      hand_o = omega arith;
    }
