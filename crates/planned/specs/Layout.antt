-- Where the planned list stands in the work area, counted in halves of 16 bits: elements, the heads of alternatives, options;
-- of each the front holds what is settled and the back a stack. Behind them is the alternative in hand.
use Rattle.std.specs.Prelude.{ℕ, zero, suc, ◌+◌, ◌-◌, ◌*◌, List, [], ◌∷◌, Bool, true, false, get_or, leb}
use Rattle.grammar.specs.Tree.{OptionDecl, unlabelled, epsilon, Element, leaf, Block}
use Rattle.grammar.specs.Parse.{got, bad}
use Rattle.grammar.specs.Read.{element_at, block_at}
use Rattle.reference.specs.Numbers.{most_alternatives, most_elements, most_options}
use Rattle.reference.specs.Substitute.{Planned, plain}
use Rattle.planned.specs.declared.list.Cursor.{Cursor}
use Rattle.planned.specs.declared.list.Sizes.{Sizes}
use Rattle.planned.specs.declared.list.Listed.{Listed}

-- The half at a place, low byte first.
unfoldable pub half : List ℕ → ℕ → ℕ
half bs at = get_or bs (2 * at) 0 + 256 * get_or bs (2 * at + 1) 0

-- A head has four halves: slot, origin, how many elements, how many options.
abbrev pub head_halves : ℕ
head_halves = 4

abbrev pub heads_at : ℕ
heads_at = most_elements

abbrev pub options_at : ℕ
options_at = heads_at + head_halves * most_alternatives

-- The alternative in hand has its options from the one place on and its elements up to the other.
abbrev pub hand_at : ℕ
hand_at = options_at + most_options

abbrev pub hand_halves : ℕ
hand_halves = most_elements + most_options

abbrev pub hand_end : ℕ
hand_end = hand_at + hand_halves

-- A place in the sheet, and this more where an element was made plain, or where a slot is filled by what always filled it.
abbrev pub marked : ℕ
marked = 32768

abbrev pub is_marked : ℕ → Bool
is_marked h = leb marked h

abbrev pub place_of : ℕ → ℕ
place_of h = elim (is_marked h) [ true ↦ h - marked | false ↦ h ]

abbrev pub made_if : {B : Type 0} → Bool → Element B → Element B
made_if true e = plain e
made_if false e = e

abbrev pub head_at : ℕ → ℕ
head_at a = heads_at + head_halves * a

-- The record whose head is the a-th, with its elements and options from two places on.
abbrev pub record_at : List ℕ → ℕ → ℕ → ℕ → Listed
record_at bs a x y =
    record {
      slot = half bs (head_at a);
      origin = half bs (head_at a + 1);
      ne = half bs (head_at a + 2);
      no = half bs (head_at a + 3);
      e = x;
      o = options_at + y;
    }

-- Where an alternative that begins at a place ends.
abbrev pub past : Cursor → Listed → Cursor
past c x = record { a = c.a + 1; e = c.e + x.ne; o = c.o + x.no }

module _ (ws : List ℕ) (end d : ℕ) where
  -- The element that stands at a place; what it is where none stands does not matter.
  unfoldable pub standing : ℕ → Element (Block d)
  standing at =
      elim (element_at ws end (block_at ws end d) at) [
        | got e q ↦ e
        | bad ↦ leaf (record { id = 0; carried = 0; quantifier = 0; label = unlabelled; options = [] }) epsilon
      ]

  unfoldable pub element_of : ℕ → Element (Block d)
  element_of h = made_if (is_marked h) (standing (place_of h))

  abbrev pub option_of : ℕ → OptionDecl
  option_of h = record { name = get_or ws h 0; value = get_or ws (h + 1) 0 }

  module _ (bs : List ℕ) where
    -- n elements, or options, listed from a half on.
    unfoldable pub elements_from : (at n : ℕ) → List (Element (Block d))
    elements_from at zero = []
    elements_from at (suc n) = element_of (half bs at) ∷ elements_from (suc at) n

    unfoldable pub options_from : (at n : ℕ) → List OptionDecl
    options_from at zero = []
    options_from at (suc n) = option_of (half bs at) ∷ options_from (suc at) n

    -- What a record means. Carried number and flag are those of the slot.
    unfoldable pub meaning : Listed → Planned d
    meaning x =
        record {
          carried = get_or ws (place_of x.slot + 1) 0;
          flag = get_or ws (place_of x.slot + 2) 0;
          options = options_from x.o x.no;
          origin = get_or ws x.origin 0;
          elements = elements_from x.e x.ne;
          verbatim = is_marked x.slot;
        }

    -- n records from the a-th on.
    unfoldable pub records_from : (n a x y : ℕ) → List (Planned d)
    records_from zero a x y = []
    records_from (suc n) a x y =
        meaning (record_at bs a x y) ∷ records_from n (suc a) (x + half bs (head_at a + 2)) (y + half bs (head_at a + 3))

    unfoldable pub settled : Sizes → List (Planned d)
    settled l = records_from l.out.a 0 0 0

    -- The top comes first.
    unfoldable pub stack : Sizes → List (Planned d)
    stack l = records_from (most_alternatives - l.top.a) l.top.a l.top.e l.top.o
