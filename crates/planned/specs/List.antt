-- When the work area holds a planned list, and what is asked of an alternative that is listed there.
use Rattle.std.specs.Prelude.{ℕ, zero, suc, ◌+◌, ◌-◌, ◌%◌, ◌<◌, ◌≤◌, ◌≡◌, ◌⊎◌}
use Rattle.std.specs.Prelude.{List, ◌∷◌, Bool, true, length, get_or, drop}
use Rattle.grammar.specs.Numbers.{work_bytes, most_words, call_kind, kind_end}
use Rattle.grammar.specs.Tree.{Element, Block}
use Rattle.grammar.specs.Found.{FoundElement, FoundAlternative, ElementSpans}
use Rattle.reference.specs.Numbers.{most_alternatives, most_elements, most_options}
use Rattle.planned.specs.Layout.{half, head_at, options_at, hand_at, hand_halves, hand_end, is_marked, place_of, made_if}
use Rattle.planned.specs.declared.list.Sizes.{Sizes}
use Rattle.planned.specs.declared.list.Listed.{Listed}

-- How many alternatives, elements and options are in the list.
abbrev pub alternatives_in : Sizes → ℕ
alternatives_in l = l.out.a + (most_alternatives - l.top.a)

abbrev pub elements_in : Sizes → ℕ
elements_in l = l.out.e + (most_elements - l.top.e)

abbrev pub options_in : Sizes → ℕ
options_in l = l.out.o + (most_options - l.top.o)

-- As much can still come.
pub record HasRoom (l : Sizes) (a e o : ℕ) : Type 0 where
  pub alternatives : alternatives_in l + a ≤ most_alternatives
  pub elements : elements_in l + e ≤ most_elements
  pub options : options_in l + o ≤ most_options

-- The elements and options that n heads from the a-th on speak of.
unfoldable pub elements_of : List ℕ → (n a : ℕ) → ℕ
elements_of bs zero a = 0
elements_of bs (suc n) a = half bs (head_at a + 2) + elements_of bs n (suc a)

unfoldable pub options_of : List ℕ → (n a : ℕ) → ℕ
options_of bs zero a = 0
options_of bs (suc n) a = half bs (head_at a + 3) + options_of bs n (suc a)

-- Both ends stay apart, and the heads speak of what stands there.
pub record Laid (bs : List ℕ) (l : Sizes) : Type 0 where
  pub long : work_bytes ≤ length bs
  pub out_a : l.out.a ≤ l.top.a
  pub out_e : l.out.e ≤ l.top.e
  pub out_o : l.out.o ≤ l.top.o
  pub top_a : l.top.a ≤ most_alternatives
  pub top_e : l.top.e ≤ most_elements
  pub top_o : l.top.o ≤ most_options
  pub settled_e : elements_of bs l.out.a 0 ≡ l.out.e
  pub settled_o : options_of bs l.out.a 0 ≡ l.out.o
  pub stack_e : l.top.e + elements_of bs (most_alternatives - l.top.a) l.top.a ≡ most_elements
  pub stack_o : l.top.o + options_of bs (most_alternatives - l.top.a) l.top.a ≡ most_options

-- The stack is not empty.
pub record HasTop (l : Sizes) : Type 0 where
  pub some : l.top.a < most_alternatives

-- A record whose parts stand in the area of the list.
pub record Located (bs : List ℕ) (x : Listed) : Type 0 where
  pub long : work_bytes ≤ length bs
  pub elements : x.e + x.ne ≤ hand_end
  pub options : x.o + x.no ≤ hand_end

-- It may be put behind what is settled, or into the hand: its parts stand behind both ends' fronts.
pub record Movable (l : Sizes) (x : Listed) : Type 0 where
  pub elements : l.out.e ≤ x.e
  pub options : options_at + l.out.o ≤ x.o
  pub few_elements : x.ne ≤ most_elements
  pub few_options : x.no ≤ most_options

-- Its parts stand in the list and not in the hand.
pub record InList (x : Listed) : Type 0 where
  pub elements : x.e + x.ne ≤ most_elements
  pub options : x.o + x.no ≤ hand_at

-- It is in hand.
pub record InHand (x : Listed) : Type 0 where
  pub elements : x.e + x.ne ≡ hand_end
  pub options : x.o ≡ hand_at
  pub fit : x.ne + x.no ≤ hand_halves

module _ (ws : List ℕ) (end d : ℕ) where
  -- A half that stands for an element: one stands there, and only a call is made plain.
  pub record ElementIn (h : ℕ) : Type 0 where
    pub found : FoundElement ws end d (place_of h)
    pub low : place_of h < most_words
    pub plain : is_marked h ≡ true → get_or ws (place_of h + 2) 0 % kind_end ≡ call_kind

  -- Slot and origin are places of alternatives.
  pub record HeadIn (slot origin : ℕ) : Type 0 where
    pub slot_found : FoundAlternative ws end d (place_of slot)
    pub origin_found : FoundAlternative ws end d origin
    pub low : place_of slot < most_words
    pub origin_low : origin < most_words

  module _ (bs : List ℕ) where
    -- What a record speaks of stands in the sheet.
    pub record ListedIn (x : Listed) : Type 0 where
      pub head : HeadIn x.slot x.origin
      pub elements : (i : ℕ) → i < x.ne → ElementIn (half bs (x.e + i))
      pub options : (i : ℕ) → i < x.no → half bs (x.o + i) + 2 ≤ end

    -- So it is for all records of the list.
    pub record AllIn (l : Sizes) : Type 0 where
      pub heads : (a : ℕ) → a < most_alternatives → (a < l.out.a) ⊎ (l.top.a ≤ a) → HeadIn (half bs (head_at a)) (half bs (head_at a + 1))
      pub elements : (i : ℕ) → i < most_elements → (i < l.out.e) ⊎ (l.top.e ≤ i) → ElementIn (half bs i)
      pub options : (i : ℕ) → i < most_options → (i < l.out.o) ⊎ (l.top.o ≤ i) → half bs (options_at + i) + 2 ≤ end

-- The i-th of several elements stands at a place, and was made plain or not.
pub record ItemAt (ws : List ℕ) (end d : ℕ) (es : List (Element (Block d))) (i at : ℕ) (made : Bool) : Type 0 where
  pub found : FoundElement ws end d at
  pub call : made ≡ true → get_or ws (at + 2) 0 % kind_end ≡ call_kind
  pub here : (e : Element (Block d)) (q : ℕ) → ElementSpans ws end d at e q → drop i es ≡ made_if made e ∷ drop (i + 1) es

-- The element at an index of a record is a call.
pub record CallAt (ws bs : List ℕ) (x : Listed) (i : ℕ) : Type 0 where
  pub kind : get_or ws (place_of (half bs (x.e + i)) + 2) 0 % kind_end ≡ call_kind

-- The area of the list is as it was; what stands behind it may be anything.
pub record SameList (before after : List ℕ) : Type 0 where
  pub long : length after ≡ length before
  pub halves : (j : ℕ) → j < hand_end → half after j ≡ half before j
