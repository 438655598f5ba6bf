-- The places of elements and of options, written half by half.
use Rattle.std.specs.Prelude.{ℕ, ◌+◌, ◌*◌, ◌<◌, ◌≤◌, ◌≡◌, List, length, get_or}
use Rattle.grammar.specs.Tree.{Element, Block}
use Rattle.grammar.specs.Encode.{encode_element, encode_block}
use Rattle.grammar.specs.Valid.{ok_element, ok_block}
use Rattle.grammar.specs.Lists.{each, all}
use Rattle.grammar.specs.Stands.{Spans}
use Rattle.grammar.specs.Found.{AlternativeAt}
use Rattle.planned.specs.Layout.{half, elements_from}
use Rattle.planned.specs.List.{ElementIn}

module _ (ws : List ℕ) (end d : ℕ) where
  abbrev pub ElementsSpan : ℕ → List (Element (Block d)) → ℕ → Type 0
  ElementsSpan = Spans ws end (each (encode_element (encode_block d))) (all (ok_element (ok_block d)))

  -- The places of the n elements that stand from `at` on, in n halves from `to` on. The elements end at r.
  pub record PlacesPut (n at : ℕ) (before after : List ℕ) (to r : ℕ) : Type 0 where
    pub meant : (es : List (Element (Block d))) (q : ℕ) → ElementsSpan at es q → length es ≡ n → elements_from ws end d after to n ≡ es
    pub elements : (i : ℕ) → i < n → ElementIn ws end d (half after (to + i))
    pub passed : (es : List (Element (Block d))) (q : ℕ) → ElementsSpan at es q → length es ≡ n → r ≡ q
    pub within : r ≤ end
    pub front : (j : ℕ) → j < to → half after j ≡ half before j
    pub behind : (j : ℕ) → to + n ≤ j → half after j ≡ half before j
    pub long : length after ≡ length before

-- The places of n options of two words that stand from `at` on, in n halves from `to` on.
pub record OptionPlacesPut (n at : ℕ) (before after : List ℕ) (to : ℕ) : Type 0 where
  pub here : (i : ℕ) → i < n → half after (to + i) ≡ at + 2 * i
  pub front : (j : ℕ) → j < to → half after j ≡ half before j
  pub behind : (j : ℕ) → to + n ≤ j → half after j ≡ half before j
  pub long : length after ≡ length before

-- The alternative at a place has n options; they are in the sheet.
pub record OptionCount (ws : List ℕ) (end at n : ℕ) : Type 0 where
  pub is : n ≡ get_or ws (at + 3) 0
  pub room : at + 5 + 2 * n ≤ end

-- How many elements and options it has: an element has six words and more, an option two.
pub record PartsAt (ws : List ℕ) (end at count ne no first : ℕ) : Type 0 where
  pub elements : AlternativeAt ws end at count first
  pub same : ne ≡ count
  pub options : OptionCount ws end at no
  pub room : at + 5 + 2 * no + 6 * ne ≤ end
