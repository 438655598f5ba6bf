-- An element drawn as it stands, or made plain.
use Rattle.std.specs.Prelude.{ℕ, ◌+◌, ◌*◌, ◌-◌, ◌%◌, ◌≤◌, ◌≡◌, List, ◌∷◌, Bool, true, false, length, get_or, take, drop}
use Rattle.grammar.specs.Numbers.{call_kind, kind_end}
use Rattle.grammar.specs.Tree.{Element, Block}
use Rattle.grammar.specs.Encode.{encode_element, encode_block}
use Rattle.grammar.specs.Found.{FoundElement, ElementSpans}
use Rattle.planned.specs.Layout.{made_if}
use Rattle.writing.specs.Wrote.{Wrote}

-- The words of an element that stands from a place up to a place; made plain it has another kind.
pub record SpanCopied (ws : List ℕ) (at q : ℕ) (made : Bool) (to : ℕ) (before after : List ℕ) (r : ℕ) : Type 0 where
  pub same : made ≡ false → Wrote before after to (take (q - at) (drop at ws))
  pub plain : made ≡ true
      → Wrote before after to (get_or ws at 0 ∷ get_or ws (at + 1) 0 ∷ call_kind ∷ take (q - at - 3) (drop (at + 3) ws))
  pub ends : r ≡ to + (q - at)

module _ (ws : List ℕ) (end d at : ℕ) (made : Bool) where
  -- An element stands at a place, and it is a call where it was made plain.
  pub record ItemThere : Type 0 where
    pub found : FoundElement ws end d at
    pub call : made ≡ true → get_or ws (at + 2) 0 % kind_end ≡ call_kind

  -- There is room for its words.
  pub record SameFits (to : ℕ) (out : List ℕ) : Type 0 where
    pub fits : (e : Element (Block d)) (q : ℕ) → ElementSpans ws end d at e q
        → 4 * (to + length (encode_element (encode_block d) (made_if made e))) ≤ length out

  -- They are written, up to a place.
  pub record SameCopied (to : ℕ) (before after : List ℕ) (r : ℕ) : Type 0 where
    pub wrote : (e : Element (Block d)) (q : ℕ) → ElementSpans ws end d at e q
        → Wrote before after to (encode_element (encode_block d) (made_if made e))
    pub ends : (e : Element (Block d)) (q : ℕ) → ElementSpans ws end d at e q
        → r ≡ to + length (encode_element (encode_block d) (made_if made e))
