-- What the alternative in hand is split into, each put on the stack by itself.
use Rattle.std.specs.Prelude.{ℕ, ◌+◌, ◌-◌, ◌<◌, ◌≤◌, ◌≡◌, List, [], ◌∷◌, true, length}
use Rattle.grammar.specs.Tree.{Element}
use Rattle.reference.specs.Substitute.{PlannedAlternative, in_slot_of, without, with_plain}
use Rattle.planned.specs.Layout.{half, head_at, options_at, hand_at, marked, is_marked, place_of, meaning}
use Rattle.planned.specs.List.{Laid, ListedIn, CallAt}
use Rattle.planned.specs.Moves.{Grown, Pushed}
use Rattle.planned.specs.Laws.Parts.{Copied}
use Rattle.planned.specs.Laws.Kept.{Outside}
use Rattle.planned.specs.declared.list.Sizes.{Sizes}
use Rattle.planned.specs.declared.list.Listed.{Listed}

-- The half of an element, made plain.
pub record MadePlain (h r : ℕ) : Type 0 where
  pub made : is_marked r ≡ true
  pub place : place_of r ≡ place_of h

-- A record listed again as the a-th, with the element at an index made plain.
pub record WrotePresent (before after : List ℕ) (x : Listed) (index a e o : ℕ) : Type 0 where
  pub slot_is : half after (head_at a) ≡ x.slot
  pub origin_is : half after (head_at a + 1) ≡ x.origin
  pub ne_is : half after (head_at a + 2) ≡ x.ne
  pub no_is : half after (head_at a + 3) ≡ x.no
  pub made : MadePlain (half before (x.e + index)) (half after (e + index))
  pub other : (i : ℕ) → i < x.ne → (i ≡ index → ⊥) → half after (e + i) ≡ half before (x.e + i)
  pub options : Copied before after x.o (options_at + o) x.no
  pub outside : Outside before after a (a + 1) e (e + x.ne) o (o + x.no)
  pub hand : (j : ℕ) → hand_at ≤ j → half after j ≡ half before j

-- The same record, in a slot without the mark.
pub record BareOf (h x : Listed) : Type 0 where
  pub slot_is : x.slot ≡ place_of h.slot
  pub slot_bare : x.slot < marked
  pub origin_is : x.origin ≡ h.origin
  pub ne_is : x.ne ≡ h.ne
  pub no_is : x.no ≡ h.no
  pub e_is : x.e ≡ h.e
  pub o_is : x.o ≡ h.o

-- Other elements in the same slot, with the same options.
abbrev pub with_other : {B : Type 0} → PlannedAlternative B → List (Element B) → PlannedAlternative B
with_other p es = in_slot_of p p.options p.origin es

-- The hand is as it was.
pub record SameHand (before after : List ℕ) : Type 0 where
  pub same : (j : ℕ) → hand_at ≤ j → half after j ≡ half before j
  pub long : length after ≡ length before

-- The alternative in hand without the element at an index.
pub record PushedAbsent (before after : List ℕ) (l r : Sizes) (x : Listed) (index : ℕ) : Type 0 where
  pub laid : Laid after r
  pub is : (ws : List ℕ) (end d : ℕ) → ListedIn ws end d before x
      → Pushed ws end d before after l r
      (with_other (meaning ws end d before x) (without index (meaning ws end d before x).elements) ∷ [])
  pub grown : Grown l r 1 (x.ne - 1) x.no
  pub hand : SameHand before after

-- The alternative in hand with the element at an index made plain.
pub record PushedPresent (before after : List ℕ) (l r : Sizes) (x : Listed) (index : ℕ) : Type 0 where
  pub laid : Laid after r
  pub is : (ws : List ℕ) (end d : ℕ) → ListedIn ws end d before x → CallAt ws before x index
      → Pushed ws end d before after l r
      (with_other (meaning ws end d before x) (with_plain index (meaning ws end d before x).elements) ∷ [])
  pub grown : Grown l r 1 x.ne x.no
  pub hand : SameHand before after
