-- What is read of the planned list.
use Rattle.std.specs.Prelude.{ℕ, ◌+◌, ◌-◌, ◌<◌, ◌≤◌, ◌≡◌, List, ◌∷◌, Bool, length}
use Rattle.grammar.specs.Numbers.{work_bytes}
use Rattle.reference.specs.Numbers.{most_alternatives, most_elements, most_options}
use Rattle.reference.specs.Substitute.{Planned}
use Rattle.planned.specs.Layout.{half, head_at, options_at, meaning, settled, records_from}
use Rattle.planned.specs.List.{Located, ListedIn, AllIn, ItemAt, elements_of, options_of}
use Rattle.planned.specs.declared.list.Sizes.{Sizes}
use Rattle.planned.specs.declared.list.Listed.{Listed}
use Rattle.planned.specs.declared.list.Cursor.{Cursor}

-- There is a record whose head is the a-th, with elements and options from two places on.
pub record RecordRoom (bs : List ℕ) (a x y : ℕ) : Type 0 where
  pub long : work_bytes ≤ length bs
  pub head : a < most_alternatives
  pub elements : x + half bs (head_at a + 2) ≤ most_elements
  pub options : y + half bs (head_at a + 3) ≤ most_options

-- It is this one.
pub record RecordIs (bs : List ℕ) (a x y : ℕ) (r : Listed) : Type 0 where
  pub slot_is : r.slot ≡ half bs (head_at a)
  pub origin_is : r.origin ≡ half bs (head_at a + 1)
  pub ne_is : r.ne ≡ half bs (head_at a + 2)
  pub no_is : r.no ≡ half bs (head_at a + 3)
  pub e_is : r.e ≡ x
  pub o_is : r.o ≡ options_at + y
  pub elements : x + r.ne ≤ most_elements
  pub options : y + r.no ≤ most_options

-- An element of an alternative that is listed.
pub record ItemIs (bs : List ℕ) (x : Listed) (i at : ℕ) (made : Bool) : Type 0 where
  pub is : (ws : List ℕ) (end d : ℕ) → ListedIn ws end d bs x → ItemAt ws end d (meaning ws end d bs x).elements i at made

-- The settled alternatives from a position on.
unfoldable pub settled_from : (ws : List ℕ) (end d : ℕ) (bs : List ℕ) → Sizes → Cursor → List (Planned d)
settled_from ws end d bs l c = records_from ws end d bs (l.out.a - c.a) c.a c.e c.o

-- A position among them.
pub record OnTrack (bs : List ℕ) (l : Sizes) (c : Cursor) : Type 0 where
  pub within : c.a ≤ l.out.a
  pub elements : c.e ≡ elements_of bs c.a 0
  pub options : c.o ≡ options_of bs c.a 0

-- The first one.
pub record AtFront (c : Cursor) : Type 0 where
  pub on : (bs : List ℕ) (l : Sizes) → OnTrack bs l c
  pub all : (ws : List ℕ) (end d : ℕ) (bs : List ℕ) (l : Sizes) → settled_from ws end d bs l c ≡ settled ws end d bs l

-- The alternative at a position, and those behind it.
pub record ReadNext (bs : List ℕ) (l : Sizes) (c : Cursor) (x : Listed) (next : Cursor) : Type 0 where
  pub on : OnTrack bs l next
  pub first : (ws : List ℕ) (end d : ℕ) → settled_from ws end d bs l c ≡ meaning ws end d bs x ∷ settled_from ws end d bs l next
  pub listed : (ws : List ℕ) (end d : ℕ) → AllIn ws end d bs l → ListedIn ws end d bs x
  pub located : Located bs x
