-- The settled list while the new sheet is composed behind it: what is as it was, and what is read of it.
use Rattle.std.specs.Prelude.{ℕ, ◌*◌, ◌<◌, ◌≡◌, List, length, get_or}
use Rattle.planned.specs.Layout.{hand_at}
use Rattle.planned.specs.List.{InList}
use Rattle.planned.specs.Reading.{ReadNext}
use Rattle.planned.specs.declared.list.Sizes.{Sizes}
use Rattle.planned.specs.declared.list.Listed.{Listed}
use Rattle.planned.specs.declared.list.Cursor.{Cursor}

-- The word of the work area from which the new sheet is composed. It is behind the list; the hand is free by then.
abbrev pub compose_at : ℕ
compose_at = 8192

-- The list is as it was; what stands from the hand on may be anything.
pub record SameFront (before after : List ℕ) : Type 0 where
  pub long : length after ≡ length before
  pub bytes : (i : ℕ) → i < 2 * hand_at → get_or after i 0 ≡ get_or before i 0

-- A settled alternative is read, whose parts stand in the list and not in the hand.
pub record ReadHere (bs : List ℕ) (l : Sizes) (c : Cursor) (x : Listed) (next : Cursor) : Type 0 where
  pub read : ReadNext bs l c x next
  pub in_list : InList x
