-- What is written of one record.
use Rattle.std.specs.Prelude.{ℕ, ◌+◌, ◌-◌, ◌<◌, ◌≤◌, ◌≡◌, List, length}
use Rattle.grammar.specs.Numbers.{work_bytes}
use Rattle.reference.specs.Numbers.{most_alternatives, most_elements, most_options}
use Rattle.planned.specs.Layout.{half, head_at, options_at, hand_at, hand_end}
use Rattle.planned.specs.Laws.Parts.{Copied}
use Rattle.planned.specs.Laws.Kept.{Outside}
use Rattle.planned.specs.declared.list.Listed.{Listed}

-- A head, and nothing else.
pub record HeadPut (before after : List ℕ) (a slot origin ne no : ℕ) : Type 0 where
  pub slot_is : half after (head_at a) ≡ slot
  pub origin_is : half after (head_at a + 1) ≡ origin
  pub ne_is : half after (head_at a + 2) ≡ ne
  pub no_is : half after (head_at a + 3) ≡ no
  pub front : (j : ℕ) → j < head_at a → half after j ≡ half before j
  pub behind : (j : ℕ) → head_at a + 4 ≤ j → half after j ≡ half before j
  pub long : length after ≡ length before

-- Options and head of the a-th record, and nothing else: its options from a place on, as they stood from another on.
pub record Finished (before after : List ℕ) (slot origin ne no from a o : ℕ) : Type 0 where
  pub slot_is : half after (head_at a) ≡ slot
  pub origin_is : half after (head_at a + 1) ≡ origin
  pub ne_is : half after (head_at a + 2) ≡ ne
  pub no_is : half after (head_at a + 3) ≡ no
  pub options : Copied before after from (options_at + o) no
  pub front : (j : ℕ) → j < head_at a → half after j ≡ half before j
  pub between : (j : ℕ) → head_at (a + 1) ≤ j → j < options_at + o → half after j ≡ half before j
  pub behind : (j : ℕ) → options_at + (o + no) ≤ j → half after j ≡ half before j
  pub long : length after ≡ length before

-- There is room for them.
pub record Finishable (bs : List ℕ) (ne no from a o : ℕ) : Type 0 where
  pub long : work_bytes ≤ length bs
  pub head : a < most_alternatives
  pub elements : ne ≤ most_elements
  pub options : o + no ≤ most_options
  pub source : from + no ≤ hand_end

-- n halves are copied without the one at an index.
pub record CopiedWithout (before after : List ℕ) (from to n index : ℕ) : Type 0 where
  pub here : Copied before after from to index
  pub rest : Copied before after (from + (index + 1)) (to + index) (n - (index + 1))
  pub front : (j : ℕ) → j < to → half after j ≡ half before j
  pub behind : (j : ℕ) → to + (n - 1) ≤ j → half after j ≡ half before j
  pub long : length after ≡ length before

-- As the a-th record a record may be listed again, with its elements and options from two places on. Its options, which are copied last,
-- do not stand where its elements come.
pub record Writable (x : Listed) (a e o : ℕ) : Type 0 where
  pub head : a < most_alternatives
  pub elements : e + x.ne ≤ most_elements
  pub options : o + x.no ≤ most_options
  pub behind : options_at ≤ x.o

-- So it is listed again.
pub record Wrote (before after : List ℕ) (x : Listed) (a e o : ℕ) : Type 0 where
  pub slot_is : half after (head_at a) ≡ x.slot
  pub origin_is : half after (head_at a + 1) ≡ x.origin
  pub ne_is : half after (head_at a + 2) ≡ x.ne
  pub no_is : half after (head_at a + 3) ≡ x.no
  pub elements : Copied before after x.e e x.ne
  pub options : Copied before after x.o (options_at + o) x.no
  pub outside : Outside before after a (a + 1) e (e + x.ne) o (o + x.no)
  pub hand : (j : ℕ) → hand_at ≤ j → half after j ≡ half before j
