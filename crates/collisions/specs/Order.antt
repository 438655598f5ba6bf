-- What is looked up and put among the names in order.
use Rattle.std.specs.Prelude.{ℕ, ◌+◌, ◌%◌, ◌<◌, ◌≤◌, ◌≡◌, List, Bool, true, false, length}
use Rattle.grammar.specs.Numbers.{most_words, work_bytes}
use Rattle.planned.specs.Layout.{half}
use Rattle.planned.specs.Halves.{HalfPut}
use Rattle.planned.specs.List.{SameList}
use Rattle.collisions.specs.Names.{IsSet, entries_at, entries_end, most_entries, low_in, high_in, count_in, entry, has_bit, name_at}

-- Whether the k-th has the name.
pub record IsAt (ws bs : List ℕ) (name k : ℕ) (r : Bool) : Type 0 where
  pub within : k ≤ count_in bs
  pub found : r ≡ true → k < count_in bs
  pub is : r ≡ true → name_at ws bs k ≡ name
  pub less : r ≡ false → (i : ℕ) → i < k → name_at ws bs i < name
  pub more : r ≡ false → (i : ℕ) → k ≤ i → i < count_in bs → name < name_at ws bs i

-- The same place, in one set more.
pub record Joined (h w r : ℕ) : Type 0 where
  pub place : r % most_words ≡ h % most_words
  pub here : has_bit w r ≡ true
  pub other : (v : ℕ) → IsSet v → (v ≡ w → ⊥) → has_bit v r ≡ has_bit v h

-- The halves from one place up to another stand one further behind; those in front of them are as they were.
pub record Raised (before after : List ℕ) (from to : ℕ) : Type 0 where
  pub moved : (j : ℕ) → from ≤ j → j < to → half after (j + 1) ≡ half before j
  pub front : (j : ℕ) → j < from → half after j ≡ half before j
  pub long : length after ≡ length before

-- There is room on the side that is to be moved.
pub record Nearer (low high : ℕ) (r : Bool) : Type 0 where
  pub down : r ≡ true → entries_at < low
  pub up : r ≡ false → high < entries_end

-- One entry more may come, as the k-th.
pub record Insertable (bs : List ℕ) (k : ℕ) : Type 0 where
  pub long : work_bytes ≤ length bs
  pub first : entries_at ≤ low_in bs
  pub order : low_in bs ≤ high_in bs
  pub last : high_in bs ≤ entries_end
  pub few : count_in bs < most_entries
  pub within : k ≤ count_in bs

-- One entry more, as the k-th.
pub record Inserted (before after : List ℕ) (k v : ℕ) : Type 0 where
  pub list : SameList before after
  pub count : count_in after ≡ count_in before + 1
  pub first : entries_at ≤ low_in after
  pub order : low_in after ≤ high_in after
  pub last : high_in after ≤ entries_end
  pub front : (i : ℕ) → i < k → entry after i ≡ entry before i
  pub here : entry after k ≡ v
  pub moved : (i : ℕ) → k ≤ i → i < count_in before → entry after (i + 1) ≡ entry before i

-- The name of the k-th entry is in one set more.
pub record InSet (before after : List ℕ) (k w : ℕ) : Type 0 where
  pub value : ℕ
  pub joined : Joined (entry before k) w value
  pub put : HalfPut before after (low_in before + k) value
