-- Two sets of names, of labels and of what actions and predicates refer to: places of the sheet in the order of the words that
-- stand there, in the work area behind the planned list. Each has a half: a place, and a bit for each set.
use Rattle.std.specs.Prelude.{ℕ, zero, suc, ◌+◌, ◌-◌, ◌*◌, ◌/◌, ◌%◌, ◌<◌, ◌≤◌, ◌≡◌, ◌⊎◌}
use Rattle.std.specs.Prelude.{List, Bool, false, ◌&&◌, ◌||◌, length, get_or, eqb}
use Rattle.grammar.specs.Numbers.{most_words, work_bytes}
use Rattle.grammar.specs.Lists.{member}
use Rattle.planned.specs.Layout.{half, hand_end}
use Rattle.planned.specs.List.{SameList}
use Rattle.planned.specs.Laws.Same.{same_refl, same_trans}
use Rattle.collisions.specs.declared.names.Set.{Set}
use Rattle.collisions.specs.declared.names.Set.TheVariants.{Labels, References}

-- The halves that say where the entries begin and end; where they may stand.
abbrev pub entries_at : ℕ
entries_at = hand_end + 2

abbrev pub entries_end : ℕ
entries_end = hand_end + most_words

abbrev pub most_entries : ℕ
most_entries = most_words - 2

-- What a half has more than a place, where one or the other set has the name.
abbrev pub labels_bit : ℕ
labels_bit = most_words

abbrev pub references_bit : ℕ
references_bit = 2 * most_words

abbrev pub set_bit : Set → ℕ
set_bit Labels = labels_bit
set_bit References = references_bit

pub record IsSet (w : ℕ) : Type 0 where
  pub is : (w ≡ labels_bit) ⊎ (w ≡ references_bit)

abbrev pub low_in : List ℕ → ℕ
low_in bs = half bs hand_end

abbrev pub high_in : List ℕ → ℕ
high_in bs = half bs (hand_end + 1)

abbrev pub count_in : List ℕ → ℕ
count_in bs = high_in bs - low_in bs

abbrev pub entry : List ℕ → ℕ → ℕ
entry bs i = half bs (low_in bs + i)

unfoldable pub has_bit : ℕ → ℕ → Bool
has_bit w h = eqb (h / w % 2) 1

-- The name that the i-th has.
unfoldable pub name_at : List ℕ → List ℕ → ℕ → ℕ
name_at ws bs i = get_or ws (entry bs i % most_words) 0

-- The name that a half leads to.
unfoldable pub entry_name : List ℕ → List ℕ → ℕ
entry_name ws h = get_or ws (half h 0 % most_words) 0

-- Whether one of the first k has a name, and a set has it.
unfoldable pub has_among : List ℕ → List ℕ → ℕ → ℕ → ℕ → Bool
has_among ws bs w n zero = false
has_among ws bs w n (suc k) = (has_bit w (entry bs k) && eqb n (name_at ws bs k)) || has_among ws bs w n k

unfoldable pub has_name : List ℕ → List ℕ → ℕ → ℕ → Bool
has_name ws bs w n = has_among ws bs w n (count_in bs)

-- Names rise, and stand in the sheet. So they differ, and are fewer than its words.
pub record Ordered (ws : List ℕ) (end : ℕ) (bs : List ℕ) : Type 0 where
  pub long : work_bytes ≤ length bs
  pub low : end ≤ most_words
  pub first : entries_at ≤ low_in bs
  pub order : low_in bs ≤ high_in bs
  pub last : high_in bs ≤ entries_end
  pub some : (i : ℕ) → i < count_in bs → 1 < entry bs i % most_words
  pub within : (i : ℕ) → i < count_in bs → entry bs i % most_words < end
  pub rises : (i j : ℕ) → i < j → j < count_in bs → name_at ws bs i < name_at ws bs j

-- The list is as it was, and names rise.
pub record Kept (ws : List ℕ) (end : ℕ) (before after : List ℕ) : Type 0 where
  pub list : SameList before after
  pub ordered : Ordered ws end after

module _ {ws : List ℕ} {end : ℕ} where
  pub kept_refl : {bs : List ℕ} → Ordered ws end bs → Kept ws end bs bs
  kept_refl {bs} o = record { list = same_refl bs; ordered = o }

  pub kept_trans : {as' bs cs : List ℕ} → Kept ws end as' bs → Kept ws end bs cs → Kept ws end as' cs
  kept_trans s t = record { list = same_trans s.list t.list; ordered = t.ordered }

-- One name more in a set, and none in the other.
pub record NamePut (ws : List ℕ) (end : ℕ) (before after : List ℕ) (w name : ℕ) : Type 0 where
  pub kept : Kept ws end before after
  pub here : (n : ℕ) → has_name ws after w n ≡ (has_name ws before w n || eqb n name)
  pub other : (v : ℕ) → IsSet v → (v ≡ w → ⊥) → (n : ℕ) → has_name ws after v n ≡ has_name ws before v n

-- Neither set has a name, and the list is as it was.
pub record Cleared (before after : List ℕ) : Type 0 where
  pub list : SameList before after
  pub ordered : (ws : List ℕ) (end : ℕ) → end ≤ most_words → Ordered ws end after
  pub no_name : (ws : List ℕ) (w n : ℕ) → has_name ws after w n ≡ false

-- The sets hold the members of two lists.
pub record Marked (ws bs labels references : List ℕ) : Type 0 where
  pub of_labels : (n : ℕ) → has_name ws bs labels_bit n ≡ member n labels
  pub of_references : (n : ℕ) → has_name ws bs references_bit n ≡ member n references
