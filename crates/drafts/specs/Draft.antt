-- The draft of a new sheet: rules drawn one after the other, and their ids, names and places.
use Rattle.std.specs.Prelude.{ℕ, ◌+◌, ◌-◌, ◌≤◌, ◌≡◌, List, ◌++◌, length}
use Rattle.grammar.specs.Numbers.{most_words, work_bytes}
use Rattle.grammar.specs.Tree as tree
use Rattle.grammar.specs.Tree.{Rule}
use Rattle.grammar.specs.Encode.{encode_rules}
use Rattle.records.specs.Rules.{RowsOf, IsWith}
use Rattle.writing.specs.Wrote.{Wrote}
use Rattle.writing.specs.Taken.{counters_of}
use Rattle.copies.specs.Pen.{Drawn}
use Rattle.heads.specs.Front.{compose_at}
use Rattle.drafts.specs.declared.draft.Draft.{Draft}

-- Where a sheet that is composed ends at the latest: it has no more words than a sheet may have, and the work area has room for it.
abbrev pub compose_end : ℕ
compose_end = compose_at + most_words

-- The draft so far has these rules.
pub record Follows (rs : List Rule) (a : Draft) : Type 0 where
  pub rows : RowsOf rs a.rules
  pub to : a.pen.to ≡ compose_at + length (encode_rules rs)

-- A draft that rules may be added to.
pub record Open (a : Draft) (work : List ℕ) : Type 0 where
  pub low : compose_at ≤ a.pen.to
  pub long : work_bytes ≤ length work

-- Rules were added: their words, and nothing in the trail.
pub record Added (rs : List Rule) (before after : List ℕ) (a b : Draft) : Type 0 where
  pub wrote : Wrote before after a.pen.to (encode_rules rs)
  pub to : b.pen.to ≡ a.pen.to + length (encode_rules rs)
  pub trail : b.pen.trail ≡ a.pen.trail
  pub counters : counters_of b.pen.counters ≡ counters_of a.pen.counters
  pub rows : (fs : List Rule) → Follows fs a → Follows (fs ++ rs) b

-- Rules were added, and words of entries in the trail.
pub record Drafted (rs : List Rule) (ys : List ℕ) (c : tree.Counters) (work work' trail trail' : List ℕ) (a b : Draft) : Type 0 where
  pub drawn : Drawn (encode_rules rs) ys c work work' trail trail' a.pen b.pen
  pub rows : (fs : List Rule) → Follows fs a → Follows (fs ++ rs) b

-- A row more for what is drawn next, and a pen that is moved on by as many words.
pub record RowAdded (id name n : ℕ) (a b : Draft) : Type 0 where
  pub rows : IsWith a.rules id name (a.pen.to - compose_at) b.rules
  pub to : b.pen.to ≡ a.pen.to + n
  pub trail : b.pen.trail ≡ a.pen.trail
  pub counters : counters_of b.pen.counters ≡ counters_of a.pen.counters
