-- A planned alternative as it is read.
use Rattle.std.specs.Prelude.{ℕ, Bool}
use Rattle.grammar.specs.Tree.{inner_depth}
use Rattle.reference.specs.Substitute.{Planned}
use Rattle.words.specs.Sheet.{text}
use Rattle.planned.specs.Layout.{meaning}
use Rattle.planned.specs.List.{ItemAt}
use Rattle.planned.specs.declared.shown.Shown.{Shown}

abbrev pub meant : Shown → Planned inner_depth
meant a = meaning (text a.s.now) a.s.now.end inner_depth a.work.now a.x

-- Its element at an index.
abbrev pub ItemOf : Shown → (i at : ℕ) → Bool → Type 0
ItemOf a = ItemAt (text a.s.now) a.s.now.end inner_depth (meant a).elements
