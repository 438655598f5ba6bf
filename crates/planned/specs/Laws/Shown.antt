-- How many elements and options an alternative that is read has; from their number on there are no elements.
use Prim.Native.Nat.{ℕ, ◌≤◌}
use Rattle.std.specs.Prelude.{◌≡◌, drop, length}
use mathlib.Core.List.{[]}
use Rattle.grammar.specs.Tree.{inner_depth}
use Rattle.words.specs.Sheet.{text}
use Rattle.planned.specs.Laws.Counts.{count_elements, count_options}
use Rattle.planned.specs.Laws.Parts.{no_steps_left}
use Rattle.planned.specs.Shown.{meant}
use Rattle.planned.specs.declared.shown.Shown.{Shown}

module _ (a : Shown) where
  pub elements_many : length (meant a).elements ≡ a.x.ne
  elements_many = count_elements (text a.s.now) a.s.now.end inner_depth a.work.now a.x

  pub options_many : length (meant a).options ≡ a.x.no
  options_many = count_options (text a.s.now) a.s.now.end inner_depth a.work.now a.x

  pub none_left : (i : ℕ) → a.x.ne ≤ i → drop i (meant a).elements ≡ []
  none_left = no_steps_left (text a.s.now) a.s.now.end inner_depth a.work.now a.x
