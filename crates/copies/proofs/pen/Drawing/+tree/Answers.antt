use Rattle.std.proofs.Common.{rules}
use Rattle.words.specs.Laws.Kinds.{named_kinds}
use Rattle.copies.proofs.pen.Drawing.+tree.Goals as goal
use native.Mathlib.Omega.{arith}
use Rattle.grammar.specs.Laws.Found.{rooms, inner}
use Rattle.copies.specs.Laws.Grown.{growth}
use Rattle.copies.proofs.Laws.Copying.{copying, copying_fits}
use Rattle.copies.proofs.Laws.Elements.{elementary}
use Rattle.copies.proofs.Laws.Alternatives.{alternating}

ruleset trees = (inner, copying, rooms, elementary, alternating, growth)

pub copy_alternative-alternative_head-head-requires-clause-bounds : goal.copy_alternative-alternative_head-head-requires-clause-bounds
copy_alternative-alternative_head-head-requires-clause-bounds t c = search (rules, trees)

pub copy_alternative-copy_marked-requires-clause-marked_room : goal.copy_alternative-copy_marked-requires-clause-marked_room
copy_alternative-copy_marked-requires-clause-marked_room t c = search (rules, trees)

pub copy_alternative-copy_elements-requires : goal.copy_alternative-copy_elements-requires
copy_alternative-copy_elements-requires t c = search (rules, trees)

pub copy_alternative-returns-clause-copied : goal.copy_alternative-returns-clause-copied
copy_alternative-returns-clause-copied t c = search (rules, trees)

pub copy_alternatives-loop-init : goal.copy_alternatives-loop-init
copy_alternatives-loop-init t c = search (rules, copying)

pub copy_alternatives-copy_alternative-p-requires : goal.copy_alternatives-copy_alternative-p-requires
copy_alternatives-copy_alternative-p-requires t c = search (rules, trees)

pub copy_alternatives-loop-preserved : goal.copy_alternatives-loop-preserved
copy_alternatives-loop-preserved t c = search (rules, trees)

pub copy_alternatives-returns-clause-copied : goal.copy_alternatives-returns-clause-copied
copy_alternatives-returns-clause-copied t c = search (rules, trees)

pub copy_element-element_head-head-requires-clause-bounds : goal.copy_element-element_head-head-requires-clause-bounds
copy_element-element_head-head-requires-clause-bounds t c = search (rules, trees, named_kinds)

pub copy_element-copy_head-requires : goal.copy_element-copy_head-requires
copy_element-copy_head-requires t c = search (rules, trees, named_kinds)

pub copy_element-copy_count-requires : goal.copy_element-copy_count-requires
copy_element-copy_count-requires t c = search (rules, trees, named_kinds)

pub copy_element-overflow_sub-depth : goal.copy_element-overflow_sub-depth
copy_element-overflow_sub-depth t c = search (rules, trees, named_kinds)

pub copy_element-copy_alternatives-requires : goal.copy_element-copy_alternatives-requires
copy_element-copy_alternatives-requires t c =
    let head = rw c.copy_count.ensures.same_entries at c.copy_head.ensures.copied in search (rules, trees, named_kinds)

pub copy_element-copy_leaf-requires : goal.copy_element-copy_leaf-requires
copy_element-copy_leaf-requires t c = search (rules, trees, named_kinds)

pub copy_element-returns-in-Block-clause-copied : goal.copy_element-returns-in-Block-clause-copied
copy_element-returns-in-Block-clause-copied t c =
    let head = rw c.copy_count.ensures.same_entries at c.copy_head.ensures.copied in search (rules, trees, named_kinds)

pub copy_element-returns-in_default : goal.copy_element-returns-in_default
copy_element-returns-in_default t c = search (rules, trees, named_kinds)

pub copy_elements-loop-init : goal.copy_elements-loop-init
copy_elements-loop-init t c = search (rules, copying)

pub copy_elements-copy_element-p-requires : goal.copy_elements-copy_element-p-requires
copy_elements-copy_element-p-requires t c = (omega arith, copying_fits c.loop.invariant.2 (search growth) (search rules))

pub copy_elements-loop-preserved : goal.copy_elements-loop-preserved
copy_elements-loop-preserved t c = search (rules, trees)

pub copy_elements-returns-clause-copied : goal.copy_elements-returns-clause-copied
copy_elements-returns-clause-copied t c = search (rules, trees)
