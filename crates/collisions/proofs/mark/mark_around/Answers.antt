use Rattle.words.specs.Sheet.{text}
use Rattle.std.proofs.Common.{rules}
use Rattle.grammar.specs.Tree.{inner_depth}
use Rattle.collisions.proofs.Laws.Around.{clear_ordered, clear_listed, around_done, around_left}
use Rattle.collisions.proofs.Laws.Mark.{same}
use Rattle.collisions.proofs.mark.mark_around.Goals as goal

pub mark_items-requires-clause-ordered : goal.mark_items-requires-clause-ordered
mark_items-requires-clause-ordered c = search (rules, clear_ordered, clear_listed, same)

pub returns : goal.returns
returns c =
    let before = c.mark_items.ensures in
    let behind = c.mark_items-2.ensures in
    let second = rw (← before.same_name) at behind.marked.1 in
    around_left (search rules)
    (around_done inner_depth (text c.args.s.now) c.args.s.now.end c.args.name c.args.index c.args.work.now _ _ c.args.x _ c.requires.bounds.1
    c.clear_both.ensures before.marked.0 before.marked.1 behind.marked.0 second)
