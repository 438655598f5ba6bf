use Rattle.std.proofs.Common.{rules}
use Rattle.rewritable.proofs.items.gives_arguments.Goals as goal
use Rattle.grammar.specs.Laws.Found.{rooms}
use Rattle.rewritable.proofs.Laws.Items.{calls}

pub element_head-requires-clause-bounds : goal.element_head-requires-clause-bounds
element_head-requires-clause-bounds c = search (rules, rooms, calls)

pub returns-then-is_call_of : goal.returns-then-is_call_of
returns-then-is_call_of c = search (rules, rooms, calls)

pub returns-else-is_call_of : goal.returns-else-is_call_of
returns-else-is_call_of c = search (rules, rooms, calls)
