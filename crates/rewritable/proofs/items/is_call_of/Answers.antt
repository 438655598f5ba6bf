use Rattle.std.proofs.Common.{rules}
use Rattle.rewritable.proofs.items.is_call_of.Goals as goal
use Rattle.grammar.specs.Laws.Found.{rooms}
use Rattle.words.specs.Laws.Kinds.{is_call, no_call}
use Rattle.rewritable.proofs.Laws.Items.{not_call, other_call, call_named}

pub element_head-head-requires-clause-bounds : goal.element_head-head-requires-clause-bounds
element_head-head-requires-clause-bounds c = search (rules, rooms)

pub returns-then-is_one : goal.returns-then-is_one
returns-then-is_one c =
    call_named _ _ _ c.element_head-head.ensures c.is_one.ensures c.if-is_one.true (is_call c.in-Call.is) c.word.ensures

pub returns-else-is_one : goal.returns-else-is_one
returns-else-is_one c =
    rw c.if-is_one.false (other_call _ _ _ c.element_head-head.ensures c.is_one.ensures c.if-is_one.false)

pub returns-in_default : goal.returns-in_default
returns-in_default c = not_call _ _ _ c.element_head-head.ensures (no_call c.in_default.not-Call)
