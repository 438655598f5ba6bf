use Rattle.std.proofs.Common.{rules}
use Rattle.rewritable.proofs.items.is_silent.Goals as goal
use Rattle.grammar.specs.Laws.Found.{rooms}
use Rattle.rewritable.proofs.Laws.Items.{kind_silent, kind_loud}

pub element_head-requires-clause-bounds : goal.element_head-requires-clause-bounds
element_head-requires-clause-bounds c = search (rules, rooms)

pub returns-in-Epsilon : goal.returns-in-Epsilon
returns-in-Epsilon c = kind_silent _ _ c.element_head.ensures c.in-Epsilon.is

pub returns-in_default : goal.returns-in_default
returns-in_default c =
    kind_loud _ _ c.element_head.ensures c.in_default.not-Epsilon c.in_default.not-Action c.in_default.not-Predicate
