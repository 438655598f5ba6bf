use Rattle.std.proofs.Common.{◌≤◌, arith, rules}
use Rattle.words.specs.Laws.Kinds.{named_kinds}
use Rattle.grammar.specs.Laws.Found.{rooms, inner}
use Rattle.convert.proofs.walk.+tree.Goals as goal
use Rattle.convert.proofs.Laws.Widening.{widening}
use Rattle.convert.proofs.Laws.Leaves.{leaves}
use Rattle.convert.proofs.Laws.Nodes.{nodes}

ruleset trees = (rooms, inner, widening, leaves, nodes)

pub widen_alternative-alternative_head_in-head-requires-clause-bounds : goal.widen_alternative-alternative_head_in-head-requires-clause-bounds
widen_alternative-alternative_head_in-head-requires-clause-bounds t c = search (rules, trees)

pub widen_alternative-widen_elements-requires : goal.widen_alternative-widen_elements-requires
widen_alternative-widen_elements-requires t c = search (rules, trees)

pub widen_alternatives-widen_alternative-p-requires : goal.widen_alternatives-widen_alternative-p-requires
widen_alternatives-widen_alternative-p-requires t c = search (rules, trees)

pub widen_alternatives-loop-preserved : goal.widen_alternatives-loop-preserved
widen_alternatives-loop-preserved t c = search (rules, trees)

pub widen_alternatives-returns : goal.widen_alternatives-returns
widen_alternatives-returns t c = search (rules, trees)

pub widen_element-element_head_in-head-requires-clause-bounds : goal.widen_element-element_head_in-head-requires-clause-bounds
widen_element-element_head_in-head-requires-clause-bounds t c = search (rules, trees, named_kinds)

pub widen_element-copy_up_to-inner-requires-clause-bounds : goal.widen_element-copy_up_to-inner-requires-clause-bounds
widen_element-copy_up_to-inner-requires-clause-bounds t c = search (rules, trees, named_kinds)

pub widen_element-overflow_sub-depth : goal.widen_element-overflow_sub-depth
widen_element-overflow_sub-depth t c = search (rules, trees, named_kinds)

pub widen_element-widen_alternatives-requires : goal.widen_element-widen_alternatives-requires
widen_element-widen_alternatives-requires t c =
    let low : 1 ≤ c.args.depth = search (rules, inner, named_kinds) in (omega arith, search (rules, trees, named_kinds))

pub widen_element-widen_call-requires-clause-bounds : goal.widen_element-widen_call-requires-clause-bounds
widen_element-widen_call-requires-clause-bounds t c = search (rules, trees, named_kinds)

pub widen_element-returns-in-Block : goal.widen_element-returns-in-Block
widen_element-returns-in-Block t c = search (rules, trees, named_kinds)

pub widen_element-returns-in-Call : goal.widen_element-returns-in-Call
widen_element-returns-in-Call t c = search (rules, trees, named_kinds)

pub widen_element-returns-in_default : goal.widen_element-returns-in_default
widen_element-returns-in_default t c = search (rules, trees, named_kinds)

pub widen_elements-widen_element-p-requires : goal.widen_elements-widen_element-p-requires
widen_elements-widen_element-p-requires t c = search (rules, trees)

pub widen_elements-loop-preserved : goal.widen_elements-loop-preserved
widen_elements-loop-preserved t c = search (rules, trees)

pub widen_elements-returns : goal.widen_elements-returns
widen_elements-returns t c = search (rules, trees)

pub widen_alternative-returns : goal.widen_alternative-returns
widen_alternative-returns t c = search (rules, trees)
