use Rattle.std.proofs.Common.{rules}
use Rattle.sizes.proofs.measure.measure_element.Goals as goal
use Rattle.sizes.proofs.Laws.Elements.{sized}

-- src/measure.rt:39:16
pub overflow_sub-result : goal.overflow_sub-result
overflow_sub-result c = search (rules, sized)

-- src/measure.rt:19:1
pub returns : goal.returns
returns c = search (rules, sized)
