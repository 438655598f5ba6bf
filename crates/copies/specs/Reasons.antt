-- The numbers of the reasons that entries of the trail tell (SPECIFICATION 12.1), and the counter of a sort.
use Rattle.std.specs.Prelude.{ℕ}
use Rattle.reference.specs.Numbers.{rule_boundary, block_boundary}
use Rattle.writing.specs.declared.counters.Counters.{Counters}
use Rattle.copies.specs.declared.pen.Reason.{Reason}
use Rattle.copies.specs.declared.pen.Reason.TheVariants.{RuleBoundary, BlockBoundary}
use Rattle.words.specs.declared.numbers.Sort.{Sort}
use Rattle.words.specs.declared.numbers.Sort.TheVariants.{Alternative, Element, Label, Action, Predicate}

abbrev pub reason_number : Reason → ℕ
reason_number RuleBoundary = rule_boundary
reason_number BlockBoundary = block_boundary

-- The next free id of a sort.
abbrev pub counter_of : Sort → Counters → ℕ
counter_of Alternative c = c.alternative
counter_of Element c = c.element
counter_of Label c = c.label
counter_of Action c = c.action
counter_of Predicate c = c.predicate
