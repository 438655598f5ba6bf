use Rattle.std.proofs.Common.{rules}
use Rattle.writing.proofs.counters.Counters.take.Goals as goal

pub returns-in-Alternative : goal.returns-in-Alternative
returns-in-Alternative c = rw c.in-Alternative.is (search rules)

pub returns-in-Element : goal.returns-in-Element
returns-in-Element c = rw c.in-Element.is (search rules)

pub returns-in-Label : goal.returns-in-Label
returns-in-Label c = rw c.in-Label.is (search rules)

pub returns-in-Action : goal.returns-in-Action
returns-in-Action c = rw c.in-Action.is (search rules)

pub returns-in-Predicate : goal.returns-in-Predicate
returns-in-Predicate c = rw c.in-Predicate.is (search rules)
